-- The command `same N`: whether two words are equivalent on N strands.
--
-- Source: this project's own; normal forms decide it, after E. A. El-Rifai and H. R. Morton, Algorithms for
-- positive braids, 1994.
--
--   IsDecided N u v a         a is the answer on the words u and v
--   IsSameOf N words a        a is the answer on what the input has
--   HasDecision N input text  the text says whether the two words of the input are equivalent
--   same_meaning N            what the command means
--   strands_of words          the number of its words
use Rattle.std.specs.Prelude.{◌≡◌, ◌↔◌, ◌⊎◌, ℕ, Bool, true, false, List, codes, Option, Result, Ok, Err}
use Rattle.wb_base.specs.Lines.{line}
use Rattle.wb_base.specs.Status.{Answer, answer}
use Rattle.wb_base.specs.declared.status.Status.TheVariants.{Done}
use Rattle.braid_word.specs.Words.{Letter, IsOn}
use Rattle.braid_word.specs.Equivalence.{EquivalentOn}
use Rattle.trace_format.specs.declared.verdict.Verdict.TheVariants.{Equal}
use Rattle.wb_command.specs.declared.TheConstants.{MAX_STRANDS}
use Rattle.wb_command.specs.declared.fault.Fault.{Fault}
use Rattle.wb_command.specs.Answers.{bad_input}
use Rattle.wb_command.specs.Args.{then_read, first_number, last_read, rest_of}
use Rattle.wb_command.specs.Inputs.{two_words}
use Rattle.wb_command.specs.Meaning.{Meaning, reads_whole}
use Rattle.wb_compare.specs.Compare.{HasVerdict}

-- The lines of `same`.
abbrev pub same_text : List ℕ
same_text = line (codes "same")

abbrev pub different_text : List ℕ
different_text = line (codes "different")

-- The answer says whether two words are equivalent on so many strands.
pub data IsDecided (strands : ℕ) (u v : List Letter) (a : Answer) : Type 0 where
  are_same : EquivalentOn strands u v → a ≡ answer Done same_text → IsDecided strands u v a
  are_different : (EquivalentOn strands u v → ⊥) → a ≡ answer Done different_text → IsDecided strands u v a

-- `same N` on what its input has.
abbrev pub IsSameOf : ℕ → Result (List Letter × List Letter) Fault → Answer → Type 0
IsSameOf strands (Err fault) a = a ≡ bad_input fault
IsSameOf strands (Ok (u, v)) a = IsDecided strands u v a

-- What `same` writes.
abbrev pub decided : Bool → Answer
decided true = answer Done same_text
decided false = answer Done different_text

-- The input is two words on so many strands, and the text says that they are equivalent there exactly where
-- they are. Where `compare` has a verdict on this input it is equal exactly where the text says so.
pub record HasDecision (strands : ℕ) (input text : List ℕ) : Type 0 where
  pub left : List Letter
  pub right : List Letter
  pub read : two_words strands input ≡ Ok (left, right)
  pub on : IsOn strands left × IsOn strands right
  pub either : (text ≡ same_text) ⊎ (text ≡ different_text)
  pub same : (text ≡ same_text) ↔ EquivalentOn strands left right
  pub agrees : (trace : List ℕ) (verdict : HasVerdict input trace) → (text ≡ same_text)
      ↔ (verdict.trace.verdict ≡ Equal)

abbrev pub same_meaning : ℕ → Meaning
same_meaning strands = record {
  reads = reads_whole;
  answers = λ input a. IsSameOf strands (two_words strands input) a;
  says = λ input text. HasDecision strands input text;
  refuses = λ input text. ⊥;
  serves = λ before now s. Unit {0};
}

-- The number of strands.
abbrev pub strands_of : List (List ℕ) → Option ℕ
strands_of words = then_read (first_number 2 MAX_STRANDS words) (λ strands. last_read (rest_of words) strands)
