-- The command `normal N`: the normal form of a word.
--
-- Source: this project's own; the normal form is that of D. B. A. Epstein and others, Word Processing in
-- Groups, 1992.
--
--   IsNormalised N w a            a is the answer on the word w
--   IsNormalOf N word a           a is the answer on what an input has
--   HasNormalForm N input text    the text is the normal form of the word of the input
--   normal_meaning N              what the command means
--   normal_of words               the number of its words
use Rattle.std.specs.Prelude.{◌≡◌, ℕ, List, Option, Result, Ok, Err}
use Rattle.wb_base.specs.Status.{Answer, answer}
use Rattle.wb_base.specs.declared.status.Status.TheVariants.{Done}
use Rattle.braid_word.specs.Words.{Letter, IsOn}
use Rattle.garside_form.specs.NormalForms.{Form, IsFormOf}
use Rattle.garside_form.specs.NormalText.{normal_text}
use Rattle.wb_command.specs.declared.fault.Fault.{Fault}
use Rattle.wb_command.specs.Answers.{bad_input}
use Rattle.wb_command.specs.Inputs.{one_word}
use Rattle.wb_command.specs.Args.{then_read, first_number, last_read, rest_of}
use Rattle.wb_command.specs.Meaning.{Meaning, reads_whole}
use Rattle.wb_command.specs.declared.TheConstants.{MAX_STRANDS}

-- ---- Answers ----

-- The lines of a normal form.
abbrev pub form_answer : Form → Answer
form_answer form = answer Done (normal_text form)

-- The answer is the normal form of a word on so many strands. There is one (`IsFormOf-equivalent` of
-- `garside_form`).
pub record IsNormalised (strands : ℕ) (w : List Letter) (a : Answer) : Type 0 where
  pub form : Form
  pub on : form.strands ≡ strands
  pub normal : IsFormOf form w
  pub is : a ≡ form_answer form

-- The answer on what an input has: a word, or a fault.
abbrev pub IsNormalOf : ℕ → Result (List Letter) Fault → Answer → Type 0
IsNormalOf strands (Err fault) a = a ≡ bad_input fault
IsNormalOf strands (Ok w) a = IsNormalised strands w a

-- ---- The command ----

-- The input is a word on so many strands, and the text its normal form there, of which there is one.
pub record HasNormalForm (strands : ℕ) (input text : List ℕ) : Type 0 where
  pub word : List Letter
  pub read : one_word strands input ≡ Ok word
  pub on : IsOn strands word
  pub form : Form
  pub is_on : form.strands ≡ strands
  pub normal : IsFormOf form word
  pub only : (other : Form) → other.strands ≡ strands → IsFormOf other word → other ≡ form
  pub is : text ≡ normal_text form

abbrev pub normal_meaning : ℕ → Meaning
normal_meaning strands = record {
  reads = reads_whole;
  answers = λ input a. IsNormalOf strands (one_word strands input) a;
  says = λ input text. HasNormalForm strands input text;
  refuses = λ input text. ⊥;
  serves = λ before now s. Unit {0};
}

-- The number of strands.
abbrev pub normal_of : List (List ℕ) → Option ℕ
normal_of words = then_read (first_number 2 MAX_STRANDS words) (λ strands. last_read (rest_of words) strands)
