-- The command `gcd N`: the greatest common left divisor of two positive words, and what is left of them.
--
-- Source: this project's own; that positive braids have such a divisor is shown by F. A. Garside, The braid
-- group and other groups, 1969.
--
--   division_text d                  the lines of a divisor and of what is left of two words behind it
--   IsDivided N u v a                a is the answer on the words u and v
--   IsDividedOf N words a            a is the answer on what an input has
--   HasGreatestDivisor N input text  the text is the divisor of the words of the input, and what is left
--   gcd_meaning N                    what the command means
--   gcd_of words                     the number of its words
use Rattle.std.specs.Prelude.{◌≡◌, ℕ, Bool, List, ◌++◌, codes, Option, Some, None, Result, Ok, Err}
use Rattle.wb_base.specs.Lines.{line}
use Rattle.wb_base.specs.Status.{Answer, answer}
use Rattle.wb_base.specs.declared.status.Status.TheVariants.{Done}
use Rattle.braid_word.specs.Words.{Letter, IsOn, IsPositiveWord}
use Rattle.braid_word.specs.Equivalence.{EquivalentOn}
use Rattle.braid_word.specs.Notation.{word_field}
use Rattle.braid_gcd.specs.NormalWords.{IsAnswerOf}
use Rattle.braid_gcd.specs.NormalWords as divisions
use Rattle.braid_gcd.specs.Faults.{length_fault}
use Rattle.braid_gcd.specs.declared.TheConstants.{MAX_DIVIDED}
use Rattle.wb_command.specs.declared.fault.Fault.{Fault}
use Rattle.wb_command.specs.Answers.{bad_input, limit_met}
use Rattle.wb_command.specs.Inputs.{two_positive_words}
use Rattle.wb_command.specs.Args.{then_read, first_number, last_read, rest_of}
use Rattle.wb_command.specs.Meaning.{Meaning, reads_whole}
use Rattle.wb_command.specs.declared.TheConstants.{MAX_STRANDS}

-- ---- Answers ----

-- A line of a name and a word: `left 1 2`, or `left` of the empty word.
abbrev pub named_word : List ℕ → List Letter → List ℕ
named_word name w = line (name ++ word_field w)

-- The lines of a divisor and of what is left of two words behind it.
abbrev pub division_text : divisions.Answer → List ℕ
division_text d =
    (named_word (codes "divisor") d.divisor ++ named_word (codes "left") d.left)
    ++ named_word (codes "right") d.right

abbrev pub division_answer : divisions.Answer → Answer
division_answer d = answer Done (division_text d)

-- A word has too many letters: `limit letters 2000`.
abbrev pub letters_met : Answer
letters_met = limit_met (codes "letters ") MAX_DIVIDED

-- The answer is the greatest common divisor of two words on so many strands and what is left of them. There
-- is one (`IsAnswerOf-unique` of `braid_gcd`).
pub record IsDivided (strands : ℕ) (u v : List Letter) (a : Answer) : Type 0 where
  pub division : divisions.Answer
  pub divided : IsAnswerOf strands u v division.divisor division.left division.right
  pub is : a ≡ division_answer division

-- The answer on two words, of which one may have too many letters.
abbrev pub IsDividedOr : ℕ → List Letter → List Letter → Option (Bool × ℕ) → Answer → Type 0
IsDividedOr strands u v (Some fault) a = a ≡ letters_met
IsDividedOr strands u v None a = IsDivided strands u v a

-- The answer on what an input has: two positive words, or a fault.
abbrev pub IsDividedOf : ℕ → Result (List Letter × List Letter) Fault → Answer → Type 0
IsDividedOf strands (Err fault) a = a ≡ bad_input fault
IsDividedOf strands (Ok (u, v)) a = IsDividedOr strands u v (length_fault u v) a

-- ---- The command ----

-- The input is two positive words on so many strands, and the text their greatest common left divisor there
-- and what is left of them behind it. Equivalent words have the same.
pub record HasGreatestDivisor (strands : ℕ) (input text : List ℕ) : Type 0 where
  pub first : List Letter
  pub second : List Letter
  pub read : two_positive_words strands input ≡ Ok (first, second)
  pub on : IsOn strands first × IsOn strands second
  pub positive : IsPositiveWord first × IsPositiveWord second
  pub division : divisions.Answer
  pub divided : IsAnswerOf strands first second division.divisor division.left division.right
  pub only : (u v g a b : List Letter) → EquivalentOn strands first u → EquivalentOn strands second v
      → IsAnswerOf strands u v g a b
      → (division.divisor ≡ g) × (division.left ≡ a) × (division.right ≡ b)
  pub is : text ≡ division_text division

abbrev pub gcd_meaning : ℕ → Meaning
gcd_meaning strands = record {
  reads = reads_whole;
  answers = λ input a. IsDividedOf strands (two_positive_words strands input) a;
  says = λ input text. HasGreatestDivisor strands input text;
  refuses = λ input text. ⊥;
  serves = λ before now s. Unit {0};
}

-- The number of strands.
abbrev pub gcd_of : List (List ℕ) → Option ℕ
gcd_of words = then_read (first_number 2 MAX_STRANDS words) (λ strands. last_read (rest_of words) strands)
