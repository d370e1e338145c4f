-- The command `reverse-check`: whether a reverse file is accepted.
--
-- Source: this project's own.
--
--   why_word why           a cause of refusal, as it is written
--   accepted_text          the line of an accepted file
--   checked file           the answer on what a file is
--   IsChecked input text   the input is an accepted reverse file, and the text says so
--   HasRefusal input text  the input isn't accepted, and the text its first refusal
--   reverse_check_meaning  what the command means
use Rattle.std.specs.Prelude.{◌≡◌, ℕ, List, codes, Result, Ok, Err}
use Rattle.wb_base.specs.Lines.{line}
use Rattle.wb_base.specs.Status.{Answer, answer}
use Rattle.wb_base.specs.declared.status.Status.TheVariants.{Done, Refused}
use Rattle.word_reverse.specs.ReverseText.{Reversal}
use Rattle.word_reverse.specs.Accepted.{Claim, IsAccepted, IsValid}
use Rattle.word_reverse.specs.Checking.{checked_of}
use Rattle.word_reverse.specs.FirstRefusal.{IsFirstRefusal}
use Rattle.word_reverse.specs.declared.fraction.ReverseWhy.{ReverseWhy}
use Rattle.word_reverse.specs.declared.fraction.ReverseWhy.TheVariants as causes
use Rattle.wb_command.specs.Meaning.{Meaning, reads_whole}
use Rattle.wb_command.specs.Refusals.{refused_line}
use Rattle.wb_reverse.specs.declared.reverse_check.Judged.{Judged}
use Rattle.wb_reverse.specs.declared.reverse_check.Judged.TheVariants as judged

-- A cause of refusal, as it is written.
abbrev pub why_word : ReverseWhy → List ℕ
why_word causes.Form = codes "form"
why_word causes.Header = codes "header"
why_word causes.Step = codes "step"
why_word causes.Long = codes "long"
why_word causes.Fraction = codes "fraction"
why_word causes.Truncated = codes "truncated"
why_word causes.Extra = codes "extra"

-- The line of an accepted file.
abbrev pub accepted_text : List ℕ
accepted_text = line (codes "accepted")

-- `reverse-check` on what its input is: a file that claims something, or its first refusal.
abbrev pub checked : Result Claim (ℕ × ReverseWhy) → Answer
checked (Ok claim) = answer Done accepted_text
checked (Err (k, why)) = answer Refused (refused_line k (why_word why))

-- The answer of a file that was checked.
abbrev pub judged_answer : Judged → Answer
judged_answer (judged.Accepted claim) = answer Done accepted_text
judged_answer (judged.Refused line why) = answer Refused (refused_line line (why_word why))

-- The input is an accepted reverse file: its steps turn corners, and its fraction, which they lead to,
-- represents the braid of its word.
pub record IsChecked (input text : List ℕ) : Type 0 where
  pub reversal : Reversal
  pub accepted : IsAccepted input reversal
  pub valid : IsValid reversal
  pub is : text ≡ accepted_text

-- The input isn't accepted as any reversal, and the text says its first refusal.
pub record HasRefusal (input text : List ℕ) : Type 0 where
  pub line : ℕ
  pub why : ReverseWhy
  pub first : IsFirstRefusal input line why
  pub none : (r : Reversal) → IsAccepted input r → ⊥
  pub is : text ≡ refused_line line (why_word why)

abbrev pub reverse_check_meaning : Meaning
reverse_check_meaning = record {
  reads = reads_whole;
  answers = λ input a. checked (checked_of input) ≡ a;
  says = λ input text. IsChecked input text;
  refuses = λ input text. HasRefusal input text;
  serves = λ before now s. Unit {0};
}
