-- The command `check`: whether a trace file is accepted.
--
-- Source: this project's own.
--
--   why_word why           a cause of refusal, as it is written
--   accepted_text verdict  the line of an accepted file
--   refused_text k why     the line of a refused one
--   checked file           the answer on what a file is
--   IsChecked input text   the input is an accepted trace, and the text its verdict
--   HasRefusal input text  the input isn't accepted, and the text its first refusal
--   check_meaning          what the command means
use Rattle.std.specs.Prelude.{◌≡◌, ℕ, List, ◌++◌, codes, Result, Ok, Err}
use Rattle.wb_base.specs.Lines.{line}
use Rattle.wb_base.specs.Status.{Answer, answer}
use Rattle.wb_base.specs.declared.status.Status.TheVariants.{Done, Refused}
use Rattle.trace_format.specs.declared.verdict.Verdict.{Verdict}
use Rattle.trace_format.specs.TraceText.{verdict_word, Trace}
use Rattle.trace_check.specs.Accepted.{Claim, IsAccepted, IsValid}
use Rattle.trace_check.specs.Checking.{checked_of}
use Rattle.trace_check.specs.FirstRefusal.{IsFirstRefusal}
use Rattle.trace_check.specs.declared.checked.Why.{Why}
use Rattle.trace_check.specs.declared.checked.Why.TheVariants as causes
use Rattle.wb_command.specs.Meaning.{Meaning, reads_whole}
use Rattle.wb_command.specs.Refusals.{refused_line}
use Rattle.wb_compare.specs.declared.check.Judged.{Judged}
use Rattle.wb_compare.specs.declared.check.Judged.TheVariants as judged

-- A cause of refusal, as it is written.
abbrev pub why_word : Why → List ℕ
why_word causes.Form = codes "form"
why_word causes.Header = codes "header"
why_word causes.Step = codes "step"
why_word causes.Long = codes "long"
why_word causes.Witness = codes "witness"
why_word causes.Sign = codes "sign"
why_word causes.Truncated = codes "truncated"
why_word causes.Extra = codes "extra"

-- The line of an accepted file, and that of a refused one.
abbrev pub accepted_text : Verdict → List ℕ
accepted_text verdict = line (codes "accepted " ++ verdict_word verdict)

abbrev pub refused_text : ℕ → Why → List ℕ
refused_text k why = refused_line k (why_word why)

-- `check` on what its input is: a file that claims something, or its first refusal.
abbrev pub checked : Result Claim (ℕ × Why) → Answer
checked (Ok claim) = answer Done (accepted_text claim.verdict)
checked (Err (k, why)) = answer Refused (refused_text k why)

-- The answer of a file that was checked.
abbrev pub judged_answer : Judged → Answer
judged_answer (judged.Accepted verdict) = answer Done (accepted_text verdict)
judged_answer (judged.Refused line why) = answer Refused (refused_text line why)

-- The input is an accepted trace, which is valid, and the text says its verdict.
pub record IsChecked (input text : List ℕ) : Type 0 where
  pub trace : Trace
  pub accepted : IsAccepted input trace
  pub valid : IsValid trace
  pub is : text ≡ accepted_text trace.verdict

-- The input isn't accepted as any trace, and the text says its first refusal.
pub record HasRefusal (input text : List ℕ) : Type 0 where
  pub line : ℕ
  pub why : Why
  pub first : IsFirstRefusal input line why
  pub none : (t : Trace) → IsAccepted input t → ⊥
  pub is : text ≡ refused_text line why

abbrev pub check_meaning : Meaning
check_meaning = record {
  reads = reads_whole;
  answers = λ input a. checked (checked_of input) ≡ a;
  says = λ input text. IsChecked input text;
  refuses = λ input text. HasRefusal input text;
  serves = λ before now s. Unit {0};
}
