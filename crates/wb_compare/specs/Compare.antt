-- The command `compare H L`: two words in the Dehornoy order.
--
-- Source: this project's own; handle reduction is that of P. Dehornoy, A fast method for comparing braids,
-- 1997.
--
--   compared H L u v       the answer on the words u and v
--   compared_words H L ws  the answer on what the input has
--   HasVerdict input text  the text is an accepted trace of the two words of the input
--   compare_meaning ls     what the command means
use Rattle.std.specs.Prelude.{◌≡◌, ◌↔◌, ℕ, ◌+◌, ◌≤◌, List, length, Option, Some, Result, Ok, Err}
use Rattle.wb_base.specs.Status.{Answer, answer}
use Rattle.wb_base.specs.declared.status.Status.TheVariants.{Done}
use Rattle.braid_word.specs.Words.{Letter, IsOn}
use Rattle.braid_word.specs.Equivalence.{EquivalentOn}
use Rattle.braid_word.specs.declared.TheConstants.{MAX_INDEX}
use Rattle.trace_format.specs.declared.verdict.Verdict.TheVariants.{Equal}
use Rattle.trace_format.specs.TraceText.{words, Trace, trace_text}
use Rattle.trace_check.specs.Accepted.{IsAccepted, IsValid}
use Rattle.wb_command.specs.declared.TheConstants.{MAX_INPUT}
use Rattle.wb_command.specs.declared.fault.Fault.{Fault}
use Rattle.wb_command.specs.Answers.{bad_input}
use Rattle.wb_command.specs.Inputs.{two_words}
use Rattle.wb_command.specs.Meaning.{Meaning, reads_whole}
use Rattle.wb_compare.specs.Limits.{Limits}
use Rattle.wb_compare.specs.Reductions.{run_answer, trace_of}
use Rattle.wb_compare.specs.declared.compare.Compared.{Compared}

-- `compare H L` on two words.
abbrev pub compared : ℕ → ℕ → List Letter → List Letter → Option Answer
compared handles limit u v = run_answer (λ run verdict. trace_text (trace_of (words u v) run verdict))
    handles limit u v

-- `compare H L` on what its input has.
abbrev pub compared_words : ℕ → ℕ → Result (List Letter × List Letter) Fault → Option Answer
compared_words handles limit (Err fault) = Some (bad_input fault)
compared_words handles limit (Ok (u, v)) = compared handles limit u v

-- The text of a comparison that has come to a verdict.
abbrev pub compared_answer : Compared → Answer
compared_answer done = answer Done (trace_text
    (trace_of (words done.left done.right) done.reducer.run done.verdict))

-- The text is a trace of the two words of the input, would be accepted by `check`, which can read it, and is
-- valid. Its verdict is equal exactly where the words are equivalent, on any number of strands that both are
-- on.
pub record HasVerdict (input text : List ℕ) : Type 0 where
  pub left : List Letter
  pub right : List Letter
  pub read : two_words (MAX_INDEX + 1) input ≡ Ok (left, right)
  pub trace : Trace
  pub header : trace.header ≡ words left right
  pub accepted : IsAccepted text trace
  pub short : length text ≤ MAX_INPUT
  pub valid : IsValid trace
  pub equal : (n : ℕ) → IsOn n left → IsOn n right → (trace.verdict ≡ Equal) ↔ EquivalentOn n left right

abbrev pub compare_meaning : Limits → Meaning
compare_meaning limits = record {
  reads = reads_whole;
  answers = λ input a. compared_words limits.handles limits.letters (two_words (MAX_INDEX + 1) input)
      ≡ Some a;
  says = λ input text. HasVerdict input text;
  refuses = λ input text. ⊥;
  serves = λ before now s. Unit {0};
}
