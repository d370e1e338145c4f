-- The command `reverse H L`: a word as a fraction, by right reversing.
--
-- Source: this project's own; the reversing is after P. Dehornoy, Groups with a complemented presentation,
-- 1997.
--
--   Limits               the most corners turned, and the most letters
--   AreLimits limits     they are within their bounds
--   limits_of words      the limits that two words of a command line are
--   ended H L w s        the answer of a run of w that stands so, after H turns
--   reversed H L w       the answer on the word w
--   reversed_word H L w  the answer on what the input has
--   HasFraction input text   the text is an accepted reverse file of the word of the input
--   reverse_meaning ls   what the command means
use Rattle.std.specs.Prelude.{◌≡◌, ℕ, ◌+◌, ◌≤◌, List, codes, length, Option, Some, None, Result, Ok, Err}
use Rattle.wb_base.specs.Status.{Answer, answer}
use Rattle.wb_base.specs.declared.status.Status.TheVariants.{Done}
use Rattle.braid_word.specs.Words.{Letter}
use Rattle.braid_word.specs.declared.TheConstants.{MAX_INDEX}
use Rattle.word_reverse.specs.declared.TheConstants.{MAX_BOUND}
use Rattle.word_reverse.specs.declared.progress.RevProgress.{RevProgress}
use Rattle.word_reverse.specs.declared.progress.RevProgress.TheVariants as progress
use Rattle.word_reverse.specs.RevRuns.{RevState, rev_after}
use Rattle.word_reverse.specs.ReverseText.{Reversal, reverse_text}
use Rattle.word_reverse.specs.Written.{reversal_of}
use Rattle.word_reverse.specs.Accepted.{IsAccepted, IsValid}
use Rattle.wb_command.specs.declared.TheConstants.{MAX_INPUT}
use Rattle.wb_command.specs.declared.fault.Fault.{Fault}
use Rattle.wb_command.specs.Answers.{bad_input, limit_met}
use Rattle.wb_command.specs.Args.{then_read, first_number, last_read, rest_of}
use Rattle.wb_command.specs.Inputs.{one_word}
use Rattle.wb_command.specs.Meaning.{Meaning, reads_whole}

-- ---- Limits ----

pub record Limits : Type 0 where
  pub steps : ℕ
  pub letters : ℕ

pub record AreLimits (limits : Limits) : Type 0 where
  pub steps : limits.steps ≤ MAX_BOUND
  pub letters : limits.letters ≤ MAX_BOUND

abbrev pub limits_of : List (List ℕ) → Option Limits
limits_of words =
    then_read (first_number 0 MAX_BOUND words) (λ steps.
    then_read (first_number 0 MAX_BOUND (rest_of words)) (λ letters.
    last_read (rest_of (rest_of words)) (record { steps = steps; letters = letters })))

-- ---- Answers ----

-- The file of a reversal.
abbrev pub reversed_answer : Reversal → Answer
reversed_answer r = answer Done (reverse_text r)

-- The answer of a run that stands so after as many turns as it may turn corners. Such a run isn't running.
abbrev pub ended : ℕ → ℕ → List Letter → RevState → RevProgress → Option Answer
ended steps limit w s progress.Running = None
ended steps limit w s progress.Done = Some (reversed_answer (reversal_of w s))
ended steps limit w s progress.StepsMet = Some (limit_met (codes "steps ") steps)
ended steps limit w s progress.LengthMet = Some (limit_met (codes "length ") limit)

-- `reverse H L` on a word: the file of the run that turns the leftmost corner, where that ends within both
-- limits; else the limit that it meets.
unfoldable pub reversed : ℕ → ℕ → List Letter → Option Answer
reversed steps limit w =
    let s = rev_after w steps limit steps in ended steps limit w s s.progress

-- `reverse H L` on what its input has.
abbrev pub reversed_word : ℕ → ℕ → Result (List Letter) Fault → Option Answer
reversed_word steps limit (Err fault) = Some (bad_input fault)
reversed_word steps limit (Ok w) = reversed steps limit w

-- ---- The command ----

-- The text is a reverse file of the word of the input, would be accepted by `reverse-check`, which can read
-- it, and is valid.
pub record HasFraction (input text : List ℕ) : Type 0 where
  pub word : List Letter
  pub read : one_word (MAX_INDEX + 1) input ≡ Ok word
  pub reversal : Reversal
  pub of : reversal.word ≡ word
  pub accepted : IsAccepted text reversal
  pub short : length text ≤ MAX_INPUT
  pub valid : IsValid reversal

abbrev pub reverse_meaning : Limits → Meaning
reverse_meaning limits = record {
  reads = reads_whole;
  answers = λ input a. reversed_word limits.steps limits.letters (one_word (MAX_INDEX + 1) input) ≡ Some a;
  says = λ input text. HasFraction input text;
  refuses = λ input text. ⊥;
  serves = λ before now s. Unit {0};
}
