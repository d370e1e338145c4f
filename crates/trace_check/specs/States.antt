-- How far the check of a file has come: which line is due, and what was read before it.
--
-- Source: this project's own.
--
--   Replay   the two words, the word that the steps have reached, and their number
--   State    the line that is due, with what was read before it
use Rattle.std.specs.Prelude.{ℕ, List}
use Rattle.braid_word.specs.Words.{Letter}
use Rattle.trace_format.specs.declared.verdict.Verdict.{Verdict}
use Rattle.trace_check.specs.Accepted.{Claim}

-- The words that a file compares, or the braid words of its terms, the word that its steps have reached so
-- far, and their number.
pub record Replay : Type 0 where
  pub left : List Letter
  pub right : List Letter
  pub present : List Letter
  pub steps : ℕ

-- The line that is due: the start; the left word or term; the right word, or the right term, after this left
-- one; a step or the verdict; the witness of this verdict; the end; and none, where the end was passed.
pub data State : Type 0 where
  start : State
  left : State
  right : List Letter → State
  right_term : List Letter → State
  step : Replay → State
  witness : Replay → Verdict → State
  finish : Replay → Verdict → State
  passed : Claim → State
