-- How far the check of a reverse file has come: which line is due, and what was read before it.
--
-- Source: this project's own.
--
--   Replay   the word of the file, and the word that its steps have reached
--   State    the line that is due, with what was read before it
use Rattle.std.specs.Prelude.{List}
use Rattle.braid_word.specs.Words.{Letter}
use Rattle.word_reverse.specs.Accepted.{Claim}

-- The word, and what its steps have made of it so far.
pub record Replay : Type 0 where
  pub word : List Letter
  pub present : List Letter

-- The line that is due: the start; the word; a step or the left word; the right word, behind this left one;
-- the end; and none, where the end was passed.
pub data State : Type 0 where
  start : State
  word : State
  step : Replay → State
  right : Replay → List Letter → State
  finish : Claim → State
  passed : Claim → State
