-- How far the check of a certificate file has come: which line is due, and what was read before it.
--
-- Source: this project's own.
--
--   Terms   the two terms of a file, among those of its graph
--   Pair    the same, and what the two have become
--   State   the line that is due, with what was read before it
use Rattle.std.specs.Prelude.{List}
use Rattle.ld_term.specs.Terms.{Term}
use Rattle.ld_cert.specs.Accepted.{Claim}

-- The terms of the graph, and the two terms of the file.
pub record Terms : Type 0 where
  pub made : List Term
  pub left : Term
  pub right : Term

-- What the left and the right term have become by the expansions so far, beside these.
pub record Pair : Type 0 where
  pub terms : Terms
  pub left_now : Term
  pub right_now : Term

-- The line that is due: the start; the left term; the right one, behind this left one in a graph of these
-- terms; the answer; an expansion of the left or of the right term or the end; an expansion of the right term
-- or the end; the end behind a no; and none, where the end was passed.
pub data State : Type 0 where
  start : State
  left : State
  right : (made : List Term) → (left : Term) → State
  answer : Terms → State
  left_step : Pair → State
  right_step : Pair → State
  finish : Claim → State
  passed : Claim → State
