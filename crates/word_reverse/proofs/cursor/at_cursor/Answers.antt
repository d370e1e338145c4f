-- The letters that were read are those beside the cursor.
use Rattle.std.proofs.Common.{inr, sym, arith}
use Rattle.word_reverse.proofs.CursorLemmas.{MeetAt-read, missing_right}
use Rattle.word_reverse.proofs.cursor.at_cursor.Goals as goal

pub returns-in_err-first : goal.returns-in_err-first
returns-in_err-first c =
    rw c.from_residual-in_err-first.ensures (inr (missing_right _ (sym c.in_err-first.ensures)))

pub returns : goal.returns
returns c =
    MeetAt-read _ _ _ _ c.left_len-behind.ensures.value (omega (arith, c.if-behind-eq0.false))
    (sym c.in_ok-last.ensures) (sym c.in_ok-first.ensures)
