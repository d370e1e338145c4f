use Rattle.std.proofs.Common.{arith}
use Rattle.wb_base.proofs.StreamLemmas.{Puts-stopped_at}
use Rattle.wb_base.proofs.WaitingLemmas.{waits-stopped_at}
use Rattle.free_word.specs.FreeText.{next_text}
use Rattle.free_word.proofs.writer.put_rest.Goals as goal

pub returns-in_err-put_next-clause-took : goal.returns-in_err-put_next-clause-took
returns-in_err-put_next-clause-took g c =
    Puts-stopped_at _ _ _ _ next_text _ c.loop-x.x-index c.x-item.result (omega arith) c.x-item.is
    c.from_residual.ensures.0 c.loop-x.invariant.took c.in_err-put_next.ensures.took

pub returns-in_err-put_next-clause-waits : goal.returns-in_err-put_next-clause-waits
returns-in_err-put_next-clause-waits g c =
    waits-stopped_at _ _ _ next_text _ c.loop-x.x-index c.x-item.result (omega arith) c.x-item.is
    c.loop-x.invariant.waits c.in_err-put_next.ensures.waits
