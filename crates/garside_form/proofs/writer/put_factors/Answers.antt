use Rattle.std.proofs.Common.{arith}
use Rattle.wb_base.proofs.StreamLemmas.{Puts-stopped_at}
use Rattle.wb_base.proofs.WaitingLemmas.{waits-stopped_at}
use Rattle.garside_form.specs.NormalText.{factor_line}
use Rattle.garside_form.proofs.writer.put_factors.Goals as goal

pub returns-in_err-put_factor-clause-took : goal.returns-in_err-put_factor-clause-took
returns-in_err-put_factor-clause-took g c =
    Puts-stopped_at _ _ _ _ factor_line c.args.factors.now c.loop-k.k c.index-factors-k.result (omega arith)
    c.index-factors-k.is c.from_residual.ensures.0 c.loop-k.invariant.took
    c.in_err-put_factor.ensures.took

pub returns-in_err-put_factor-clause-waits : goal.returns-in_err-put_factor-clause-waits
returns-in_err-put_factor-clause-waits g c =
    waits-stopped_at _ _ _ factor_line c.args.factors.now c.loop-k.k c.index-factors-k.result (omega arith)
    c.index-factors-k.is c.loop-k.invariant.waits c.in_err-put_factor.ensures.waits
