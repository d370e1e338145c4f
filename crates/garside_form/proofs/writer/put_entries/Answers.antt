use Rattle.std.proofs.Common.{arith}
use Rattle.wb_base.proofs.StreamLemmas.{Puts-stopped_get, append_known-get}
use Rattle.wb_base.proofs.WaitingLemmas.{waits-stopped_get, waits-get}
use Rattle.wb_base.specs.Numbers.{spaced_number}
use Rattle.garside_form.proofs.NormalTextLemmas.{entry_found}
use Rattle.garside_form.proofs.writer.put_entries.Goals as goal

pub returns-in_err-put_numbered-clause-took : goal.returns-in_err-put_numbered-clause-took
returns-in_err-put_numbered-clause-took g c =
    let found = entry_found c.args.factor.now c.loop-k.k c.at-entry.result (omega arith)
    c.at-entry.ensures.value in
    Puts-stopped_get _ _ _ _ spaced_number _ c.loop-k.k _ found c.from_residual.ensures.0
    c.loop-k.invariant.took (rw c.from.ensures at c.in_err-put_numbered.ensures.took)

pub returns-in_err-put_numbered-clause-waits : goal.returns-in_err-put_numbered-clause-waits
returns-in_err-put_numbered-clause-waits g c =
    let found = entry_found c.args.factor.now c.loop-k.k c.at-entry.result (omega arith)
    c.at-entry.ensures.value in
    waits-stopped_get _ _ _ spaced_number _ c.loop-k.k _ found c.loop-k.invariant.waits
    (rw c.from.ensures at c.in_err-put_numbered.ensures.waits)

pub loop-k-preserved : goal.loop-k-preserved
loop-k-preserved g c =
    let found = entry_found c.args.factor.now c.loop-k.k c.at-entry.result (omega arith)
    c.at-entry.ensures.value in
    record {
      took = append_known-get _ _ _ spaced_number _ c.loop-k.k _ found c.loop-k.invariant.took
          (rw c.from.ensures at c.in_ok-put_numbered.ensures.took);
      later = omega (arith, c.loop-k.invariant.later, c.in_ok-put_numbered.ensures.cause.later);
      waits = waits-get _ _ _ spaced_number _ c.loop-k.k _ found c.loop-k.invariant.waits
          (rw c.from.ensures at c.in_ok-put_numbered.ensures.waits);
    }
