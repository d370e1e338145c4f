use Rattle.std.proofs.Common.{arith}
use Rattle.wb_base.proofs.StreamLemmas.{Puts-stopped_get, append_known-get}
use Rattle.wb_base.proofs.WaitingLemmas.{waits-stopped_get, waits-get}
use Rattle.wb_base.specs.Numbers.{spaced_number}
use Rattle.laver_table.proofs.TextLemmas.{found_entry}
use Rattle.laver_table.proofs.writer.put_rest.Goals as goal

pub returns-in_err-put_numbered-clause-took : goal.returns-in_err-put_numbered-clause-took
returns-in_err-put_numbered-clause-took g c =
    let (n, laver) = c.size-k-end.ensures.laver in
    let entry = c.product-entry.ensures.entry in
    let k = c.loop-k.k in
    let found = found_entry n c.args.table.now c.args.p k c.product-entry.result laver c.requires
    (omega arith) entry in
    Puts-stopped_get _ _ _ _ spaced_number _ k _ found c.from_residual.ensures.0 c.loop-k.invariant.took
    (rw c.from.ensures at c.in_err-put_numbered.ensures.took)

pub returns-in_err-put_numbered-clause-waits : goal.returns-in_err-put_numbered-clause-waits
returns-in_err-put_numbered-clause-waits g c =
    let (n, laver) = c.size-k-end.ensures.laver in
    let entry = c.product-entry.ensures.entry in
    let k = c.loop-k.k in
    let found = found_entry n c.args.table.now c.args.p k c.product-entry.result laver c.requires
    (omega arith) entry in
    waits-stopped_get _ _ _ spaced_number _ k _ found c.loop-k.invariant.waits
    (rw c.from.ensures at c.in_err-put_numbered.ensures.waits)

pub loop-k-preserved : goal.loop-k-preserved
loop-k-preserved g c =
    let (n, laver) = c.size-k-end.ensures.laver in
    let entry = c.product-entry.ensures.entry in
    let k = c.loop-k.k in
    let found = found_entry n c.args.table.now c.args.p k c.product-entry.result laver c.requires
    (omega arith) entry in
    record {
      took = append_known-get _ _ _ spaced_number _ k _ found c.loop-k.invariant.took
          (rw c.from.ensures at c.in_ok-put_numbered.ensures.took);
      later = omega (arith, c.loop-k.invariant.later, c.in_ok-put_numbered.ensures.cause.later);
      waits = waits-get _ _ _ spaced_number _ k _ found c.loop-k.invariant.waits
          (rw c.from.ensures at c.in_ok-put_numbered.ensures.waits);
      counted = omega (arith, c.loop-k.invariant.counted, c.product-entry.ensures.counted);
    }
