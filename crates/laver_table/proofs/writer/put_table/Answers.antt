use Rattle.std.proofs.Common.{◌≡◌, take, ap, ◌∙◌, flat_map, arith}
use Rattle.std.proofs.lemmas.List.{take_all}
use Rattle.std.specs.Io.KnownBytes.{append_known}
use Rattle.wb_base.proofs.StreamLemmas.{Puts-stopped_get, append_known-get}
use Rattle.wb_base.proofs.WaitingLemmas.{waits-stopped_get, waits-get}
use Rattle.laver_table.specs.TableText.{row_line, table_text}
use Rattle.laver_table.proofs.TextLemmas.{row_at}
use Rattle.laver_table.proofs.writer.put_table.Goals as goal

pub returns-in_err-put_row-clause-took : goal.returns-in_err-put_row-clause-took
unfolding table_text
returns-in_err-put_row-clause-took g c =
    let found = row_at c.args.table.now c.loop-k.k (omega arith) in
    Puts-stopped_get _ _ _ _ row_line c.args.table.now c.loop-k.k _ found
    c.from_residual.ensures.0 c.loop-k.invariant.took c.in_err-put_row.ensures.took

pub returns-in_err-put_row-clause-waits : goal.returns-in_err-put_row-clause-waits
unfolding table_text
returns-in_err-put_row-clause-waits g c =
    let found = row_at c.args.table.now c.loop-k.k (omega arith) in
    waits-stopped_get _ _ _ row_line c.args.table.now c.loop-k.k _ found
    c.loop-k.invariant.waits c.in_err-put_row.ensures.waits

pub loop-k-preserved : goal.loop-k-preserved
loop-k-preserved g c =
    let table = c.args.table.now in
    let k = c.loop-k.k in
    let found = row_at table k (omega arith) in
    record {
      took = append_known-get _ _ _ row_line table k _ found c.loop-k.invariant.took
          c.in_ok-put_row.ensures.took;
      later = omega (arith, c.loop-k.invariant.later, c.in_ok-put_row.ensures.cause.later);
      waits = waits-get _ _ _ row_line table k _ found c.loop-k.invariant.waits c.in_ok-put_row.ensures.waits;
      counted = omega (arith, c.loop-k.invariant.counted, c.in_ok-put_row.ensures.counted);
    }

pub returns-clause-took : goal.returns-clause-took
unfolding table_text
returns-clause-took g c =
    let all : take c.loop-k.k c.args.table.now ≡ c.args.table.now
    = take_all c.loop-k.k c.args.table.now (omega arith) in
    c.loop-k.invariant.took ∙ ap (append_known _) (ap (flat_map row_line) all)

pub returns-clause-waits : goal.returns-clause-waits
unfolding table_text
returns-clause-waits g c =
    let all : take c.loop-k.k c.args.table.now ≡ c.args.table.now
    = take_all c.loop-k.k c.args.table.now (omega arith) in
    rw all at c.loop-k.invariant.waits
