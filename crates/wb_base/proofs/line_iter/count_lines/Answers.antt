-- There are no more lines than bytes.
use Rattle.std.proofs.Common.{rules, ◌<◌, ◌^◌, length, inl, ap, arith}
use Rattle.wb_base.proofs.LineLemmas.{length-lines_of}
use Rattle.wb_base.proofs.line_iter.count_lines.Goals as goal

pub count-requires-clause-fits : goal.count-requires-clause-fits
count-requires-clause-fits c =
    let few = length-lines_of c.args.bytes.now in
    let fits : length c.args.bytes.now < 2 ^ 64 = search rules in
    inl (omega (arith, few, fits, ap length c.lines.ensures))
