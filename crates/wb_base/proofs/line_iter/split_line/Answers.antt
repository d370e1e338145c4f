use Rattle.std.proofs.Common.{arith, add-one}
use Rattle.wb_base.proofs.LineLemmas.{lines_of-found, lines_of-last}
use Rattle.std.proofs.lemmas.List.{take_rest}
use Rattle.wb_base.proofs.line_iter.split_line.Goals as goal

pub returns-then-byte-eq10 : goal.returns-then-byte-eq10
returns-then-byte-eq10 c =
    rw (take_rest, add-one)
    (lines_of-found c.args.bytes.now c.loop-i.i (omega arith) c.if-byte-eq10.true c.loop-i.invariant)

pub returns : goal.returns
returns c = lines_of-last c.args.bytes.now c.requires (λ k below. c.loop-i.invariant k (omega arith))
