-- What was read of the line.
use Rattle.std.proofs.Common.{◌-◌, length}
use Rattle.ld_term.specs.Held.{IsRead}
use Rattle.ld_term.proofs.shape.measure.Given as goal

abbrev pub invariant-loop-piece : goal.invariant-loop-piece
invariant-loop-piece l =
    IsRead l.strict l.line l.from l.at l.reader.held l.reader.left l.reader.outer l.products

abbrev pub decreases-loop-piece : goal.decreases-loop-piece
decreases-loop-piece l = length l.line - l.at
