-- What the lines read so far and the piece give is what the lines and the bytes that are left give.
use Rattle.std.proofs.Common.{◌≡◌, length}
use Rattle.wb_base.specs.Lines.{cut}
use Rattle.line_file.specs.Pieces.{is_reading, fed}
use Rattle.line_file.proofs.checker.read_on.Given as goal

abbrev pub invariant-loop-end : goal.invariant-loop-end
invariant-loop-end g l =
    let format = g.F.LineFormat.format in
    fed format (is_reading l.fn.line l.fn.due l.fn.rest.items) l.fn.piece
    ≡ fed format (is_reading l.number l.now l.held.items) l.left

abbrev pub decreases-loop-end : goal.decreases-loop-end
decreases-loop-end g l = length (cut l.left).0
