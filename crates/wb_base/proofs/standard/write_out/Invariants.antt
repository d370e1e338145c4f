-- The bytes before the place that was reached were written, with no error.
use Rattle.std.proofs.Common.{◌≡◌, ◌-◌, ◌≤◌, take}
use Rattle.std.specs.Io.KnownBytes.{Appends}
use Rattle.wb_base.proofs.standard.write_out.Given as goal

abbrev pub invariant-loop-written : goal.invariant-loop-written
invariant-loop-written g l =
    let writer = g.W.Write in
    record {
      within : l.written ≤ l.len;
      wrote : Appends (writer.contents l.fn.writer.writer) (writer.contents l.writer.writer)
          (take l.written l.buffer);
      unfailed : l.writer.errors ≡ l.fn.writer.errors;
    }

abbrev pub decreases-loop-written : goal.decreases-loop-written
decreases-loop-written g l = l.len - l.written
