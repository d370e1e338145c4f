-- What the checker holds stands for the bytes taken so far.
use Rattle.std.proofs.Common.{◌+◌, ◌-◌, ◌≤◌}
use Rattle.line_file.proofs.SourceLemmas.{HasRead}
use Rattle.line_file.proofs.source.check_source.Given as goal

abbrev pub invariant-loop-count : goal.invariant-loop-count
invariant-loop-count g l =
    let source = g.S.Source in
    record {
      within : l.count ≤ l.limit + 1;
      read : HasRead g.F.LineFormat.format (source.left l.fn.source) (source.left l.source) l.count l.checker;
      later : source.faults l.fn.source ≤ source.faults l.source;
      counted : source.calls l.source ≤ source.calls l.fn.source + l.count;
    }

abbrev pub decreases-loop-count : goal.decreases-loop-count
decreases-loop-count g l = l.limit + 1 - l.count
