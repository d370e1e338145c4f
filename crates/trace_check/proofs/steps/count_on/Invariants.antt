-- The letters from a place on were looked at.
use Rattle.std.proofs.Common.{◌≤◌}
use Rattle.trace_check.specs.Presents.{Counted}
use Rattle.trace_check.proofs.steps.count_on.Given as goal

abbrev pub invariant-loop-k : goal.invariant-loop-k
invariant-loop-k l = (l.from ≤ l.k) × Counted l.word.left l.index l.k l.raised
