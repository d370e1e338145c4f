-- No handle ends before the place that is tried.
use Rattle.std.proofs.Common.{ℕ, ◌<◌}
use Rattle.handle_find.specs.Handles.{IsHandle}
use Rattle.handle_find.proofs.handle.leftmost.Given as goal

abbrev pub invariant-loop-end : goal.invariant-loop-end
invariant-loop-end l = (p q : ℕ) → q < l.end → IsHandle l.word p q → ⊥
