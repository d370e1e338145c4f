-- The letters that were passed are higher.
use Rattle.std.proofs.Common.{ℕ, ◌<◌, ◌≤◌, length}
use Rattle.handle_find.specs.Handles.{at}
use Rattle.handle_find.proofs.walk.higher_from.Given as goal

abbrev pub invariant-passing : goal.invariant-passing
invariant-passing l = record {
  within : l.k ≤ length l.letters.left;
  higher : (m : ℕ) → l.k ≤ m → m < length l.letters.left → l.index < (at l.letters.left m).index;
}

abbrev pub decreases-passing : goal.decreases-passing
decreases-passing l = l.k
