use Rattle.std.proofs.Common.{ℕ, ◌≡◌, ◌≤◌}
use Rattle.perm_braid.specs.Arrangements.{entry}
use Rattle.perm_braid.proofs.entries.is_rising.Given as goal

-- The entries up to here are their places.
abbrev pub invariant-loop-k : goal.invariant-loop-k
invariant-loop-k l = (i : ℕ) → 1 ≤ i → i ≤ l.k → entry l.numbers i ≡ i
