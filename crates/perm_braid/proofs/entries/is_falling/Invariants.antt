use Rattle.std.proofs.Common.{ℕ, ◌≡◌, ◌+◌, ◌-◌, ◌≤◌, length}
use Rattle.perm_braid.specs.Arrangements.{entry}
use Rattle.perm_braid.proofs.entries.is_falling.Given as goal

-- The entries up to here are those of the half turn.
abbrev pub invariant-loop-k : goal.invariant-loop-k
invariant-loop-k l = (i : ℕ) → 1 ≤ i → i ≤ l.k → entry l.numbers i ≡ length l.numbers + 1 - i
