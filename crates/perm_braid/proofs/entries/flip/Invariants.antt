use Rattle.std.proofs.Common.{ℕ, ◌≡◌, ◌-◌, ◌<◌, ◌≤◌, length}
use Rattle.perm_braid.specs.Arrangements.{entry}
use Rattle.perm_braid.proofs.entries.flip.Given as goal

-- The entries up to here are turned, and the others stand as they did.
abbrev pub invariant-loop-k : goal.invariant-loop-k
invariant-loop-k l = record {
  long : length l.numbers ≡ length l.initial.numbers;
  turned : (i : ℕ) → 1 ≤ i → i ≤ l.k → entry l.numbers i ≡ l.above - entry l.initial.numbers i;
  rest : (i : ℕ) → l.k < i → entry l.numbers i ≡ entry l.initial.numbers i;
}
