use Rattle.std.proofs.Common.{ℕ, ◌≡◌, ◌≤◌, length}
use Rattle.perm_braid.specs.Arrangements.{entry}
use Rattle.perm_braid.proofs.entries.write_places.Given as goal

-- The places of the numbers up to here are written.
abbrev pub invariant-loop-k : goal.invariant-loop-k
invariant-loop-k l = record {
  long : length l.places ≡ length l.numbers;
  placed : (j : ℕ) → 1 ≤ j → j ≤ l.k → entry l.places (entry l.numbers j) ≡ j;
}
