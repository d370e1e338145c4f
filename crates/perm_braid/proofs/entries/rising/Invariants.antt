use Rattle.std.proofs.Common.{◌≡◌, ◌≤◌}
use Rattle.perm_braid.specs.Arrangements.{identity}
use Rattle.perm_braid.proofs.entries.rising.Given as goal

-- The numbers up to this one, with room for the others.
abbrev pub invariant-loop-k : goal.invariant-loop-k
invariant-loop-k l = record {
  items : l.numbers.items ≡ identity l.k;
  room : l.n ≤ l.numbers.capacity;
}
