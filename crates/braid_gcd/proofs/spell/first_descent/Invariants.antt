use Rattle.std.proofs.Common.{ℕ, ◌<◌, ◌≤◌}
use Rattle.perm_braid.specs.Arrangements.{IsLeftDescent}
use Rattle.braid_gcd.proofs.spell.first_descent.Given as goal

-- No index below this one is a left descent.
abbrev pub invariant-loop-i : goal.invariant-loop-i
invariant-loop-i l = (j : ℕ) → 1 ≤ j → j < l.i → IsLeftDescent l.p j → ⊥
