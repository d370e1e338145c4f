use Rattle.std.proofs.Common.{ℕ, ◌<◌, ◌≤◌}
use Rattle.perm_braid.specs.Arrangements.{IsLeftDescent}
use Rattle.braid_gcd.proofs.common.common_descent.Given as goal

-- No index below this one is a left descent of both.
abbrev pub invariant-loop-i : goal.invariant-loop-i
invariant-loop-i l =
    (j : ℕ) → 1 ≤ j → j < l.i → IsLeftDescent l.p j → IsLeftDescent l.q j → ⊥
