use Rattle.std.proofs.Common.{ℕ, ◌≡◌, ◌<◌, [], get_or}
use Rattle.garside_form.proofs.form.same_factors.Given as goal

-- The factors before this one are the same.
abbrev pub invariant-loop-k : goal.invariant-loop-k
invariant-loop-k l = (j : ℕ) → j < l.k → get_or l.a j [] ≡ get_or l.b j []
