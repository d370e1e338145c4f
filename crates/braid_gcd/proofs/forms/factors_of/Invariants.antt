use Rattle.std.proofs.Common.{◌≡◌, drop, reverse}
use Rattle.braid_gcd.proofs.forms.factors_of.Given as goal

-- The list is the last factors.
abbrev pub invariant-loop-k : goal.invariant-loop-k
invariant-loop-k l = reverse l.list.items ≡ drop l.k l.form.factors
