use Rattle.perm_braid.proofs.PassingLemmas.{IsSettled}
use Rattle.perm_braid.proofs.passing.settle_slices.Given as goal

-- All before the place `from` sank.
abbrev pub invariant-loop-from : goal.invariant-loop-from
invariant-loop-from l = IsSettled l.fn.entries l.fn.places l.entries l.places l.from l.passed
