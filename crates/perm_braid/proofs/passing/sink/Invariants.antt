use Rattle.perm_braid.proofs.PassingLemmas.{IsSunk}
use Rattle.perm_braid.proofs.passing.sink.Given as goal

-- What stood behind the place `from` stands behind the place `at`.
abbrev pub invariant-sinking : goal.invariant-sinking
invariant-sinking l = IsSunk l.fn.entries l.fn.places l.entries l.places l.from l.at

-- It sinks.
abbrev pub decreases-sinking : goal.decreases-sinking
decreases-sinking l = l.at
