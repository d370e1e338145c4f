-- The letters that were passed are counted.
use Rattle.std.proofs.Common.{◌+◌, ◌≤◌}
use Rattle.handle_find.specs.LetterRuns.{Surveyed}
use Rattle.handle_find.proofs.walk.look_through.Given as goal

abbrev pub invariant-passing : goal.invariant-passing
invariant-passing l = record {
  from_start : l.start + 1 ≤ l.k;
  surveyed : Surveyed l.letters.left l.k l.index l.raised l.from l.low;
}

abbrev pub decreases-passing : goal.decreases-passing
decreases-passing l = l.k
