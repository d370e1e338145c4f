-- The word and its room stay.
use Rattle.std.proofs.Common.{◌≡◌, length}
use Rattle.handle_find.specs.Scans.{whole, places}
use Rattle.handle_reduce.proofs.seek.seek.Given as goal

abbrev pub invariant-seeking : goal.invariant-seeking
invariant-seeking l = record {
  word : whole l.scan ≡ whole l.fn.scan;
  room : places l.scan ≡ places l.fn.scan;
}

abbrev pub decreases-seeking : goal.decreases-seeking
decreases-seeking l = length l.scan.right
