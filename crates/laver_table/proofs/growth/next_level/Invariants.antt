-- The doublings of the last rows are there, this many.
use Rattle.std.proofs.Common.{◌≡◌, ◌^◌, length}
use Rattle.laver_table.specs.Levels.{AreDoublings}
use Rattle.laver_table.proofs.growth.next_level.Given as goal

abbrev pub invariant-loop-before : goal.invariant-loop-before
invariant-loop-before l = record {
  count : length l.level.items ≡ l.before;
  held : AreDoublings (2 ^ length l.lower) l.level.items;
}
