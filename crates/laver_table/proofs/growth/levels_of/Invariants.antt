-- The levels are there, this many.
use Rattle.std.proofs.Common.{◌≡◌, length}
use Rattle.laver_table.specs.Levels.{AreLevels}
use Rattle.laver_table.proofs.growth.levels_of.Given as goal

abbrev pub invariant-loop : goal.invariant-loop
invariant-loop l = record {
  count : length l.levels.items ≡ l.counter;
  held : AreLevels l.levels.items;
}
