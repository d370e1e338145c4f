-- Each call has one level less.
use Rattle.std.proofs.Common.{length}
use Rattle.laver_table.proofs.levels.+entry_in.Given as goal

abbrev pub decreases-entry_in : goal.decreases-entry_in
decreases-entry_in l = length l.levels.now
