-- The walk along the row has come to this entry.
use Rattle.std.proofs.Common.{◌+◌, ◌-◌}
use Rattle.laver_table.proofs.WalkLemmas.{IsWalked}
use Rattle.laver_table.proofs.growth.threshold_of.Given as goal

abbrev pub invariant-loop-entry : goal.invariant-loop-entry
invariant-loop-entry l = IsWalked l.half l.p l.threshold l.entry

abbrev pub decreases-loop-entry : goal.decreases-loop-entry
decreases-loop-entry l = l.half + 1 - l.entry
