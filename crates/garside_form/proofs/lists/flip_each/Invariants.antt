use Rattle.std.proofs.Common.{◌≡◌, ◌++◌, drop, map, take}
use Rattle.perm_braid.specs.Arrangements.{flip}
use Rattle.garside_form.proofs.lists.flip_each.Given as goal

-- The simple braids before this one are turned, and the others as they were.
abbrev pub invariant-loop-k : goal.invariant-loop-k
invariant-loop-k l = l.list.items ≡ map flip (take l.k l.fn.list.items) ++ drop l.k l.fn.list.items
