use Rattle.std.proofs.Common.{◌≡◌, ◌++◌, length, map, reverse}
use Rattle.perm_braid.specs.Arrangements.{flip}
use Rattle.garside_form.proofs.lists.put_back_turned.Given as goal

-- What is put behind the list so far and what is left, turned, are the whole.
abbrev pub invariant-loop-factor : goal.invariant-loop-factor
invariant-loop-factor l =
    l.list.items ++ map flip (reverse l.stack.items) ≡ l.fn.list.items ++ map flip (reverse l.fn.stack.items)

-- The stack gets shorter.
abbrev pub decreases-loop-factor : goal.decreases-loop-factor
decreases-loop-factor l = length l.stack.items
