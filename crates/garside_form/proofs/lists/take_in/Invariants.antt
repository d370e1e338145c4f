use Rattle.std.proofs.Common.{[], ◌∷◌, ◌++◌, length, reverse}
use Rattle.garside_form.proofs.PassLemmas.{IsPass}
use Rattle.garside_form.proofs.lists.take_in.Given as goal

-- The pass stands at the carry; the stack is the rest, from its last.
abbrev pub invariant-passing : goal.invariant-passing
invariant-passing l =
    IsPass (length l.fn.carry) (l.fn.list.items ++ l.fn.carry ∷ []) l.list.items l.carry
    (reverse l.stack.items)

-- The front gets shorter.
abbrev pub decreases-passing : goal.decreases-passing
decreases-passing l = length l.list.items
