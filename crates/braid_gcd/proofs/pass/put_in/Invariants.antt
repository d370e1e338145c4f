use Rattle.std.proofs.Common.{◌∷◌, length, reverse}
use Rattle.braid_gcd.proofs.FrontPassLemmas.{IsFrontPass}
use Rattle.braid_gcd.proofs.pass.put_in.Given as goal

-- The pass stands at the carry; the stack is the front.
abbrev pub invariant-passing : goal.invariant-passing
invariant-passing l =
    IsFrontPass (length l.fn.carry) (l.fn.carry ∷ reverse l.fn.list.items) l.stack.items l.carry
    (reverse l.list.items)

-- The list gets shorter.
abbrev pub decreases-passing : goal.decreases-passing
decreases-passing l = length l.list.items
