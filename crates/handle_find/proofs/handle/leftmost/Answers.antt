-- The first handle that is met ends first.
use Rattle.std.proofs.Common.{sym, arith}
use Rattle.handle_find.proofs.HandleLemmas.{leftmost_of-IsLeftmost, leftmost_of-HasNoHandle, IsLeftmost-from_walk}
use Rattle.handle_find.proofs.NoHandleLemmas.{HasNoHandle-signed}
use Rattle.handle_find.proofs.handle.leftmost.Goals as goal

pub returns-in-Some-clause-places : goal.returns-in-Some-clause-places
returns-in-Some-clause-places c =
    let first = IsLeftmost-from_walk _ _ _ c.loop-end.invariant c.in-Some.ensures in
    sym (leftmost_of-IsLeftmost _ _ _ first)

pub returns-clause-places : goal.returns-clause-places
returns-clause-places c =
    sym (leftmost_of-HasNoHandle _ (λ p q h. c.loop-end.invariant p q (omega (arith, h.within)) h))

pub returns-clause-signed : goal.returns-clause-signed
returns-clause-signed c = λ _.
    HasNoHandle-signed _ (λ p q h. c.loop-end.invariant p q (omega (arith, h.within)) h)
