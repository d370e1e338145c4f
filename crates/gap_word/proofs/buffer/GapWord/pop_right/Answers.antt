-- The first of right stands at its start.
use Rattle.std.proofs.Common.{refl}
use Rattle.gap_word.proofs.BufferLemmas.{pops_right, right_empty}
use Rattle.gap_word.proofs.buffer.GapWord.pop_right.Goals as goal

pub returns-then-self : goal.returns-then-self
returns-then-self g c =
    let laid = c.self.invariant.laid in
    record { item = pops_right laid _ c.self.view_is c.get-item.result c.if-self.true c.get-item.ensures }

pub returns-else-self : goal.returns-else-self
returns-else-self g c =
    record { item = (right_empty c.self.invariant.laid _ c.self.view_is c.if-self.false, refl) }
