-- The first of right is taken out, and put at the end of left.
use Rattle.std.proofs.Common.{refl, arith}
use Rattle.gap_word.proofs.BufferLemmas.{puts_left, pops_right, right_empty, steps_right}
use Rattle.gap_word.proofs.FilledLemmas.{laid-pops_right}
use Rattle.gap_word.proofs.buffer.GapWord.step_right.Goals as goal

pub returns-then-self-clause-moves : goal.returns-then-self-clause-moves
returns-then-self-clause-moves g c =
    λ _.
    let laid = c.self.invariant.laid in
    let x = c.get-item.result in
    let some = c.if-self.true in
    steps_right (pops_right laid _ c.self.view_is x some c.get-item.ensures)
    (puts_left (laid-pops_right laid some) _ refl x (omega arith) c.put.ensures.items)

pub returns-else-self-clause-stays : goal.returns-else-self-clause-stays
returns-else-self-clause-stays g c = λ _.
    (right_empty c.self.invariant.laid _ c.self.view_is c.if-self.false, refl)
