-- The last of left is taken out, and put in front of right.
use Rattle.std.proofs.Common.{refl, arith}
use Rattle.gap_word.proofs.BufferLemmas.{puts_right, pops_high, pops_low, left_empty, steps_left}
use Rattle.gap_word.proofs.FilledLemmas.{laid-pops_high, laid-pops_low}
use Rattle.gap_word.proofs.buffer.GapWord.step_left.Goals as goal

pub returns-then-self-clause-moves : goal.returns-then-self-clause-moves
returns-then-self-clause-moves g c =
    λ _.
    let laid = c.self.invariant.laid in
    let x = c.get-item.result in
    let some = c.if-self.true in
    steps_left (pops_high laid _ c.self.view_is x some c.get-item.ensures)
    (puts_right (laid-pops_high laid some) _ refl x (omega arith) c.put.ensures.items)

pub returns-then-self-gt0-clause-moves : goal.returns-then-self-gt0-clause-moves
returns-then-self-gt0-clause-moves g c =
    λ _.
    let laid = c.self.invariant.laid in
    let got = c.get-item-then-self-gt0 in
    let some = c.if-self-gt0.true in
    steps_left (pops_low laid _ c.self.view_is got.result c.if-self.false some got.ensures)
    (puts_right (laid-pops_low laid some) _ refl got.result (omega arith) c.put-then-self-gt0.ensures.items)

pub returns-else-self-gt0-clause-stays : goal.returns-else-self-gt0-clause-stays
returns-else-self-gt0-clause-stays g c =
    λ _. (left_empty c.self.invariant.laid _ c.self.view_is c.if-self.false c.if-self-gt0.false, refl)
