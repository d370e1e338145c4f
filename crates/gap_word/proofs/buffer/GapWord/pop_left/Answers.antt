-- The last of left is the last of the high ones, or else of the low ones.
use Rattle.std.proofs.Common.{refl}
use Rattle.gap_word.proofs.BufferLemmas.{pops_high, pops_low, left_empty}
use Rattle.gap_word.proofs.buffer.GapWord.pop_left.Goals as goal

pub returns-then-self : goal.returns-then-self
returns-then-self g c =
    pops_high c.self.invariant.laid _ c.self.view_is c.get.result c.if-self.true c.get.ensures

pub returns-then-self-gt0 : goal.returns-then-self-gt0
returns-then-self-gt0 g c =
    let got = c.get-then-self-gt0 in
    pops_low c.self.invariant.laid _ c.self.view_is got.result c.if-self.false c.if-self-gt0.true got.ensures

pub returns-else-self-gt0 : goal.returns-else-self-gt0
returns-else-self-gt0 g c =
    (left_empty c.self.invariant.laid _ c.self.view_is c.if-self.false c.if-self-gt0.false, refl)
