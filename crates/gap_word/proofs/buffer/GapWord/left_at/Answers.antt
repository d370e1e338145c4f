-- A low one stands where it is counted, a high one behind the hole.
use Rattle.gap_word.proofs.BufferLemmas.{reads_low, reads_high, reads_past}
use Rattle.gap_word.proofs.buffer.GapWord.left_at.Goals as goal

pub returns-then-k-self : goal.returns-then-k-self
returns-then-k-self g c =
    reads_low c.self.invariant.laid _ c.self.view_is c.args.k c.get.result c.if-k-self.true c.get.ensures

pub returns-then-k-self-2 : goal.returns-then-k-self-2
returns-then-k-self-2 g c =
    let got = c.get-then-k-self-2 in
    let laid = c.self.invariant.laid in
    reads_high laid _ c.self.view_is c.args.k got.result c.if-k-self.false c.if-k-self-2.true got.ensures

pub returns-else-k-self-2 : goal.returns-else-k-self-2
returns-else-k-self-2 g c =
    reads_past c.self.invariant.laid _ c.self.view_is c.args.k c.if-k-self.false c.if-k-self-2.false
