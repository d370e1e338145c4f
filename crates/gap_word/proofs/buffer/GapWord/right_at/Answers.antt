-- An item of right stands behind its start.
use Rattle.gap_word.proofs.BufferLemmas.{reads_right, reads_right_past}
use Rattle.gap_word.proofs.buffer.GapWord.right_at.Goals as goal

pub returns-then-k-self : goal.returns-then-k-self
returns-then-k-self g c =
    reads_right c.self.invariant.laid _ c.self.view_is c.args.k c.get.result c.if-k-self.true c.get.ensures

pub returns-else-k-self : goal.returns-else-k-self
returns-else-k-self g c =
    reads_right_past c.self.invariant.laid _ c.self.view_is c.args.k c.if-k-self.false
