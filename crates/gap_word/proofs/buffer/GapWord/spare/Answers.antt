-- All together is at most the most.
use Rattle.gap_word.proofs.BufferLemmas.{room_within}
use Rattle.gap_word.proofs.buffer.GapWord.spare.Goals as goal

pub returns-clause-within : goal.returns-clause-within
returns-clause-within g c = room_within c.self.invariant.laid _ c.self.view_is c.self.invariant.small
