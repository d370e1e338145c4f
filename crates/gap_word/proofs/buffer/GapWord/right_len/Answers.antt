-- The places from the start of right on.
use Rattle.gap_word.proofs.BufferLemmas.{right_len, room_within}
use Rattle.gap_word.proofs.buffer.GapWord.right_len.Goals as goal

pub returns-clause-value : goal.returns-clause-value
returns-clause-value g c = right_len c.self.invariant.laid _ c.self.view_is

pub returns-clause-within : goal.returns-clause-within
returns-clause-within g c = room_within c.self.invariant.laid _ c.self.view_is c.self.invariant.small
