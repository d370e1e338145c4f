-- The low ones and the high ones.
use Rattle.gap_word.proofs.BufferLemmas.{left_len, room_within}
use Rattle.gap_word.proofs.buffer.GapWord.left_len.Goals as goal

pub returns-clause-value : goal.returns-clause-value
returns-clause-value g c = left_len c.self.invariant.laid _ c.self.view_is

pub returns-clause-within : goal.returns-clause-within
returns-clause-within g c = room_within c.self.invariant.laid _ c.self.view_is c.self.invariant.small
