-- A new buffer is empty.
use Rattle.gap_word.proofs.BufferLemmas.{fresh}
use Rattle.gap_word.proofs.buffer.GapWord.with_capacity.Goals as goal

pub returns : goal.returns
returns g c = fresh c.args.n
