use Rattle.word_reverse.proofs.TextLemmas.{length-right}
use Rattle.word_reverse.proofs.text.side_len.Goals as goal

pub returns-in-Right : goal.returns-in-Right
returns-in-Right c = length-right _ c.in-Right.cut _ _ c.in-Right.is c.current_len.ensures
