use Rattle.word_reverse.proofs.TextLemmas.{left_at}
use Rattle.word_reverse.proofs.text.left_at.Goals as goal

pub returns : goal.returns
returns c = left_at _ c.args.cut c.args.k _ c.requires.low c.current_at.ensures
