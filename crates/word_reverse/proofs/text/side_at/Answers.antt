use Rattle.word_reverse.proofs.TextLemmas.{within_right}
use Rattle.word_reverse.proofs.text.side_at.Goals as goal

pub right_at-requires : goal.right_at-requires
right_at-requires c = within_right _ c.in-Right.cut c.args.k _ c.in-Right.is c.requires.within
