-- The letter that far from the end, with its sign turned.
use Rattle.word_reverse.proofs.TextLemmas.{right_at}
use Rattle.word_reverse.proofs.text.right_at.Goals as goal

pub returns : goal.returns
returns c =
    rw c.opposite.ensures
    (right_at _ c.args.cut c.args.k _ c.requires (rw c.current_len.ensures at c.current_at.ensures))
