-- One atom, or two with a star between them.
use Rattle.ld_term.proofs.TreeLemmas.{text-starts, text-within, text-atom, text-bare, second-starts, second-tree}
use Rattle.ld_term.proofs.tree.term_at.Goals as goal

pub atom_at-requires : goal.atom_at-requires
atom_at-requires c =
    let (t, text, small) = c.requires.text in text-starts _ _ _ t c.requires.within text small

pub next_piece-requires : goal.next_piece-requires
next_piece-requires c =
    let (t, text, small) = c.requires.text in text-within _ _ _ _ _ t text c.in_ok-left.ensures

pub returns-in_default : goal.returns-in_default
returns-in_default c = λ t text. text-atom _ _ _ _ _ t text c.in_ok-left.ensures c.in_default.ensures

pub atom_at-requires-2 : goal.atom_at-requires-2
atom_at-requires-2 c =
    let (t, text, small) = c.requires.text in
    second-starts _ _ _ _ t _ _ _ (text-bare _ _ _ _ _ t _ _ _ text c.in_ok-left.ensures c.in-Some.ensures)
    c.in-Some.ensures small

pub returns : goal.returns
returns c = λ t text.
    rw (c.in_ok-left-2.ensures.ok, c.in_ok-right-2.ensures.ok)
    (second-tree _ _ _ _ _ _ t _ _ _ (text-bare _ _ _ _ _ t _ _ _ text c.in_ok-left.ensures c.in-Some.ensures)
    c.in-Some.ensures c.in_ok-right.ensures)
