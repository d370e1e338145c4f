-- A corner beside the cursor is the leftmost, and another letter is passed.
use Rattle.std.proofs.Common.{sym, ◌∙◌}
use Rattle.word_reverse.proofs.CursorLemmas.{AtCorner-met, passes-met}
use Rattle.word_reverse.proofs.cursor.is_at_corner.Goals as goal

pub returns-in-Some-clause-corner : goal.returns-in-Some-clause-corner
returns-in-Some-clause-corner c = λ corner.
    AtCorner-met _ _ _ c.in-Some.ensures c.requires (sym c.is_corner.ensures ∙ corner)

pub returns-in-Some-clause-none : goal.returns-in-Some-clause-none
returns-in-Some-clause-none c = passes-met _ _ _ c.in-Some.ensures c.requires _ c.is_corner.ensures
