use Rattle.word_reverse.proofs.CornerLemmas.{corner_of-IsLeftmostCorner, corner_of-HasNoCorner}
use Rattle.word_reverse.proofs.laws.law_leftmost_corner.Goals as goal

pub returns-clause-some : goal.returns-clause-some
returns-clause-some c = corner_of-IsLeftmostCorner

pub returns-clause-none : goal.returns-clause-none
returns-clause-none c = corner_of-HasNoCorner
