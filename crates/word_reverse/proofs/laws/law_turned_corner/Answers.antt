use Rattle.word_reverse.proofs.CornerLemmas.{EquivalentOn-turned}
use Rattle.word_reverse.proofs.laws.law_turned_corner.Goals as goal

pub returns : goal.returns
returns c = EquivalentOn-turned
