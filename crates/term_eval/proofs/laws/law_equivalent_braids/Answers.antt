use Rattle.term_eval.proofs.BraidLemmas.{Equivalent-braid}
use Rattle.term_eval.proofs.laws.law_equivalent_braids.Goals as goal

pub returns : goal.returns
returns c = λ t u chain. Equivalent-braid chain
