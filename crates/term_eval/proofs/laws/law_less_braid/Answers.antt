use Rattle.term_eval.proofs.BraidLemmas.{less-braid}
use Rattle.term_eval.proofs.laws.law_less_braid.Goals as goal

pub returns : goal.returns
returns c = less-braid
