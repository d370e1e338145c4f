use Rattle.term_eval.proofs.BraidLemmas.{length-braid, on_braid, top_braid}
use Rattle.term_eval.proofs.laws.law_braid_word.Goals as goal

pub returns-clause-length : goal.returns-clause-length
returns-clause-length c = length-braid

pub returns-clause-within : goal.returns-clause-within
returns-clause-within c = on_braid

pub returns-clause-greatest : goal.returns-clause-greatest
returns-clause-greatest c = top_braid
