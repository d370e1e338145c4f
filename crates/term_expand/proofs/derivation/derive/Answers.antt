use Rattle.term_graph.proofs.StopLemmas.{IfErr-refusal}
use Rattle.term_expand.proofs.WorkLemmas.{derivation-equivalent}
use Rattle.term_expand.proofs.derivation.derive.Goals as goal

pub returns-clause-equivalent : goal.returns-clause-equivalent
returns-clause-equivalent c = derivation-equivalent _ _ c.args.node _ c.derive_by.ensures.made

pub returns-clause-refused : goal.returns-clause-refused
returns-clause-refused c = IfErr-refusal _ _ _ _ c.derive_by.ensures.stopped
