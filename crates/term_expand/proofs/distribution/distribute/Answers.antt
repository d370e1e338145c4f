use Rattle.term_graph.proofs.StopLemmas.{IfErr-refusal}
use Rattle.term_expand.proofs.WorkLemmas.{distribution-equivalent}
use Rattle.term_expand.proofs.distribution.distribute.Goals as goal

pub returns-clause-equivalent : goal.returns-clause-equivalent
returns-clause-equivalent c =
    distribution-equivalent _ _ c.args.a c.args.b _ c.distribute_by.ensures.made

pub returns-clause-refused : goal.returns-clause-refused
returns-clause-refused c = IfErr-refusal _ _ _ _ c.distribute_by.ensures.stopped
