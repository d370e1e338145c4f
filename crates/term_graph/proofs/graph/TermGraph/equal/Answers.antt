use Rattle.std.proofs.Common.{ap, sym, ◌∙◌, subst}
use Rattle.std.proofs.lemmas.Bool.{eqb-true, eq-eqb}
use Rattle.term_graph.specs.TermLists.{term_at}
use Rattle.term_graph.specs.Nodes.{IsKept}
use Rattle.term_graph.proofs.GraphLemmas.{IsKept-different}
use Rattle.term_graph.proofs.graph.TermGraph.equal.Goals as goal

pub returns-clause-terms : goal.returns-clause-terms
returns-clause-terms c =
    let kept = subst (IsKept c.self.inside.pairs.keys) c.self.view_is c.self.invariant.0 in (
      λ one. ap (term_at c.args.self.now) (eqb-true _ _ (sym c.eq.ensures ∙ one)),
      λ is. c.eq.ensures ∙ eq-eqb _ _ (IsKept-different _ _ kept _ _ c.requires.left c.requires.right is),
    )
