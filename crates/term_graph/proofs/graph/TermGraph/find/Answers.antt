use Rattle.std.proofs.Common.{sym, subst}
use Rattle.term_graph.specs.Nodes.{IsKept}
use Rattle.term_graph.proofs.GraphLemmas.{pairs_alike, position-product, absent-product}
use Rattle.term_graph.proofs.graph.TermGraph.find.Goals as goal

pub returns-in_err-place : goal.returns-in_err-place
returns-in_err-place c =
    let kept = subst (IsKept c.self.inside.pairs.keys) c.self.view_is c.self.invariant.0 in
    rw c.from_residual.ensures
    (absent-product _ _ kept c.args.a c.args.b _ (pairs_alike _ _ c.a.view_is c.b.view_is) c.requires.left
    c.requires.right (sym c.in_err-place.ensures.found))

pub returns : goal.returns
returns c =
    let kept = subst (IsKept c.self.inside.pairs.keys) c.self.view_is c.self.invariant.0 in
    position-product _ _ kept c.args.a c.args.b c.in_ok-place.place _
    (pairs_alike _ _ c.a.view_is c.b.view_is) (sym c.in_ok-place.ensures.index)
