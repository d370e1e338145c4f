use Rattle.std.proofs.Common.{sym, subst, arith, ◌≡◌}
use Rattle.term_graph.specs.TermLists.{term_at}
use Rattle.term_graph.specs.Nodes.{IsKept}
use Rattle.term_graph.proofs.GraphLemmas.{place-parts}
use Rattle.term_graph.proofs.graph.TermGraph.children.Goals as goal

pub returns-in_err-place : goal.returns-in_err-place
returns-in_err-place c =
    let kept = subst (IsKept c.self.inside.pairs.keys) c.self.view_is c.self.invariant.0 in
    let zero : 0 ≡ c.args.a = omega (arith, c.in_err-place.ensures, c.index.ensures) in
    rw c.from_residual.ensures (subst (λ n. term_at c.args.self.now n ≡ _) zero kept.first)

pub returns : goal.returns
returns c =
    let kept = subst (IsKept c.self.inside.pairs.keys) c.self.view_is c.self.invariant.0 in
    place-parts _ _ kept c.args.a c.in_ok-place.place c.in_ok-left.field-0.now
    (omega (arith, c.in_ok-place.ensures, c.index.ensures))
    (omega (arith, c.in_ok-place.ensures, c.index.ensures)) (sym c.in_ok-left.ensures.key)
