-- The lines of both parts, and then those of the right one's derived term.
use Rattle.std.proofs.Common.{sym, ap, ◌∙◌}
use Rattle.term_graph.specs.Nodes.{term_of}
use Rattle.ld_cert.proofs.StepTextLemmas.{path-lines}
use Rattle.ld_cert.proofs.path.+push_path.Goals as goal

pub returns-in_ok-distribute-in-Product-clause-text : goal.returns-in_ok-distribute-in-Product-clause-text
returns-in_ok-distribute-in-Product-clause-text t c =
    let whole = sym (ap term_of c.deref.ensures) ∙ ap term_of c.in-Product.is in
    let right = ap term_of c.deref-in-Product-3.ensures ∙ c.in_ok-right-in-Product.ensures.tree in
    path-lines c.args.place.now c.deref-in-Product.result.now c.deref-in-Product-2.result.now _ _ _ _ _ _ _ _
    whole (c.deref-in-Product.ensures.value ∙ c.in_ok-first-in-Product.ensures)
    (c.deref-in-Product-2.ensures.value ∙ c.in_ok-second-in-Product.ensures)
    right c.in_ok-left-in-Product.ensures.text c.in_ok-right-in-Product.ensures.text
    c.in_ok-push_spread-in-Product.ensures
