-- The line of the whole, and then those of both parts.
use Rattle.std.proofs.Common.{sym, ap, ap₂, ◌∙◌}
use Rattle.ld_term.specs.Terms.{multiply}
use Rattle.term_graph.specs.Nodes.{term_of}
use Rattle.ld_cert.proofs.StepTextLemmas.{spread-lines}
use Rattle.ld_cert.proofs.path.+push_spread.Goals as goal

pub returns-in_ok-push_spread-in-Product-2 : goal.returns-in_ok-push_spread-in-Product-2
returns-in_ok-push_spread-in-Product-2 t c =
    let whole = ap term_of c.in-Product.is
    ∙ ap₂ multiply (sym (ap term_of c.deref-in-Product.ensures))
    (sym (ap term_of c.deref-in-Product-3.ensures)) in
    spread-lines c.args.place.now c.deref.result.now c.deref-in-Product-2.result.now _ _ _ _ _ _ _ whole
    (c.deref.ensures.value ∙ c.in_ok-first-in-Product.ensures)
    (c.deref-in-Product-2.ensures.value ∙ c.in_ok-second-in-Product.ensures)
    c.in_ok-push_line-in-Product.ensures c.in_ok-push_spread-in-Product.ensures
    c.in_ok-push_spread-in-Product-2.ensures
