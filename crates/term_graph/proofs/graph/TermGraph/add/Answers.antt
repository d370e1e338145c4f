use Rattle.std.proofs.Common.{ap, ◌∙◌, ◌++◌, ◌∷◌, []}
use Rattle.ld_term.specs.Terms.{multiply}
use Rattle.term_graph.proofs.GraphLemmas.{pairs_alike}
use Rattle.term_graph.proofs.EntryLemmas.{entry-term, entries-push}
use Rattle.term_graph.proofs.graph.TermGraph.add.Goals as goal

pub invariant_of-self-2 : goal.invariant_of-self-2
invariant_of-self-2 c =
    let entries = c.self.inside.entries.items in
    let now = c.args.self.now in
    let left = entry-term entries now c.args.a c.index.result c.index-2.result.now c.self.view_is
    c.requires.left c.index.ensures c.index-2.ensures in
    let right = entry-term entries now c.args.b c.index-3.result c.index-4.result.now c.self.view_is
    c.requires.right c.index-3.ensures c.index-4.ensures in
    let term = c.in_ok-entry.ensures.term ∙ (λ i. multiply (left i) (right i)) in
    entries-push c.self.inside.pairs.keys entries now c.args.a c.args.b (c.a.inside.0, c.b.inside.0)
    c.in_ok-entry.entry c.insert.new.self.keys c.push.new.self.items
    c.self.invariant.0 c.self.invariant.1 c.self.view_is c.requires.left c.requires.right c.requires.few
    c.requires.new
    (pairs_alike _ _ c.a.view_is c.b.view_is) term c.in_ok-entry.ensures.entry c.in-Ok.ensures.keys
    (c.in-Ok-push.ensures.items ∙ ap (λ z. z ++ c.in_ok-entry.entry ∷ []) c.in_ok-reserve.ensures.items)
