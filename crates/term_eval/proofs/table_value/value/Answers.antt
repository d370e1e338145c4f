use Rattle.std.proofs.Common.{rules, ◌≡◌, ◌+◌, [], replicate, sym, ◌∙◌, arith}
use Rattle.term_graph.specs.TermLists.{term_at}
use Rattle.term_eval.proofs.ValueLemmas.{up_to-is, value_of-IsEquivalent}
use Rattle.term_eval.proofs.MemoLemmas.{memo-none, steps-distinct}
use Rattle.term_eval.proofs.table_value.value.Goals as goal

pub value_by-requires-clause-memo : goal.value_by-requires-clause-memo
value_by-requires-clause-memo g c =
    let none : c.in_ok-known.known.items ≡ replicate (c.index.result + 1) 0 = search rules in (
      [],
      memo-none _ _ (c.index.result + 1) _ (omega (arith, c.index.ensures, c.requires))
          (c.deref_mut.ensures.value ∙ none),
    )

pub returns-clause-up_to : goal.returns-clause-up_to
returns-clause-up_to g c =
    let (n, laver) = c.size.ensures.laver in
    up_to-is n c.args.table.now _ c.value_by.result laver c.value_by.ensures.value

pub returns-clause-cost : goal.returns-clause-cost
returns-clause-cost g c =
    let none : c.in_ok-known.known.items ≡ replicate (c.index.result + 1) 0 = search rules in
    let memo = memo-none c.args.graph.now c.args.table.now (c.index.result + 1) _
    (omega (arith, c.index.ensures, c.requires)) (c.deref_mut.ensures.value ∙ none) in
    steps-distinct _ _ (term_at c.args.graph.now c.args.node) (c.value_by.ensures.cost [] memo)

pub returns-clause-equivalent : goal.returns-clause-equivalent
returns-clause-equivalent g c = λ t chain.
    let (n, laver) = c.size.ensures.laver in
    value_of-IsEquivalent n c.args.table.now t _ laver chain ∙ sym c.value_by.ensures.value
