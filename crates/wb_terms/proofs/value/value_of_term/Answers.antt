use Rattle.term_graph.specs.TermLists.{term_at}
use Rattle.wb_terms.proofs.ValueLemmas.{valued-only}
use Rattle.wb_terms.proofs.value.value_of_term.Goals as goal

pub returns : goal.returns
returns c =
    valued-only c.args.exponent c.in_ok-table.table (term_at c.args.graph.now c.args.node) c.in_ok-value.value
    c.in_ok-table.ensures.laver c.in_ok-value.ensures
