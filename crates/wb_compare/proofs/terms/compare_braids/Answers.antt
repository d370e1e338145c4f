use Rattle.std.proofs.Common.{arith}
use Rattle.term_graph.specs.TermLists.{term_at}
use Rattle.wb_compare.proofs.TermsLemmas.{leaf_count-le}
use Rattle.wb_compare.proofs.terms.compare_braids.Goals as goal

pub compared-requires-clause-left_leaves : goal.compared-requires-clause-left_leaves
compared-requires-clause-left_leaves c =
    omega (
      arith,
      leaf_count-le (term_at c.args.graph.now c.args.nodes.0),
      c.requires.left_short,
      c.requires.limit,
    )

pub compared-requires-clause-right_leaves : goal.compared-requires-clause-right_leaves
compared-requires-clause-right_leaves c =
    omega (
      arith,
      leaf_count-le (term_at c.args.graph.now c.args.nodes.1),
      c.requires.right_short,
      c.requires.limit,
    )
