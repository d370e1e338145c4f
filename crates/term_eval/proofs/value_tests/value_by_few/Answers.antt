use Rattle.std.proofs.Common.{arith}
use Rattle.term_graph.proofs.ProductLemmas.{distinct_products-few}
use Rattle.term_eval.proofs.value_tests.value_by_few.Goals as goal

pub returns : goal.returns
returns g c = omega (
  arith,
  c.value.ensures.cost,
  distinct_products-few _ c.nodes.ensures.graph c.args.node
      c.requires,
)
