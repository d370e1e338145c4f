use Rattle.std.proofs.Common.{subst}
use Rattle.term_graph.specs.TermLists.{IsGraph}
use Rattle.term_graph.proofs.GraphLemmas.{IsKept-IsGraph}
use Rattle.term_graph.proofs.EntryLemmas.{entries-low}
use Rattle.term_graph.proofs.graph.TermGraph.nodes.Goals as goal

pub returns-clause-graph : goal.returns-clause-graph
returns-clause-graph c =
    subst IsGraph c.self.view_is (IsKept-IsGraph _ _ c.self.invariant.0 (entries-low _ c.self.invariant.1))
