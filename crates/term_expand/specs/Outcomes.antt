-- What the functions that expand a part of a graph's term answer. No public clause cites this module.
--
--   failure_of error                    why an expansion fails one of whose products is refused so
-- Outcome old address t new result    the answer of an expansion of t at an address, and what the graph is
-- then
use Rattle.std.specs.Prelude.{◌≡◌, ℕ, ◌<◌, List, length, Result, IfOk, IfErr, OnOk, IsErrOf}
use Rattle.ld_term.specs.Terms.{Term}
use Rattle.term_graph.specs.TermLists.{term_at}
use Rattle.term_graph.specs.Asks.{answered, ask_all}
use Rattle.term_graph.specs.Requests.{IsFront}
use Rattle.term_graph.specs.declared.error.GraphErr.{GraphErr}
use Rattle.term_graph.specs.declared.error.GraphErr.TheVariants as graph_errors
use Rattle.term_expand.specs.Expansions.{expanded, no_place, not_expandable, expansion_at, IsExpandRefusal, IsExpandStopped}
use Rattle.term_expand.specs.Requests.{expand_requests}
use Rattle.term_expand.specs.declared.error.ExpandErr.{ExpandErr}
use Rattle.term_expand.specs.declared.error.ExpandErr.TheVariants.{NoPlace, NotExpandable, TooDeep, Full, Memory}

-- A refused product fails the expansion for the same cause.
abbrev pub failure_of : GraphErr → ExpandErr
failure_of graph_errors.TooDeep = TooDeep
failure_of graph_errors.Full = Full
failure_of graph_errors.Memory = Memory

-- The answer of an expansion.
pub record Outcome
    (old : List Term) (address : List ℕ) (t : Term) (new : List Term) (result : Result ℕ ExpandErr) : Type 0
  where
    pub number : IfOk result (λ n. n < length new)
    pub term : IfOk result (λ n. expansion_at address t ≡ expanded (term_at new n))
    pub asked : OnOk result (ask_all (answered old) (expand_requests address t) ≡ answered new)
    pub refused
        : IfErr result
        (IsExpandRefusal (expansion_at address t) (ask_all (answered old) (expand_requests address t)))
    pub placeless : expansion_at address t ≡ no_place → IsErrOf result NoPlace
    pub stuck : expansion_at address t ≡ not_expandable → IsErrOf result NotExpandable
    pub kept : IsFront old new
    pub stopped : IfErr result (IsExpandStopped old new (expand_requests address t))
