-- The first letter met that isn't higher than the last starts a handle or rules one out.
use Rattle.std.proofs.Common.{◌-◌, ap, arith}
use Rattle.braid_word.specs.Words.{Letter}
use Rattle.std.proofs.lemmas.Bool.{both_ways}
use Rattle.handle_find.proofs.HandleLemmas.{higher_more, IsHandle-from_walk, no_start-from_walk}
use Rattle.handle_find.proofs.handle.start_of_handle.Goals as goal

pub returns-then-are_opposite : goal.returns-then-are_opposite
returns-then-are_opposite c =
    IsHandle-from_walk _ _ _ _ _
    (omega arith)
    (omega arith)
    c.index-word-start.is
    c.loop-start.invariant.last
    (c.are_opposite.ensures.0 c.if-are_opposite.true)
    (λ k above below. c.loop-start.invariant.higher k (omega arith) below)

pub returns-else-are_opposite : goal.returns-else-are_opposite
returns-else-are_opposite c =
    let first = ap (λ (x : Letter). x.index) c.first.view_is in
    let last = ap (λ (x : Letter). x.index) c.last.view_is in
    no_start-from_walk _ (c.loop-start.start - 1) _ _ _
    (omega arith)
    (omega arith)
    c.index-word-start.is
    c.loop-start.invariant.last
    (omega arith)
    (λ opposite. both_ways _ c.if-are_opposite.false (c.are_opposite.ensures.1 opposite))
    (λ k above below. c.loop-start.invariant.higher k (omega arith) below)

pub loop-start-preserved : goal.loop-start-preserved
loop-start-preserved c =
    let first = ap (λ (x : Letter). x.index) c.first.view_is in
    let last = ap (λ (x : Letter). x.index) c.last.view_is in
    let higher = higher_more _ c.loop-start.last.index (c.loop-start.start - 1) _ _
    (omega arith)
    c.index-word-start.is
    (omega arith)
    (λ k above below. c.loop-start.invariant.higher k (omega arith) below) in
    record { last = c.loop-start.invariant.last; higher = higher }
