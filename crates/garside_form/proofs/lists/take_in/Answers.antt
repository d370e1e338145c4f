use Rattle.std.proofs.Common.{refl}
use Rattle.std.proofs.lemmas.Bool.{false≢true}
use Rattle.garside_form.proofs.ListLemmas.{pass_begins, pass_sizes, pass_turn, taken_stops, taken_turns}
use Rattle.garside_form.proofs.lists.take_in.Goals as goal

pub passing-init : goal.passing-init
passing-init c = pass_begins _ _ _ _ c.requires.empty c.requires.ready c.requires.order

pub greedy_pair-moved-requires : goal.greedy_pair-moved-requires
greedy_pair-moved-requires c =
    record { equal = pass_sizes _ _ _ _ _ _ _ c.passing.invariant c.in-Some.ensures.items }

pub returns-then-not-moved-clause-taken : goal.returns-then-not-moved-clause-taken
returns-then-not-moved-clause-taken c =
    taken_stops _ _ _ _ _ _ _ c.passing.stack.items _ _ _ _ c.passing.invariant c.in-Some.ensures.items
    c.greedy_pair-moved.ensures.moves c.greedy_pair-moved.ensures.greedy c.if-not-moved.ensures.moved.1
    c.in_ok-push-2.ensures.items c.in_ok-push-3.ensures.items c.in_ok-put_back-2.ensures.list

pub passing-preserved : goal.passing-preserved
passing-preserved c =
    pass_turn _ _ _ _ c.passing.stack.items _ _ _ _ _ c.passing.invariant
    (λ e. false≢true (c.passing-test.ensures.1 e))
    c.in-Some.ensures.items c.greedy_pair-moved.ensures.moves c.greedy_pair-moved.ensures.greedy
    c.in_ok-push-4.ensures.items

pub returns-clause-taken : goal.returns-clause-taken
returns-clause-taken c =
    taken_turns _ _ _ _ c.passing.stack.items _ c.passing.invariant (c.passing-test.ensures.0 refl)
    c.in_ok-put_back_turned.ensures.list
