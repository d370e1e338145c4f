use Rattle.std.proofs.Common.{◌∙◌, sym, refl}
use Rattle.std.proofs.lemmas.List.{nil_from_length}
use Rattle.braid_gcd.proofs.PutInLemmas.{put_begins, put_sizes, put_turn, put_ends, put_stops, put_drops}
use Rattle.braid_gcd.proofs.pass.put_in.Goals as goal

pub passing-init : goal.passing-init
passing-init c =
    put_begins _ _ c.args.list.now.items _ c.requires.empty c.requires.order c.requires.orders
    c.requires.greedy

pub greedy_pair-moved-requires : goal.greedy_pair-moved-requires
greedy_pair-moved-requires c =
    record { equal = put_sizes _ _ _ _ _ _ _ c.passing.invariant c.in-Some.ensures.items }

pub returns-then-not-moved-clause-put : goal.returns-then-not-moved-clause-put
returns-then-not-moved-clause-put c =
    put_stops _ _ c.passing.stack.items _ _ _ _ _ _ _ _ _ c.passing.invariant c.in-Some.ensures.items
    c.greedy_pair-moved.ensures.moves c.greedy_pair-moved.ensures.greedy c.if-not-moved.ensures.moved.1
    c.in_ok-push-2.ensures.items c.in_ok-push-3.ensures.items c.in_ok-put_back-2.ensures.list

pub passing-preserved : goal.passing-preserved
passing-preserved c =
    put_turn _ _ c.passing.stack.items _ _ _ _ _ _ _ c.passing.invariant c.in-Some.ensures.items
    c.greedy_pair-moved.ensures.moves c.greedy_pair-moved.ensures.greedy c.in_ok-push-4.ensures.items

pub returns-clause-put : goal.returns-clause-put
returns-clause-put c =
    put_drops _ _ c.passing.stack.items _ _ _ c.passing.invariant (c.passing-test.ensures.0 refl)
    c.in_ok-put_back-3.ensures.list

pub returns-in_default-clause-put : goal.returns-in_default-clause-put
returns-in_default-clause-put c =
    put_ends _ _ c.passing.stack.items _ _ _ _ _ c.passing.invariant
    (nil_from_length c.passing.list.items (sym c.passing.list.ok.0 ∙ c.in_default.ensures.cases.0))
    c.in_default.ensures.items c.in_ok-push.ensures.items c.in_ok-put_back.ensures.list
