use Rattle.std.proofs.Common.{refl}
use Rattle.std.proofs.lemmas.Bool.{false≢true}
use Rattle.garside_form.proofs.FactorLemmas.{KeepsFactors-refl}
use Rattle.garside_form.proofs.ListLemmas.{dropped_orders, dropped_greedy, dropped_begins, dropped_keeps, ready_last}
use Rattle.garside_form.proofs.lists.drop_identities.Goals as goal

pub loop-last-init : goal.loop-last-init
loop-last-init c = record {
  orders = λ n orders. orders;
  greedy = λ n greedy. greedy;
  begins = λ n begins. begins;
  keeps = λ n orders. KeepsFactors-refl n _;
}

pub returns-then-not-is_identity-clause-ready : goal.returns-then-not-is_identity-clause-ready
returns-then-not-is_identity-clause-ready c = λ n orders greedy begins.
    ready_last n _ _ _ _ c.in-Some.ensures.items c.in_ok-push.ensures.items
    (λ e. false≢true (c.if-not-is_identity.ensures.1 e))
    (c.loop-last.invariant.orders n orders) (c.loop-last.invariant.greedy n greedy)
    (c.loop-last.invariant.begins n begins)

pub loop-last-preserved-else-not-is_identity : goal.loop-last-preserved-else-not-is_identity
loop-last-preserved-else-not-is_identity c = record {
  orders = λ n orders. dropped_orders n _ _ _ c.in-Some.ensures.items (c.loop-last.invariant.orders n orders);
  greedy = λ n greedy. dropped_greedy n _ _ _ c.in-Some.ensures.items (c.loop-last.invariant.greedy n greedy);
  begins = λ n begins. dropped_begins n _ _ _ c.in-Some.ensures.items (c.loop-last.invariant.begins n begins);
  keeps = λ n orders. dropped_keeps n _ _ _ _ c.in-Some.ensures.items (c.loop-last.invariant.orders n orders)
      (c.if-not-is_identity.ensures.0 refl) (c.loop-last.invariant.keeps n orders);
}

pub loop-last-preserved : goal.loop-last-preserved
loop-last-preserved c = record {
  orders = λ n orders. dropped_orders n _ _ _ c.in-Some.ensures.items (c.loop-last.invariant.orders n orders);
  greedy = λ n greedy. dropped_greedy n _ _ _ c.in-Some.ensures.items (c.loop-last.invariant.greedy n greedy);
  begins = λ n begins. dropped_begins n _ _ _ c.in-Some.ensures.items (c.loop-last.invariant.begins n begins);
  keeps = λ n orders. dropped_keeps n _ _ _ _ c.in-Some.ensures.items (c.loop-last.invariant.orders n orders)
      (c.if-not-is_identity.ensures.0 refl) (c.loop-last.invariant.keeps n orders);
}
