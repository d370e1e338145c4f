use Rattle.std.proofs.Common.{◌∙◌, sym}
use Rattle.std.proofs.lemmas.List.{nil_from_length}
use Rattle.braid_gcd.proofs.SpellLemmas.{list_begins, list_rest, list_step, list_ends}
use Rattle.braid_gcd.proofs.spell.push_list.Goals as goal

pub loop-braid-init : goal.loop-braid-init
loop-braid-init c = record {
  orders = λ n orders. orders;
  word = λ n w v orders one two. list_begins n _ w v _ one two;
}

pub loop-braid-preserved : goal.loop-braid-preserved
loop-braid-preserved c = record {
  orders = λ n orders. (list_rest n _ _ _ c.in-Some.ensures.items (c.loop-braid.invariant.orders n orders)).1;
  word = λ n w v orders one two.
      list_step n c.loop-braid.word.items _ v _ _ _ _ c.in-Some.ensures.items
      (c.loop-braid.invariant.orders n orders)
      c.in_ok-push_simple.ensures (λ t. c.loop-braid.invariant.word n w t orders one) two;
}

pub returns : goal.returns
returns c = λ n w orders product.
    list_ends n _ _ c.loop-braid.list.items
    (nil_from_length c.loop-braid.list.items (sym c.loop-braid.list.ok.0 ∙ c.in_default.ensures.cases.0))
    (λ v. c.loop-braid.invariant.word n w v orders product)
