use Rattle.std.proofs.Common.{◌∙◌, ◌<◌, ◌++◌, [], ◌∷◌, length, ap, arith}
use Rattle.braid_gcd.proofs.TakeLemmas.{order_step, taken_lowers}
use Rattle.braid_gcd.proofs.SpellLemmas.{simple_begins, simple_step, simple_ends}
use Rattle.braid_gcd.proofs.spell.push_simple.Goals as goal

pub loop-i-init : goal.loop-i-init
loop-i-init c = record {
  order = c.requires.order;
  word = λ w v one two. simple_begins _ _ w v _ one two;
}

pub loop-i-smaller : goal.loop-i-smaller
loop-i-smaller c =
    taken_lowers c.in-Some.i c.loop-i.invariant.order c.in-Some.ensures.some.0
    (omega (arith, c.in-Some.ensures.some, c.loop-i.invariant.order.size)) c.in-Some.ensures.some.2
    c.before-in-Some.ensures

pub loop-i-preserved : goal.loop-i-preserved
loop-i-preserved c =
    let high : c.in-Some.i < length c.args.braid =
    omega (arith, c.in-Some.ensures.some, c.loop-i.invariant.order.size) in
    record {
      order = order_step c.in-Some.i c.loop-i.invariant.order c.in-Some.ensures.some.0 high
          c.before-in-Some.ensures;
      word = λ w v one two.
          simple_step _ c.loop-i.word.items _ v _ c.loop-i.rest _ c.in-Some.i c.in-Some.ensures.some.0 high
          c.in-Some.ensures.some.2 c.in-Some.ensures.least
          (c.in_ok-push.ensures.items ∙ ap (λ x. c.loop-i.word.items ++ x ∷ []) c.new.ensures)
          c.before-in-Some.ensures (λ t. c.loop-i.invariant.word w t one) two;
    }

pub returns : goal.returns
returns c = λ w word.
    simple_ends _ _ _ c.loop-i.rest c.loop-i.invariant.order
    (λ j low high. c.in_default.ensures.none j low (omega (arith, high, c.loop-i.invariant.order.size)))
    (λ v. c.loop-i.invariant.word w v word)
