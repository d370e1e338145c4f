use Rattle.free_word.proofs.EndLemmas.{product-first, product-next, IsReducedForm-whole}
use Rattle.free_word.proofs.word.product.Goals as goal

pub loop-x-init : goal.loop-x-init
loop-x-init c = product-first _ _ c.in_ok-word.ensures.value c.in_ok-word.ensures.reduced

pub loop-x-preserved : goal.loop-x-preserved
loop-x-preserved c =
    product-next c.args.a.now _ _ _ _ _ c.x-item.result c.letters-x-items.ensures.value
    c.letters-x-items.ensures.reduced c.loop-x-test.true c.x-item.is c.loop-x.invariant
    c.in_ok-push.ensures.ok

pub returns-clause-form : goal.returns-clause-form
returns-clause-form c =
    IsReducedForm-whole c.args.a.now _ _ _ _ c.letters-x-items.ensures.value
    c.letters-x-items.ensures.reduced c.loop-x-test.false c.loop-x.invariant
