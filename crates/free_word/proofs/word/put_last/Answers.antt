use Rattle.std.proofs.Common.{refl}
use Rattle.free_word.proofs.EndLemmas.{popped, product-popped, IsReduced-popped, product-pushed}
use Rattle.free_word.proofs.word.put_last.Goals as goal

pub returns-then-ends_in_inverse-clause-ok : goal.returns-then-ends_in_inverse-clause-ok
returns-then-ends_in_inverse-clause-ok c =
    let cut = popped _ _ _ _ c.args.x c.deref.ensures.value c.deref.ensures.len
    (c.if-ends_in_inverse.ensures.cut refl) c.pop.ensures.rest in
    product-popped _ _ c.args.x cut c.requires

pub returns-then-ends_in_inverse-clause-reduced : goal.returns-then-ends_in_inverse-clause-reduced
returns-then-ends_in_inverse-clause-reduced c =
    let cut = popped _ _ _ _ c.args.x c.deref.ensures.value c.deref.ensures.len
    (c.if-ends_in_inverse.ensures.cut refl) c.pop.ensures.rest in
    IsReduced-popped _ _ c.args.x cut c.requires

pub returns-clause-ok : goal.returns-clause-ok
returns-clause-ok c =
    product-pushed _ _ _ c.args.x c.deref.ensures.value (c.if-ends_in_inverse.ensures.kept refl)
    c.requires c.in_ok-push.ensures.items
