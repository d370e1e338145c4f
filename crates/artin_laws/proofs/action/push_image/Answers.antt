use Rattle.std.proofs.Common.{◌≡◌, OnOk, subst}
use Rattle.artin_laws.proofs.ImageLemmas.{product-image_heavy}
use Rattle.artin_laws.proofs.action.push_image.Goals as goal

pub returns-then-y-heavy : goal.returns-then-y-heavy
returns-then-y-heavy c =
    let whole =
    product-image_heavy c.args.x c.args.y _ _ _ _ _ _ c.args.word.now _ _ _ _ _ c.x.view_is
    c.y.view_is
    c.heavy-heavy.ensures.value c.light-light.ensures.value c.if-y-heavy.true c.new.ensures
    c.new-then-y-heavy.ensures c.new-then-y-heavy-2.ensures c.in_ok-push.ensures.ok
    c.in_ok-push-2.ensures.ok in
    subst (λ w. OnOk c.push-then-y-heavy-2.result (c.push-then-y-heavy-2.new.self ≡ w)) whole
    c.push-then-y-heavy-2.ensures.ok
