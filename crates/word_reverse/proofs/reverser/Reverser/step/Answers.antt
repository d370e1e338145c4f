-- The corner at the cursor is the leftmost, and the next one is found.
use Rattle.std.proofs.Common.{◌≡◌, ℕ, ◌+◌, ◌-◌, [], ◌∷◌, ◌++◌, length, refl, ap, ◌∙◌, arith}
use Rattle.word_reverse.proofs.ReverserLemmas.{goes_on, turned-long, turned-short}
use Rattle.word_reverse.proofs.reverser.Reverser.step.Goals as goal

pub returns-then-not-turn_here : goal.returns-then-not-turn_here
returns-then-not-turn_here c =
    let kept = c.self.invariant.running (goes_on _ _ _ _ _ _ c.self.view_is c.requires) in
    let stays = c.if-not-turn_here.ensures.stays refl in
    rw stays.1 (turned-long _ _ _ _ _ _ _ c.self.view_is c.requires kept.corner.corner stays.0)

pub returns : goal.returns
returns c =
    let kept = c.self.invariant.running (goes_on _ _ _ _ _ _ c.self.view_is c.requires) in
    let turned = c.if-not-turn_here.ensures.turned refl in
    let len = c.left_len-place.ensures.value in
    let place : c.left_len-place.result ≡ length c.self.inside.word.left - 1 + 1
    = omega (arith, len, kept.corner.between.before) in
    turned-short _ _ _ _ _ _ _ _ _ c.len.result _ c.self.view_is c.requires kept.corner.corner turned.0
    (c.settle-self-inside.ensures.word ∙ turned.1)
    (c.in-Ok.ensures.items ∙ ap (λ (p : ℕ). c.self.inside.places.items ++ p ∷ []) place)
    (omega (arith, c.len.ensures, c.in-Ok.ensures.len, c.self.inside.places.ok.0))
    c.settle-self-inside.ensures.progress
