-- The reduction is that of the leftmost handle, and the next one is found.
use Rattle.std.proofs.Common.{ℕ, [], ◌∷◌, ◌++◌, refl, ap, ◌∙◌, arith}
use Rattle.handle_find.proofs.HandleLemmas.{leftmost_of-Some}
use Rattle.handle_reduce.proofs.ReducerLemmas.{goes_on, turned-long, turned-short, IsHandle-small}
use Rattle.handle_reduce.proofs.reducer.Reducer.step.Goals as goal

pub reduce-requires-clause-handle : goal.reduce-requires-clause-handle
reduce-requires-clause-handle c =
    let kept = c.self.invariant.running (goes_on _ _ _ _ _ _ c.self.view_is c.requires) in
    (leftmost_of-Some _ _ _ kept.leftmost).handle

pub returns-then-not-reduce : goal.returns-then-not-reduce
returns-then-not-reduce c =
    let kept = c.self.invariant.running (goes_on _ _ _ _ _ _ c.self.view_is c.requires) in
    let stays = c.if-not-reduce.ensures.stays refl in
    rw stays.1 (turned-long _ _ _ _ _ _ _ _ _ c.self.view_is c.requires kept.leftmost refl stays.0)

pub step_at-requires : goal.step_at-requires
step_at-requires c =
    let kept = c.self.invariant.running (goes_on _ _ _ _ _ _ c.self.view_is c.requires) in
    rw c.left_len-end.ensures.value (IsHandle-small _ _ _ _ refl kept.leftmost c.self.invariant.short_word)

pub returns : goal.returns
returns c =
    let kept = c.self.invariant.running (goes_on _ _ _ _ _ _ c.self.view_is c.requires) in
    let taken = c.if-not-reduce.ensures.taken refl in
    let step = rw c.left_len-end.ensures.value at c.step_at.ensures in
    turned-short _ _ _ _ _ _ _ _ _ _ _ _ c.len.result _ c.self.view_is c.requires kept.leftmost refl
    taken.0
    (c.settle-start.ensures.word ∙ taken.1)
    (c.in-Ok.ensures.items ∙ ap (λ (x : ℕ × ℕ). c.self.inside.steps.items ++ x ∷ []) step)
    (omega (arith, c.len.ensures, c.in-Ok.ensures.len, c.self.inside.steps.ok.0))
    refl
    c.settle-start.ensures.progress
