use Rattle.std.proofs.Common.{true, [], ◌∷◌, ◌++◌, ◌∙◌, ap}
use Rattle.ld_term.proofs.LevelLemmas.{put-none, put-some}
use Rattle.ld_term.proofs.levels.Levels.push.Goals as goal

pub invariant_of-self-in-None : goal.invariant_of-self-in-None
invariant_of-self-in-None c =
    (put-none _ _ _ _ c.in_ok-push-in-None.ensures.items c.self.invariant c.self.view_is).0

pub returns-in_ok-push-in-None : goal.returns-in_ok-push-in-None
returns-in_ok-push-in-None c =
    rw c.in-None.is (put-none _ _ _ _ c.in_ok-push-in-None.ensures.items c.self.invariant c.self.view_is).1

pub invariant_of-self-in-Some : goal.invariant_of-self-in-Some
invariant_of-self-in-Some c =
    let put = c.in-Ok.ensures.items ∙ ap (λ marks. marks ++ true ∷ []) c.in_ok-reserve-in-Some.ensures.items in
    (put-some _ _ _ _ _ c.in-Some.height put c.in_ok-push-in-Some.ensures.items c.self.invariant c.self.view_is).0

pub returns-in-Ok : goal.returns-in-Ok
returns-in-Ok c =
    let put = c.in-Ok.ensures.items ∙ ap (λ marks. marks ++ true ∷ []) c.in_ok-reserve-in-Some.ensures.items in
    rw c.in-Some.is
    (put-some _ _ _ _ _ c.in-Some.height put c.in_ok-push-in-Some.ensures.items c.self.invariant c.self.view_is).1
