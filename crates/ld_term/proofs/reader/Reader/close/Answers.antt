use Rattle.std.proofs.Common.{◌++◌, ◌∷◌, [], Some, subst}
use Rattle.ld_term.specs.Held.{IsHeld}
use Rattle.ld_term.proofs.HeldLemmas.{moves-close}
use Rattle.ld_term.proofs.reader.Reader.close.Goals as goal

pub returns : goal.returns
returns c = λ strict s held.
    let old = c.args.self.now in
    let height = c.in-Some.height in
    let left = c.in-Some-left.left in
    let popped = c.pop.new.self ++ (c.in-Some-pop.outer ∷ []) in
    let first : IsHeld (Some height) old.left old.outer s =
    subst (λ h. IsHeld h old.left old.outer s) c.in-Some.is held in
    let second : IsHeld (Some height) (Some left) old.outer s =
    subst (λ l. IsHeld (Some height) l old.outer s) c.in-Some-left.is first in
    let third : IsHeld (Some height) (Some left) popped s =
    subst (λ o. IsHeld (Some height) (Some left) o s) c.in-Some-pop.ensures second in
    rw (c.saturating_add.ensures, c.max.ensures)
    (moves-close strict s height left c.in-Some-pop.outer c.pop.new.self third)
