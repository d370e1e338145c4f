use Rattle.std.proofs.Common.{Ok, refl, sym, ap, ◌∙◌}
use Rattle.trace_check.specs.Keeping.{replay_of, replay_to}
use Rattle.trace_check.specs.States as due
use Rattle.trace_check.proofs.KeepLemmas.{shown-Witness, shown-Sign, shown-Ok}
use Rattle.trace_check.proofs.keep.show.Goals as goal

pub returns-then-not-is : goal.returns-then-not-is
returns-then-not-is c =
    shown-Witness (replay_of c.args.replay) c.args.verdict c.args.word _ _ c.letters.ensures refl
    c.if-not-is.ensures

pub returns-then-not-has_sign_of : goal.returns-then-not-has_sign_of
returns-then-not-has_sign_of c =
    shown-Sign (replay_of c.args.replay) c.args.verdict c.args.word _ _ c.letters.ensures refl
    _ c.letters-2.ensures (c.if-not-is.ensures.0 refl) c.if-not-has_sign_of.ensures

pub returns : goal.returns
returns c =
    let same = c.if-not-is.ensures.0 refl in
    shown-Ok (replay_of c.args.replay) c.args.verdict c.args.word _ _ c.letters.ensures refl
    _ c.letters-2.ensures same (c.if-not-has_sign_of.ensures.0 refl)
    ∙ ap (λ w. Ok (due.finish (record (replay_of c.args.replay) { present = w }) c.args.verdict))
    (sym same ∙ c.letters.ensures)
    ∙ ap (λ claim. Ok (due.finish (replay_to claim) claim.verdict)) (sym c.new.ensures)
