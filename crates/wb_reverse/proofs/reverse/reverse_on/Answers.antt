use Rattle.std.proofs.Common.{sym, ◌∙◌, refl}
use Rattle.wb_reverse.proofs.ReverseLemmas.{run-all, reversed-stands, run-over}
use Rattle.wb_reverse.proofs.reverse.reverse_on.Goals as goal

pub unreachable-requires : goal.unreachable-requires
unreachable-requires c =
    let all = run-all _ _ _ _ (c.turn.ensures.run _ _ _ _ c.in_ok-run.ensures) in
    run-over _ _ _ _ all (sym c.turn.ensures.progress ∙ c.in-Running.is)

pub returns-in-Done : goal.returns-in-Done
returns-in-Done c =
    let all = run-all c.args.word _ _ _ (c.turn.ensures.run _ _ _ _
    (rw (c.in_ok-copy.ensures, c.letters.ensures) at c.in_ok-run.ensures)) in
    reversed-stands _ _ _ _ _ all c.turn.ensures.progress ∙ rw c.in-Done.is refl

pub returns-in-StepsMet : goal.returns-in-StepsMet
returns-in-StepsMet c =
    let all = run-all c.args.word _ _ _ (c.turn.ensures.run _ _ _ _
    (rw (c.in_ok-copy.ensures, c.letters.ensures) at c.in_ok-run.ensures)) in
    reversed-stands _ _ _ _ _ all c.turn.ensures.progress ∙ rw (c.in-StepsMet.is, c.from.ensures) refl

pub returns-in-LengthMet : goal.returns-in-LengthMet
returns-in-LengthMet c =
    let all = run-all c.args.word _ _ _ (c.turn.ensures.run _ _ _ _
    (rw (c.in_ok-copy.ensures, c.letters.ensures) at c.in_ok-run.ensures)) in
    reversed-stands _ _ _ _ _ all c.turn.ensures.progress ∙ rw (c.in-LengthMet.is, c.from-in-LengthMet.ensures) refl
