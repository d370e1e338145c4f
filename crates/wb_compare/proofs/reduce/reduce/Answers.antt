use Rattle.std.proofs.Common.{sym, ◌∙◌, refl, arith}
use Rattle.wb_compare.proofs.ReductionLemmas.{run-all, run_answer-stands, run-over, run-decided, run_answer-long}
use Rattle.wb_compare.proofs.reduce.reduce.Goals as goal

pub returns-then-left-right : goal.returns-then-left-right
returns-then-left-right c = λ text. run_answer-long text _ _ _ _ (omega arith)

pub unreachable-requires : goal.unreachable-requires
unreachable-requires c =
    let all = run-all _ _ _ _
    (c.turn.ensures.run _ _ _ _ c.in_ok-reducer.ensures) in
    run-decided _ _ _ _ c.in-Done.sign all (sym c.turn.ensures.progress ∙ c.in-Done.is)
    (sym c.verdict_of.ensures ∙ c.in-None.is)

pub unreachable-requires-in-Running : goal.unreachable-requires-in-Running
unreachable-requires-in-Running c =
    let all = run-all _ _ _ _
    (c.turn.ensures.run _ _ _ _ c.in_ok-reducer.ensures) in
    run-over _ _ _ _ all (sym c.turn.ensures.progress ∙ c.in-Running.is)

pub returns-in-Some : goal.returns-in-Some
returns-in-Some c =
    let all = run-all _ _ _ _
    (c.turn.ensures.run _ _ _ _ c.in_ok-reducer.ensures) in
    λ text. run_answer-stands text _ _ _ _ _ _ all c.turn.ensures.progress
    ∙ rw (c.in-Done.is, sym c.verdict_of.ensures ∙ c.in-Some.is) refl

pub returns-in-HandlesMet : goal.returns-in-HandlesMet
returns-in-HandlesMet c =
    let all = run-all _ _ _ _
    (c.turn.ensures.run _ _ _ _ c.in_ok-reducer.ensures) in
    λ text. run_answer-stands text _ _ _ _ _ _ all c.turn.ensures.progress ∙ rw c.in-HandlesMet.is refl

pub returns-in-LengthMet : goal.returns-in-LengthMet
returns-in-LengthMet c =
    let all = run-all _ _ _ _
    (c.turn.ensures.run _ _ _ _ c.in_ok-reducer.ensures) in
    λ text. run_answer-stands text _ _ _ _ _ _ all c.turn.ensures.progress ∙ rw c.in-LengthMet.is refl
