use Rattle.std.proofs.Common.{◌∙◌}
use Rattle.session_run.proofs.TalkLemmas.{Puts-whole}
use Rattle.session_run.proofs.talk.answer_line.Goals as goal

pub returns-in_err-done-clause-took : goal.returns-in_err-done-clause-took
returns-in_err-done-clause-took g c =
    Puts-whole _ _ _ _ c.from_residual-in_err-done.ensures.0
    (c.in_err-done.ensures.kept ∙ c.in_ok-put_answer.ensures.took)
