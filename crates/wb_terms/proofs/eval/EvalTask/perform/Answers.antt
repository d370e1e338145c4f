use Rattle.std.proofs.lemmas.Result.{IfOk-weaker}
use Rattle.wb_command.specs.Refusals.{comes_answer}
use Rattle.wb_command.proofs.TermInputLemmas.{IsOnTerm-refused, IsOnTerm-read}
use Rattle.wb_terms.specs.Eval.{word_answer, evaluated}
use Rattle.wb_terms.proofs.eval.EvalTask.perform.Goals as goal

pub returns-in-Ok : goal.returns-in-Ok
returns-in-Ok c =
    rw (← c.self.view_is) (IfOk-weaker _ _ _ (λ outcome is.
    IsOnTerm-read (λ made t. evaluated c.self.inside.limit t) c.args.input.now _ _ _
    (comes_answer word_answer outcome)
    c.in-Ok.ensures.file c.in-Ok.ensures.second is)
    c.eval_term.ensures)

pub returns-in-Err : goal.returns-in-Err
returns-in-Err c =
    IfOk-weaker _ _ _ (λ outcome is.
    IsOnTerm-refused (λ made t. evaluated c.args.self.now t) c.args.input.now c.in-Err.error
    (comes_answer word_answer outcome)
    c.in-Err.ensures.refused is)
    c.refuse.ensures
