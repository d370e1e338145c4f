use Rattle.std.proofs.Common.{◌∙◌}
use Rattle.wb_command.proofs.ReadingLemmas.{one_word-none, one_word-first, one_word-failed, only_word-Ok, only_word-more}
use Rattle.wb_command.proofs.input.read_one_word.Goals as goal

pub returns-in_default : goal.returns-in_default
returns-in_default c = one_word-none _ _ _ c.lines-lines.ensures c.in_default.ensures.steps.0

pub returns-in_err-word : goal.returns-in_err-word
returns-in_err-word c =
    one_word-failed c.args.strands c.args.input.now _ _ _ c.in_err-word.field-0.0 _
    c.lines-lines.ensures c.in-Some.ensures.steps c.in_err-word.ensures c.from_residual.ensures.1

pub returns-in-None : goal.returns-in-None
returns-in-None c =
    one_word-first _ _ _ c.lines-lines.ensures _ _ c.in-Some.ensures.steps
    ∙ only_word-Ok _ _ _ c.in_ok-word.ensures c.in-None.ensures.steps.0

pub returns-in-Some-next : goal.returns-in-Some-next
returns-in-Some-next c =
    one_word-first _ _ _ c.lines-lines.ensures _ _ c.in-Some.ensures.steps
    ∙ only_word-more _ _ _ _ _ c.in_ok-word.ensures c.in-Some-next.ensures.steps
