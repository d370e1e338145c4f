use Rattle.std.proofs.Common.{◌∙◌}
use Rattle.wb_command.specs.Inputs.{line_word}
use Rattle.wb_command.proofs.ReadingLemmas.{two_words_of-none, two_words_of-first, two_words_of-failed, two_words_of-failed_second, first_word-none, first_word-more, second_word-Ok, second_word-more}
use Rattle.wb_command.proofs.input.read_two.Goals as goal

pub returns-in_default : goal.returns-in_default
returns-in_default c =
    two_words_of-none (line_word c.args.positive c.args.strands) _ _ c.lines-lines.ensures
    c.in_default.ensures.steps.0

pub returns-in_err-left : goal.returns-in_err-left
returns-in_err-left c =
    two_words_of-failed (line_word c.args.positive c.args.strands) _ _ c.lines-lines.ensures _ _
    c.in_err-left.field-0.0 _ c.in-Some.ensures.steps c.in_err-left.ensures c.from_residual.ensures.1

pub returns-in_default-next : goal.returns-in_default-next
returns-in_default-next c =
    two_words_of-first (line_word c.args.positive c.args.strands) _ _ c.lines-lines.ensures _ _
    c.in-Some.ensures.steps
    ∙ first_word-none (line_word c.args.positive c.args.strands) _ _ _ c.in_ok-left.ensures
    c.in_default-next.ensures.steps.0

pub returns-in_err-right : goal.returns-in_err-right
returns-in_err-right c =
    two_words_of-failed_second (line_word c.args.positive c.args.strands) _ _ _ _ _ _ _
    c.in_err-right.field-0.0 _ c.lines-lines.ensures c.in-Some.ensures.steps c.in-Some-next.ensures.steps
    c.in_ok-left.ensures c.in_err-right.ensures c.from_residual-in_err-right.ensures.1

pub returns-in-None : goal.returns-in-None
returns-in-None c =
    two_words_of-first (line_word c.args.positive c.args.strands) _ _ c.lines-lines.ensures _ _
    c.in-Some.ensures.steps
    ∙ first_word-more (line_word c.args.positive c.args.strands) _ _ _ _ _ c.in_ok-left.ensures
    c.in-Some-next.ensures.steps
    ∙ second_word-Ok c.in_ok-left.left _ _ _ c.in_ok-right.ensures c.in-None.ensures.steps.0

pub returns-in-Some-next-2 : goal.returns-in-Some-next-2
returns-in-Some-next-2 c =
    two_words_of-first (line_word c.args.positive c.args.strands) _ _ c.lines-lines.ensures _ _
    c.in-Some.ensures.steps
    ∙ first_word-more (line_word c.args.positive c.args.strands) _ _ _ _ _ c.in_ok-left.ensures
    c.in-Some-next.ensures.steps
    ∙ second_word-more c.in_ok-left.left _ _ _ _ _ c.in_ok-right.ensures c.in-Some-next-2.ensures.steps
