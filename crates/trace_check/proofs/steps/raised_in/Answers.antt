use Rattle.std.proofs.Common.{rules, sym, ◌∙◌, arith}
use Rattle.trace_check.proofs.ReductionLemmas.{handle-counted}
use Rattle.trace_check.proofs.steps.raised_in.Goals as goal

pub returns : goal.returns
returns c =
    handle-counted c.args.word.now _ _ _ (omega (arith, c.left_len.ensures.value, c.if-start-left_len.false))
    c.letter_at-first.ensures (sym c.right_at.ensures ∙ c.in_ok-last.was) _ (search rules)
    c.count_raised.ensures
