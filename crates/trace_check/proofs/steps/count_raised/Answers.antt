use Rattle.std.proofs.Common.{arith}
use Rattle.trace_check.proofs.KnownLemmas.{Counted-passed, Counted-raised}
use Rattle.trace_check.proofs.steps.count_raised.Goals as goal

pub count_on-requires-2-clause-counted : goal.count_on-requires-2-clause-counted
count_on-requires-2-clause-counted c =
    Counted-passed c.args.word.now c.args.known _ _ _ _ _ _ c.requires.known c.passed-low.ensures
    c.left_len-end.ensures.value c.in_ok-behind.ensures

pub returns : goal.returns
returns c =
    Counted-raised c.args.word.now _ _ _ _ _ c.index-index.ensures.value
    (omega (arith, c.passed-low.ensures, c.left_len-end.ensures.value)) c.count_on-2.ensures
