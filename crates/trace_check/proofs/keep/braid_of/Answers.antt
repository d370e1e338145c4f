use Rattle.std.proofs.Common.{◌∙◌, ap, Err}
use Rattle.trace_check.proofs.TermLemmas.{stepped_to-long}
use Rattle.trace_check.proofs.keep.braid_of.Goals as goal

pub returns-in-Err-TooLong : goal.returns-in-Err-TooLong
returns-in-Err-TooLong c =
    let (long, is) = (c.eval.ensures.too_long c.in-Err-TooLong.field-0-0).0
    (c.in-Err-TooLong.is ∙ ap (λ e. Err e) c.in-Err-TooLong.field-0-is) in
    stepped_to-long _ _ c.in_ok-graph.ensures.1 long
