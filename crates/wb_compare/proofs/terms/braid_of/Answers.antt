use Rattle.std.proofs.Common.{◌∙◌, ap, Err, arith}
use Rattle.wb_compare.proofs.terms.braid_of.Goals as goal

pub unreachable-requires : goal.unreachable-requires
unreachable-requires c =
    let (long, is) = (c.eval.ensures.too_long c.in-Err-TooLong.field-0-0).0
    (c.in-Err-TooLong.is ∙ ap (λ e. Err e) c.in-Err-TooLong.field-0-is) in
    absurd (omega (arith, c.requires.short))
