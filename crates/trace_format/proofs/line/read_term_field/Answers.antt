use Rattle.std.proofs.Common.{refl}
use Rattle.ld_term.specs.TreeTexts.{written}
use Rattle.trace_format.proofs.TermFieldLemmas.{field_term-low, field_term-high}
use Rattle.trace_format.proofs.line.read_term_field.Goals as goal

pub returns-then-is_within-clause-term : goal.returns-then-is_within-clause-term
returns-then-is_within-clause-term c =
    let (t, read, is) = c.in-Ok.ensures.term in
    field_term-low c.args.behind.now _ t (written c.in-Ok.tree) c.in-len1-up.len_at_least refl read is
    c.in-Ok.ensures.small (c.is_within.ensures.0 c.if-is_within.true)

pub returns-else-is_within-clause-term : goal.returns-else-is_within-clause-term
returns-else-is_within-clause-term c =
    let (t, read, is) = c.in-Ok.ensures.term in
    field_term-high c.args.behind.now _ t (written c.in-Ok.tree) c.in-len1-up.len_at_least refl read is
    (λ low. absurd (let holds = c.is_within.ensures.1 low in let fails = c.if-is_within.false in cc))
