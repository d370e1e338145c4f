use Rattle.garside_form.proofs.UniqueLemmas.{IsFormOf-equivalent}
use Rattle.garside_form.proofs.form.same.Goals as goal

pub returns-clause-equivalent : goal.returns-clause-equivalent
returns-clause-equivalent c u v first second =
    let (sound, complete) =
    IsFormOf-equivalent c.args.a.now c.args.b.now u v c.same_parts.ensures.low c.requires.strands first
    second in (
      λ found. sound (c.same_parts.ensures.exact.0 found),
      λ equal. c.same_parts.ensures.exact.1 (complete equal),
    )
