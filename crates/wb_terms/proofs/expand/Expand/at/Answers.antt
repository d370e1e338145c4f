use Rattle.wb_terms.proofs.ExpandLemmas.{address_of-read}
use Rattle.wb_terms.proofs.expand.Expand.at.Goals as goal

pub returns : goal.returns
returns c =
    address_of-read c.args.word.now c.in_ok-dot.sides.now c.in_ok-dot.dot.now c.in_ok-dot.ensures.cases.0
    c.if-dot-ne46.false (c.is_address.ensures.0 c.if-not-is_address.false)
