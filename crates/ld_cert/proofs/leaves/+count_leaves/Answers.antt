-- The leaves of a product's derived term are found by those of its parts, which are counted then.
use Rattle.ld_cert.proofs.CountLemmas.{derived_leaves-product, AreCounted-set}
use Rattle.ld_cert.proofs.leaves.+count_leaves.Goals as goal

pub returns-clause-counted : goal.returns-clause-counted
returns-clause-counted t c =
    AreCounted-set c.args.graph.now _ c.args.node _ _ c.count_leaves-right.ensures.counted c.requires.there
    c.index-2.ensures
    (derived_leaves-product _ _ _ _ _ _ _ c.in-Some.ensures.2 c.count_leaves-left.ensures.leaves
    c.count_leaves-right.ensures.leaves c.saturating_add.ensures c.saturating_mul-leaves.ensures)

pub returns-clause-leaves : goal.returns-clause-leaves
returns-clause-leaves t c =
    derived_leaves-product _ _ _ _ _ _ _ c.in-Some.ensures.2 c.count_leaves-left.ensures.leaves
    c.count_leaves-right.ensures.leaves c.saturating_add.ensures c.saturating_mul-leaves.ensures
