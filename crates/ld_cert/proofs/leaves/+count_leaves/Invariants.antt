use Rattle.ld_cert.proofs.leaves.+count_leaves.Given as goal

-- The parts of a product have lower numbers.
abbrev pub decreases-count_leaves : goal.decreases-count_leaves
decreases-count_leaves l = l.node
