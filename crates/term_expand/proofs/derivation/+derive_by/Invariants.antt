use Rattle.term_expand.proofs.derivation.+derive_by.Given as goal

abbrev pub decreases-derive_by : goal.decreases-derive_by
decreases-derive_by l = l.node
