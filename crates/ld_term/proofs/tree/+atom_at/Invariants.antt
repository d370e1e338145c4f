use Rattle.ld_term.proofs.tree.+atom_at.Given as goal

abbrev pub decreases-atom_at : goal.decreases-atom_at
decreases-atom_at l = l.depth
