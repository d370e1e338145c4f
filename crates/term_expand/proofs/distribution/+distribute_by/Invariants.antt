use Rattle.term_expand.proofs.distribution.+distribute_by.Given as goal

abbrev pub decreases-distribute_by : goal.decreases-distribute_by
decreases-distribute_by l = l.b
