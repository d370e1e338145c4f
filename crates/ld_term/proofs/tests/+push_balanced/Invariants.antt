use Rattle.ld_term.proofs.tests.+push_balanced.Given as goal

abbrev pub decreases-push_balanced : goal.decreases-push_balanced
decreases-push_balanced l = l.products
