use Rattle.term_eval.proofs.word.+push_braid.Given as goal

abbrev pub decreases-push_braid : goal.decreases-push_braid
decreases-push_braid l = l.node
