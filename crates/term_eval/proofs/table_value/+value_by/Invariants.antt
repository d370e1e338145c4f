use Rattle.term_eval.proofs.table_value.+value_by.Given as goal

abbrev pub decreases-value_by : goal.decreases-value_by
decreases-value_by g l = l.node
