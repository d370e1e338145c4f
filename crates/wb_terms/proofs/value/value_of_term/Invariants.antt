-- The counter is of the ledger that is opened here.
use Rattle.wb_terms.proofs.value.value_of_term.Given as goal

abbrev pub ghosts-value_counted : goal.ghosts-value_counted
ghosts-value_counted a = record { name = a.blank.name; parts = a.blank.parts }
