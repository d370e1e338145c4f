-- The counter is of the ledger that the test opens.
use Rattle.term_eval.proofs.value_tests.gives_the_values_of_small_terms.Given as goal

abbrev pub ghosts-value_in : goal.ghosts-value_in
ghosts-value_in g a = record { name = a.blank.name; parts = a.blank.parts }
