-- The counter is of the ledger that the test opens.
use Rattle.term_eval.proofs.value_tests.a_term_of_many_leaves_takes_as_many_products_as_differ.Given as goal

abbrev pub ghosts-value_in : goal.ghosts-value_in
ghosts-value_in g a = record { name = a.blank.name; parts = a.blank.parts }
