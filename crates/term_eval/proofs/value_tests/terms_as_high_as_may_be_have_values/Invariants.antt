-- The counter is of the ledger that the test opens.
use Rattle.term_eval.proofs.value_tests.terms_as_high_as_may_be_have_values.Given as goal

abbrev pub ghosts-value_in : goal.ghosts-value_in
ghosts-value_in g a = record { name = a.blank.name; parts = a.blank.parts }
