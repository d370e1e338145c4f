-- The counter is of the ledger that the test opens.
use Rattle.laver_table.proofs.tests.the_table_of_size_256_obeys_the_equations.Given as goal

abbrev pub ghosts-wrong_entries : goal.ghosts-wrong_entries
ghosts-wrong_entries g a = record { name = a.blank.name; parts = a.blank.parts }
