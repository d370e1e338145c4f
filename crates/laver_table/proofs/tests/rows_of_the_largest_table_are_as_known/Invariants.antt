-- The counter is of the ledger that the test opens.
use Rattle.laver_table.proofs.tests.rows_of_the_largest_table_are_as_known.Given as goal

abbrev pub ghosts-entries_of_row : goal.ghosts-entries_of_row
ghosts-entries_of_row g a = record { name = a.blank.name; parts = a.blank.parts }
