-- The counter is of the ledger that the test opens.
use Rattle.laver_table.proofs.tests.a_row_is_written_as_a_line.Given as goal

abbrev pub ghosts-text_of_row : goal.ghosts-text_of_row
ghosts-text_of_row g a = record { name = a.blank.name; parts = a.blank.parts }
