-- The counter is of the ledger that the test opens.
use Rattle.laver_table.proofs.tests.small_tables_are_written_whole.Given as goal

abbrev pub ghosts-text_of_table : goal.ghosts-text_of_table
ghosts-text_of_table g a = record { name = a.blank.name; parts = a.blank.parts }
