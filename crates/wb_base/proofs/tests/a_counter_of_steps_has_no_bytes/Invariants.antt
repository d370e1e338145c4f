-- The counter is of the ledger that the test opens.
use Rattle.wb_base.proofs.tests.a_counter_of_steps_has_no_bytes.Given as goal

abbrev pub ghosts-bytes_of_counter : goal.ghosts-bytes_of_counter
ghosts-bytes_of_counter g a = record { name = a.blank.name; parts = a.blank.parts }
