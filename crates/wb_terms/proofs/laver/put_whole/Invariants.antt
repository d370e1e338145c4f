-- The counter is of the ledger that is opened here.
use Rattle.wb_terms.proofs.laver.put_whole.Given as goal

abbrev pub ghosts-put_counted : goal.ghosts-put_counted
ghosts-put_counted g a = record { name = a.blank.name; parts = a.blank.parts }
