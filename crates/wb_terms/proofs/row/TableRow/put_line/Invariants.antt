-- The counter is of the ledger that is opened here.
use Rattle.wb_terms.proofs.row.TableRow.put_line.Given as goal

abbrev pub ghosts-put_counted : goal.ghosts-put_counted
ghosts-put_counted g a = record { name = a.blank.name; parts = a.blank.parts }
