-- The counters are of the ledgers that are opened here.
use Rattle.ld_cert.proofs.difference.are_alike.Given as goal

abbrev pub ghosts-value_counted : goal.ghosts-value_counted
ghosts-value_counted a = record { name = a.blank.name; parts = a.blank.parts }
