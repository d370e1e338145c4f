-- Nothing was read.
use Rattle.term_graph.proofs.KeepLineLemmas.{Keeps-start}
use Rattle.term_graph.proofs.term_file.Reading.new.Goals as goal

pub returns : goal.returns
returns c = Keeps-start _ _ c.in_ok-new.ensures c.new-2.ensures
