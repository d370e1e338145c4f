use Rattle.wb_terms.proofs.LaverCommandLemmas.{whole_table-only}
use Rattle.wb_terms.proofs.laver.LaverTask.perform.Goals as goal

pub returns : goal.returns
returns c = rw (← c.self.view_is) (whole_table-only c.self.inside.exponent _ c.in_ok-table.ensures.laver)
