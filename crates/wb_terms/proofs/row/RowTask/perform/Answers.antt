use Rattle.wb_terms.proofs.LaverCommandLemmas.{table_row-only}
use Rattle.wb_terms.proofs.row.RowTask.perform.Goals as goal

pub returns : goal.returns
returns c = rw (← c.self.view_is) (table_row-only c.self.inside.exponent c.self.inside.row _
    c.in_ok-table.ensures.laver)
