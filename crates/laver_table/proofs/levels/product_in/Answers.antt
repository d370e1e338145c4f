use Rattle.std.proofs.Common.{◌∙◌}
use Rattle.laver_table.proofs.ColumnLemmas.{product-column}
use Rattle.laver_table.proofs.levels.product_in.Goals as goal

pub returns : goal.returns
returns c =
    let r = c.requires in
    c.entry_in.ensures
    ∙ product-column _ c.args.p _ c.args.q c.column_within.result
    r.row.1 c.period_in.ensures r.column c.column_within.ensures.column
