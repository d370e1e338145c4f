use Rattle.std.proofs.Common.{length, ◌∙◌, subst}
use Rattle.laver_table.specs.Table.{IsLaver}
use Rattle.laver_table.proofs.LaverLemmas.{IsLaver-product_rows}
use Rattle.laver_table.proofs.HeldLemmas.{size-held}
use Rattle.laver_table.proofs.table.Table.size.Goals as goal

pub returns-clause-rows : goal.returns-clause-rows
returns-clause-rows c =
    c.table_size.ensures.size ∙ size-held _ _ c.args.self.now c.deref.ensures.value c.self.view_is

pub returns-clause-laver : goal.returns-clause-laver
returns-clause-laver c =
    let n = length c.self.inside.levels.items in
    (n, subst (IsLaver n) c.self.view_is (IsLaver-product_rows n))
