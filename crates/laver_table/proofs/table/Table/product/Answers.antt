use Rattle.laver_table.proofs.HeldLemmas.{up_to-held, entry-held, entry-up_to}
use Rattle.laver_table.proofs.table.Table.product.Goals as goal

pub product_in-requires-clause-row : goal.product_in-requires-clause-row
product_in-requires-clause-row g c =
    up_to-held _ _ c.args.self.now c.deref.ensures.value c.self.view_is c.args.p c.requires.row

pub product_in-requires-clause-column : goal.product_in-requires-clause-column
product_in-requires-clause-column g c =
    up_to-held _ _ c.args.self.now c.deref.ensures.value c.self.view_is c.args.q c.requires.column

pub returns-clause-entry : goal.returns-clause-entry
returns-clause-entry g c =
    entry-held _ _ c.args.self.now c.deref.ensures.value c.self.view_is
    c.args.p c.args.q c.product_in.result c.requires.row c.requires.column c.product_in.ensures

pub returns-clause-up_to : goal.returns-clause-up_to
returns-clause-up_to g c =
    entry-up_to _ _ c.args.self.now c.deref.ensures.value c.self.view_is
    c.args.p c.args.q c.product_in.result c.requires.row c.requires.column c.product_in.ensures
