use Rattle.laver_table.proofs.HeldLemmas.{up_to-held, period-held, periodic-held}
use Rattle.laver_table.proofs.table.Table.period.Goals as goal

pub period_in-requires-clause-row : goal.period_in-requires-clause-row
period_in-requires-clause-row c =
    up_to-held _ _ c.args.self.now c.deref.ensures.value c.self.view_is c.args.p c.requires

pub returns-clause-count : goal.returns-clause-count
returns-clause-count c =
    period-held _ _ c.args.self.now c.deref.ensures.value c.self.view_is
    c.args.p c.period_in.result c.requires c.period_in.ensures

pub returns-clause-periodic : goal.returns-clause-periodic
returns-clause-periodic c =
    periodic-held _ _ c.args.self.now c.deref.ensures.value c.self.view_is
    c.args.p c.period_in.result c.requires c.period_in.ensures
