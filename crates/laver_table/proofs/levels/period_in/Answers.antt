use Rattle.std.proofs.Common.{refl, sym, subst, arith}
use Rattle.laver_table.specs.Period.{IsPeriod}
use Rattle.laver_table.specs.Levels.{AreDoublings}
use Rattle.laver_table.proofs.LevelLemmas.{size-double, IsLevel-last, IsPeriod-size_one, IsPeriod-last_row, IsPeriod-upper_row}
use Rattle.laver_table.proofs.levels.period_in.Goals as goal

pub returns-in_default : goal.returns-in_default
returns-in_default c = IsPeriod-size_one _ c.args.p c.in_default.ensures.cases c.requires.row

pub returns-then-p-half : goal.returns-then-p-half
returns-then-p-half c =
    let parts = c.in-Some.ensures.cases in
    let half = c.table_size-half.ensures in
    IsPeriod-last_row _ _ c.table_size-half.result parts.1 half.size c.args.p c.if-p-half.true

pub returns-then-p-half-2 : goal.returns-then-p-half-2
returns-then-p-half-2 c =
    let parts = c.in-Some.ensures.cases in
    let half = c.table_size-half.ensures in
    let M = c.table_size-half.result in
    let above = c.if-p-half-2.true in
    let items = c.in-Some.level.now.items in
    let level = IsLevel-last _ _ c.in-Some.level.now parts.0 c.requires.levels in
    let doublings = subst (λ N. AreDoublings N items) (sym half.size) level.doublings in
    let whole = size-double _ _ M parts.1 half.size in
    IsPeriod-upper_row _ _ M parts.1 half.size c.args.p _ items c.index.result.now
    doublings above c.if-p-half.false c.requires.row.1 refl
    (omega (arith, level.whole, half.size, whole, above, c.requires.row.1)) c.index.ensures

pub returns : goal.returns
returns c =
    let parts = c.in-Some.ensures.cases in
    let half = c.table_size-half.ensures in
    let whole = size-double _ _ c.table_size-half.result parts.1 half.size in
    subst (λ N. IsPeriod N c.args.p c.period_after.result) (sym whole) c.period_after.ensures

pub period_after-requires-clause-doublings : goal.period_after-requires-clause-doublings
period_after-requires-clause-doublings c =
    let level = IsLevel-last _ _ c.in-Some.level.now c.in-Some.ensures.cases.0 c.requires.levels in
    rw (c.table_size-half.ensures.size, c.deref.ensures.value) level.doublings

pub period_after-requires-clause-known : goal.period_after-requires-clause-known
period_after-requires-clause-known c =
    let level = IsLevel-last _ _ c.in-Some.level.now c.in-Some.ensures.cases.0 c.requires.levels in
    let half = c.table_size-half.ensures in
    rw c.deref.ensures.value (omega (arith, level.whole, half.size, c.requires.row.0))
