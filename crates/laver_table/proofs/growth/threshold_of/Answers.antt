use Rattle.std.proofs.Common.{◌≡◌, ◌+◌, sym, ap, ◌∙◌, subst, arith}
use Rattle.laver_table.specs.Product.{product}
use Rattle.laver_table.specs.Period.{IsPeriod, IsInPeriod, IsThreshold}
use Rattle.laver_table.proofs.ProductLemmas.{Between, product-between}
use Rattle.laver_table.proofs.PeriodLemmas.{IsInPeriod-up_to}
use Rattle.laver_table.proofs.ColumnLemmas.{product-column}
use Rattle.laver_table.proofs.WalkLemmas.{IsWalked-start, IsWalked-more, IsThreshold-walked}
use Rattle.laver_table.proofs.growth.threshold_of.Goals as goal

pub loop-entry-init : goal.loop-entry-init
loop-entry-init c =
    let half = c.table_size-half.ensures in
    IsWalked-start c.table_size-half.result c.args.p half.full (omega (arith, c.requires.row.1, half.size))

pub overflow_add-threshold : goal.overflow_add-threshold
overflow_add-threshold c =
    let walked = c.loop-entry.invariant in
    omega (arith, walked.risen, walked.within, c.table_size-half.ensures.small)

pub period_after-requires-clause-doublings : goal.period_after-requires-clause-doublings
period_after-requires-clause-doublings c = rw c.table_size-half.ensures.size c.requires.level

pub period_after-requires-clause-row : goal.period_after-requires-clause-row
period_after-requires-clause-row c =
    (omega (arith, c.loop-entry.invariant.risen), omega (arith, c.loop-entry-test.true))

pub period_after-requires-clause-known : goal.period_after-requires-clause-known
period_after-requires-clause-known c =
    omega (arith, c.loop-entry.invariant.risen, c.requires.known, c.table_size-half.ensures.size)

pub halved-column-requires-clause-doublings : goal.halved-column-requires-clause-doublings
halved-column-requires-clause-doublings c = rw c.table_size-half.ensures.size c.requires.level

pub halved-column-requires-clause-row : goal.halved-column-requires-clause-row
halved-column-requires-clause-row c =
    (omega (arith, c.loop-entry.invariant.risen), omega (arith, c.loop-entry-test.true))

pub halved-column-requires-clause-known : goal.halved-column-requires-clause-known
halved-column-requires-clause-known c =
    omega (arith, c.loop-entry.invariant.risen, c.requires.known, c.table_size-half.ensures.size)

pub halved-column-requires-clause-column : goal.halved-column-requires-clause-column
halved-column-requires-clause-column c =
    let column = c.column_within-column.ensures in
    IsInPeriod-up_to _ c.loop-entry.entry _ c.column_within-column.result c.period_after.ensures
    (omega (arith, column.column)) column.within

pub entry_in-requires-clause-row : goal.entry_in-requires-clause-row
entry_in-requires-clause-row c =
    let half = c.table_size-half.ensures in
    (omega (arith, c.loop-entry.invariant.risen), omega (arith, c.loop-entry-test.true, half.size))

pub entry_in-requires-clause-column : goal.entry_in-requires-clause-column
entry_in-requires-clause-column c =
    let half = c.table_size-half.ensures in
    subst (λ N. IsInPeriod N c.loop-entry.entry c.halved-column.result.0) half.size
    c.halved-column.ensures.column

-- the next entry is the product of this one and p + 1
next_entry
    : (c : goal.After-entry_in)
    → c.entry_in.result + c.halved-column.result.1
    ≡ product (c.table_size-half.result + c.table_size-half.result) c.loop-entry.entry (c.args.p + 1)
next_entry c =
    let half = c.table_size-half.ensures in
    let full = half.full in
    let N = c.table_size-half.result + c.table_size-half.result in
    let entry = c.loop-entry.entry in
    let (column, added) = c.halved-column.result in
    ap (λ r. r + added) (c.entry_in.ensures ∙ ap (λ M. product M entry column) (sym half.size))
    ∙ sym c.halved-column.ensures.entry
    ∙ product-column N entry _ (c.args.p + 1) c.column_within-column.result
    (omega (arith, c.loop-entry-test.true)) c.period_after.ensures
    (omega arith, omega (arith, full.positive, c.requires.row.1, half.size))
    c.column_within-column.ensures.column

-- and is larger than this one
next_above
    : (c : goal.After-entry_in)
    → let N = c.table_size-half.result + c.table_size-half.result in
    Between c.loop-entry.entry N (c.entry_in.result + c.halved-column.result.1)
next_above c =
    let full = c.table_size-half.ensures.full in
    let N = c.table_size-half.result + c.table_size-half.result in
    let entry = c.loop-entry.entry in
    subst (Between entry N) (sym (next_entry c))
    (product-between N entry (c.args.p + 1) (omega (arith, full.positive, c.loop-entry-test.true)))

pub overflow_add-entry-in-loop-entry : goal.overflow_add-entry-in-loop-entry
overflow_add-entry-in-loop-entry c =
    let between = next_above c in
    omega (arith, between.within, c.table_size-half.ensures.small)

pub loop-entry-smaller : goal.loop-entry-smaller
loop-entry-smaller c =
    let between = next_above c in
    omega (arith, between.above, c.loop-entry-test.true)

pub loop-entry-preserved : goal.loop-entry-preserved
loop-entry-preserved c =
    let half = c.table_size-half.ensures in
    IsWalked-more c.table_size-half.result c.args.p c.loop-entry.threshold c.loop-entry.entry _
    half.full (omega (arith, c.requires.row.1, half.size)) c.loop-entry.invariant
    (omega (arith, c.loop-entry-test.true)) (next_entry c)

pub returns : goal.returns
returns c = λ period periodic.
    let half = c.table_size-half.ensures in
    let here = subst (λ N. IsPeriod N c.args.p period) (sym half.size) periodic in
    subst (λ N. IsThreshold N c.args.p period c.loop-entry.threshold) half.size
    (IsThreshold-walked c.table_size-half.result c.args.p c.loop-entry.threshold c.loop-entry.entry
    half.full (omega (arith, c.requires.row.1, half.size)) c.loop-entry.invariant
    (omega (arith, c.loop-entry-test.false)) period here)
