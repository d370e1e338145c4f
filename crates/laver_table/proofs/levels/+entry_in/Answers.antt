use Rattle.std.proofs.Common.{◌-◌, sym, ap, ◌∙◌, subst, arith}
use Rattle.laver_table.specs.Product.{product}
use Rattle.laver_table.specs.Period.{IsInPeriod}
use Rattle.laver_table.proofs.ProductLemmas.{product-between}
use Rattle.laver_table.proofs.PeriodLemmas.{product-within, IsInPeriod-within}
use Rattle.laver_table.proofs.LevelLemmas.{size-double, AreLevels-lower, IsLevel-last, product-size_one, product-last_row, product-upper_row, product-lower_row, IsInPeriod-upper_row}
use Rattle.laver_table.proofs.levels.+entry_in.Goals as goal

pub returns-in_default : goal.returns-in_default
returns-in_default t c = product-size_one _ c.args.p c.args.column c.in_default.ensures.cases c.requires.row

pub returns-then-p-half : goal.returns-then-p-half
returns-then-p-half t c =
    let parts = c.in-Some.ensures.cases in
    let half = c.table_size-half.ensures in
    product-last_row _ _ c.table_size-half.result parts.1 half.size c.args.p c.args.column c.if-p-half.true

pub entry_in-requires : goal.entry_in-requires
entry_in-requires t c =
    let r = c.requires in
    let parts = c.in-Some.ensures.cases in
    let half = c.table_size-half.ensures in
    let M = c.table_size-half.result in
    let above = c.if-p-half-2.true in
    let whole = size-double _ _ M parts.1 half.size in
    let column = IsInPeriod-upper_row _ _ M parts.1 half.size c.args.p c.args.column above
    c.if-p-half.false r.row.1 r.column in (
      omega (arith, parts.1, c.decreases),
      (
        omega (arith, parts.1, r.few),
        (
          AreLevels-lower _ _ c.in-Some.level.now parts.0 r.levels,
          (
            (omega (arith, above), omega (arith, half.size, whole, r.row.1)),
            column,
          ),
        ),
      ),
    )

pub overflow_add-result : goal.overflow_add-result
overflow_add-result t c =
    let half = c.table_size-half.ensures in
    let M = c.table_size-half.result in
    let whole = size-double _ _ M c.in-Some.ensures.cases.1 half.size in
    let between = product-between M (c.args.p - M) c.args.column
    (omega (arith, whole, c.requires.row.1, c.if-p-half.false)) in
    let is = c.entry_in.ensures ∙ ap (λ N. product N (c.args.p - M) c.args.column) (sym half.size) in
    omega (arith, is, between.within, half.small)

pub returns-then-p-half-2 : goal.returns-then-p-half-2
returns-then-p-half-2 t c =
    let parts = c.in-Some.ensures.cases in
    let half = c.table_size-half.ensures in
    product-upper_row _ _ c.table_size-half.result parts.1 half.size c.args.p c.args.column c.entry_in.result
    c.if-p-half-2.true c.if-p-half.false c.requires.row.1 c.entry_in.ensures

pub halved-column-requires-clause-doublings : goal.halved-column-requires-clause-doublings
halved-column-requires-clause-doublings t c =
    let level = IsLevel-last _ _ c.in-Some.level.now c.in-Some.ensures.cases.0 c.requires.levels in
    rw (c.table_size-half.ensures.size, c.deref.ensures.value) level.doublings

pub halved-column-requires-clause-known : goal.halved-column-requires-clause-known
halved-column-requires-clause-known t c =
    let level = IsLevel-last _ _ c.in-Some.level.now c.in-Some.ensures.cases.0 c.requires.levels in
    let half = c.table_size-half.ensures in
    rw c.deref.ensures.value (omega (arith, level.whole, half.size, c.requires.row.0))

pub halved-column-requires-clause-column : goal.halved-column-requires-clause-column
halved-column-requires-clause-column t c =
    let parts = c.in-Some.ensures.cases in
    let half = c.table_size-half.ensures in
    let whole = size-double _ _ c.table_size-half.result parts.1 half.size in
    subst (λ N. IsInPeriod N c.args.p c.args.column) whole c.requires.column

pub entry_in-requires-2 : goal.entry_in-requires-2
entry_in-requires-2 t c =
    let r = c.requires in
    let parts = c.in-Some.ensures.cases in
    let half = c.table_size-half.ensures in
    let halved = c.halved-column.ensures in (
      omega (arith, parts.1, c.decreases),
      (
        omega (arith, parts.1, r.few),
        (
          AreLevels-lower _ _ c.in-Some.level.now parts.0 r.levels,
          (
            (r.row.0, omega (arith, half.size, c.if-p-half-2.false)),
            subst (λ N. IsInPeriod N c.args.p c.halved-column.result.0) half.size halved.column,
          ),
        ),
      ),
    )

pub overflow_add-result-2 : goal.overflow_add-result-2
overflow_add-result-2 t c =
    let half = c.table_size-half.ensures in
    let M = c.table_size-half.result in
    let up_to = c.if-p-half-2.false in
    let column = c.halved-column.result.0 in
    let within = IsInPeriod-within M c.args.p column half.full up_to c.halved-column.ensures.column in
    let most = product-within M c.args.p column up_to within in
    let is = c.entry_in-2.ensures ∙ ap (λ N. product N c.args.p column) (sym half.size) in
    omega (arith, is, most, half.small, c.halved-column.ensures.stays)

pub returns : goal.returns
returns t c =
    let parts = c.in-Some.ensures.cases in
    let half = c.table_size-half.ensures in
    let (column, added) = c.halved-column.result in
    product-lower_row _ _ c.table_size-half.result parts.1 half.size c.args.p c.args.column column added
    c.entry_in-2.result c.halved-column.ensures.entry c.entry_in-2.ensures
