-- A product takes the steps of its parts and one more, and is then known.
use Rattle.std.proofs.Common.{length, ap, sym, subst, ◌+◌, ◌∙◌, arith}
use Rattle.term_eval.specs.Memos.{IsMemo}
use Rattle.term_eval.proofs.ValueLemmas.{up_to-is, value_of-product}
use Rattle.term_eval.proofs.MemoLemmas.{memo-found, memo-more, count-more}
use Rattle.term_eval.proofs.table_value.+value_by.Goals as goal

pub returns-then-found-ne0-clause-memo : goal.returns-then-found-ne0-clause-memo
returns-then-found-ne0-clause-memo g t c = λ listed memo.
    let found = memo-found _ _ _ listed memo c.args.node c.requires.there c.index.result c.index.ensures
    c.if-found-ne0.true in
    subst (IsMemo c.args.graph.now c.args.table.now c.args.known.now) (sym found) memo

pub returns-then-found-ne0-clause-cost : goal.returns-then-found-ne0-clause-cost
returns-then-found-ne0-clause-cost g t c = λ listed memo.
    let found = memo-found _ _ _ listed memo c.args.node c.requires.there c.index.result c.index.ensures
    c.if-found-ne0.true in
    ap (λ terms. c.args.steps.now + length terms) (sym found)

pub value_by-right-requires : goal.value_by-right-requires
value_by-right-requires g t c κs within =
    let (listed, memo) = c.requires.memo in
    let left = c.value_by-left.ensures in
    let below = c.in-Some.ensures.1 in (
      omega (arith, below, c.decreases),
      (
        within,
        (
          omega (arith, below, c.requires.there, left.room),
          (c.requires.graph, (c.requires.laver, (_, left.memo listed memo))),
        ),
      ),
    )

pub product-value-requires-clause-row : goal.product-value-requires-clause-row
product-value-requires-clause-row g t c =
    let (n, laver) = c.requires.laver in
    up_to-is n c.args.table.now _ c.value_by-left.result laver c.value_by-left.ensures.value

pub product-value-requires-clause-column : goal.product-value-requires-clause-column
product-value-requires-clause-column g t c =
    let (n, laver) = c.requires.laver in
    up_to-is n c.args.table.now _ c.value_by-right.result laver c.value_by-right.ensures.value

pub returns-clause-memo : goal.returns-clause-memo
returns-clause-memo g t c = λ listed memo.
    let left = c.value_by-left.ensures in
    let right = c.value_by-right.ensures in
    let is = c.in-Some.ensures.2 in
    let value = value_of-product c.args.table.now _ _ _ _ _ _ is left.value right.value
    c.product-value.ensures.entry in
    memo-more _ _ _ listed c.args.node _ _ c.requires.graph memo c.requires.there c.index.result
    c.index.ensures c.if-found-ne0.false is
    c.value_by-right.new.known c.product-value.result c.index-2.result c.index-2.ensures
    (right.memo _ (left.memo listed memo)) (right.room ∙ left.room) value c.product-value.ensures.up_to.0

pub returns-clause-cost : goal.returns-clause-cost
returns-clause-cost g t c = λ listed memo.
    let left = c.value_by-left.ensures in
    let right = c.value_by-right.ensures in
    let more = count-more _ _ _ listed c.args.node _ _ c.requires.graph memo c.requires.there c.index.result
    c.index.ensures c.if-found-ne0.false c.in-Some.ensures.2 in
    omega (
      arith,
      more,
      left.cost listed memo,
      right.cost _
          (left.memo listed memo),
      c.product-value.ensures.counted,
    )
