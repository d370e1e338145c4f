-- A part is expanded first, and then the product above it is due.
use Rattle.std.proofs.Common.{arith}
use Rattle.term_graph.proofs.RequestLemmas.{length-front}
use Rattle.std.proofs.lemmas.Result.{err_from_is_err_and}
use Rattle.term_expand.proofs.ExpandLemmas.{Outcome-here, left-step, right-step, part-refused, left-due, right-due, product-refused, product-done}
use Rattle.term_expand.proofs.expansion.+expand_at.Goals as goal

pub returns-in_err-part : goal.returns-in_err-part
returns-in_err-part t c =
    let (e, is, same) = err_from_is_err_and c.from_residual.result c.from_residual.ensures.1 in
    let step = left-step _ _ _ _ _ _ c.in-Some.ensures.cases.0 c.if-side-eq48.true
    c.in-Some-children.ensures.2 in
    rw (is, same) (part-refused _ _ _ _ _ _ _ _ step c.in_err-part.ensures)

pub returns-in_err-product : goal.returns-in_err-product
returns-in_err-product t c =
    let (e, is, same) =
    err_from_is_err_and c.from_residual-in_err-product.result c.from_residual-in_err-product.ensures.1 in
    let step = left-step _ _ _ _ _ _ c.in-Some.ensures.cases.0 c.if-side-eq48.true
    c.in-Some-children.ensures.2 in
    let due = left-due _ _ _ _ _ _ _ _ step (omega (arith, c.requires, c.in-Some-children.ensures.1))
    c.in_ok-part.ensures in
    rw (is, same)
    (product-refused _ _ _ _ _ _ _ due c.in_err-product.ensures.refused
    c.in_err-product.ensures.unchanged)

pub returns-in_err-part-2 : goal.returns-in_err-part-2
returns-in_err-part-2 t c =
    let (e, is, same) =
    err_from_is_err_and c.from_residual-in_err-part-2.result c.from_residual-in_err-part-2.ensures.1 in
    let step = right-step _ _ _ _ _ _ c.in-Some.ensures.cases.0 c.if-side-eq48.false
    c.in-Some-children.ensures.2 in
    rw (is, same) (part-refused _ _ _ _ _ _ _ _ step c.in_err-part-2.ensures)

pub returns-in_err-product-2 : goal.returns-in_err-product-2
returns-in_err-product-2 t c =
    let (e, is, same) =
    err_from_is_err_and c.from_residual-in_err-product-2.result
    c.from_residual-in_err-product-2.ensures.1 in
    let step = right-step _ _ _ _ _ _ c.in-Some.ensures.cases.0 c.if-side-eq48.false
    c.in-Some-children.ensures.2 in
    let due = right-due _ _ _ _ _ _ _ _ step (omega (arith, c.requires, c.in-Some-children.ensures.0))
    c.in_ok-part-2.ensures in
    rw (is, same)
    (product-refused _ _ _ _ _ _ _ due c.in_err-product-2.ensures.refused
    c.in_err-product-2.ensures.unchanged)

pub returns-in_ok-product : goal.returns-in_ok-product
returns-in_ok-product t c =
    let step = left-step _ _ _ _ _ _ c.in-Some.ensures.cases.0 c.if-side-eq48.true
    c.in-Some-children.ensures.2 in
    let due = left-due _ _ _ _ _ _ _ _ step (omega (arith, c.requires, c.in-Some-children.ensures.1))
    c.in_ok-part.ensures in
    let done = c.in_ok-product.ensures in
    product-done _ _ _ _ _ _ _ due done.number.0 done.number.1 done.asked

pub returns-in_ok-product-2 : goal.returns-in_ok-product-2
returns-in_ok-product-2 t c =
    let step = right-step _ _ _ _ _ _ c.in-Some.ensures.cases.0 c.if-side-eq48.false
    c.in-Some-children.ensures.2 in
    let due = right-due _ _ _ _ _ _ _ _ step (omega (arith, c.requires, c.in-Some-children.ensures.0))
    c.in_ok-part-2.ensures in
    let done = c.in_ok-product-2.ensures in
    product-done _ _ _ _ _ _ _ due done.number.0 done.number.1 done.asked

pub returns-in_default : goal.returns-in_default
returns-in_default t c = Outcome-here _ _ _ _ _ c.in_default.ensures.cases c.expand_here.ensures

pub product-requires-clause-right : goal.product-requires-clause-right
product-requires-clause-right t c =
    length-front c.args.graph.now c.expand_at.new.graph _ c.expand_at.ensures.kept
    (omega (arith, c.requires, c.in-Some-children.ensures.1))

pub product-requires-else-side-eq48-clause-left : goal.product-requires-else-side-eq48-clause-left
product-requires-else-side-eq48-clause-left t c =
    length-front c.args.graph.now c.expand_at-else-side-eq48.new.graph _
    c.expand_at-else-side-eq48.ensures.kept (omega (arith, c.requires, c.in-Some-children.ensures.0))
