-- The first two products are granted or refused, and then the last one is due.
use Rattle.std.proofs.Common.{◌<◌, length, [], arith}
use Rattle.std.proofs.lemmas.Result.{err_from_is_err_and}
use Rattle.ld_term.specs.Terms.{multiply}
use Rattle.term_graph.specs.TermLists.{term_at}
use Rattle.term_expand.proofs.ExpandLemmas.{IsDue, are-placed, still-placed, second-refused, here-due, product-refused, product-done}
use Rattle.term_expand.proofs.expansion.expand_here.Goals as goal
use Rattle.term_expand.proofs.expansion.expand_here.Goals.{In_ok-second}

pub returns-in_err-second : goal.returns-in_err-second
returns-in_err-second c =
    let (e, is, same) =
    err_from_is_err_and c.from_residual-in_err-second.result c.from_residual-in_err-second.ensures.1 in
    rw (is, same) (second-refused _ _ _ _ _
    (are-placed _ _ _ _ _ _ c.requires c.in-Some.ensures c.in-Some-children.ensures)
    _ c.in_ok-first.ensures.asked _ _ c.in_err-second.ensures.refused c.in_err-second.ensures.unchanged)

-- the last product is due
last
    : (c : In_ok-second)
    → (c.in_ok-first.first < length c.product-2.new.self)
    × IsDue c.args.graph.now c.product-2.new.self [] (term_at c.args.graph.now c.args.node)
    (multiply (term_at c.product-2.new.self c.in_ok-first.first)
    (term_at c.product-2.new.self c.in_ok-second.second))
last c =
    here-due _ _ _ _ _ (are-placed _ _ _ _ _ _ c.requires c.in-Some.ensures c.in-Some-children.ensures)
    _ c.in_ok-first.ensures.asked _ _ _ c.in_ok-first.ensures.number.0 c.in_ok-first.ensures.number.1
    c.in_ok-second.ensures.asked c.in_ok-second.ensures.number.1

pub product-requires-3-clause-left : goal.product-requires-3-clause-left
product-requires-3-clause-left c = (last (goal.at.product-requires-3-clause-left c).In_ok-second).0

pub returns-in_err-product : goal.returns-in_err-product
returns-in_err-product c =
    let (e, is, same) =
    err_from_is_err_and c.from_residual-in_err-product.result c.from_residual-in_err-product.ensures.1 in
    rw (is, same)
    (product-refused _ _ _ _ _ _ _ (last (goal.at.returns-in_err-product c).In_ok-second).1
    c.in_err-product.ensures.refused c.in_err-product.ensures.unchanged)

pub returns : goal.returns
returns c =
    let done = c.in_ok-product.ensures in
    product-done _ _ _ _ _ _ _ (last (goal.at.returns c).In_ok-second).1 done.number.0 done.number.1
    done.asked

pub product-requires-2-clause-left : goal.product-requires-2-clause-left
product-requires-2-clause-left c =
    let (left, middle, last) = still-placed _ _ _ _ _
    (are-placed _ _ _ _ _ _ c.requires c.in-Some.ensures c.in-Some-children.ensures) _
    c.in_ok-first.ensures.asked in
    omega (arith, left, middle, last)

pub product-requires-2-clause-right : goal.product-requires-2-clause-right
product-requires-2-clause-right c =
    let (left, middle, last) = still-placed _ _ _ _ _
    (are-placed _ _ _ _ _ _ c.requires c.in-Some.ensures c.in-Some-children.ensures) _
    c.in_ok-first.ensures.asked in
    omega (arith, left, middle, last)
