-- The first pass ends with a term, its height and its products, or at the first token that may not stand.
use Rattle.std.proofs.Common.{◌^◌, ◌<◌, length, sym, ◌∙◌, rules, arith}
use Rattle.ld_term.proofs.ShapeLemmas.{read-start, read-more, read-stop, read-early, read-whole, shape-deep, shape-large, shape-small}
use Rattle.ld_term.proofs.shape.measure.Goals as goal

pub loop-piece-init : goal.loop-piece-init
loop-piece-init c = read-start _ _ _ _ _ _ c.requires c.new-reader.ensures

pub returns-then-not-branch-clause-refused : goal.returns-then-not-branch-clause-refused
returns-then-not-branch-clause-refused c =
    read-stop _ _ _ _ _ _ _ _ _ _ _ c.loop-piece.invariant c.in-Some.ensures
    (λ bytes place s holds. rw c.if-not-branch.true at (c.in_ok-take.ensures bytes place s holds))

pub loop-piece-preserved : goal.loop-piece-preserved
loop-piece-preserved c =
    read-more _ _ _ _ _ _ _ _ _ _ _ _ _ _ _ c.loop-piece.invariant c.in-Some.ensures
    (λ bytes place s holds. rw c.if-not-branch.false at (c.in_ok-take.ensures bytes place s holds))
    c.stars.ensures.value c.stars.ensures.one

pub returns-in_default-height-clause-refused : goal.returns-in_default-height-clause-refused
returns-in_default-height-clause-refused c =
    read-early _ _ _ _ _ _ _ _ c.loop-piece.invariant c.in_default.ensures
    (λ s holds. sym c.in_default-height.is ∙ c.height.ensures s holds)

pub returns-then-height-gt-MAX_HEIGHT-clause-refused : goal.returns-then-height-gt-MAX_HEIGHT-clause-refused
returns-then-height-gt-MAX_HEIGHT-clause-refused c =
    let small : length c.args.line.now < 2 ^ 64 = search rules in
    shape-deep _ _ _ _ _ small
    (read-whole _ _ _ _ _ _ _ _ _ c.loop-piece.invariant c.in_default.ensures
    (λ s holds. sym c.in-Some-height.is ∙ c.height.ensures s holds))
    c.if-height-gt-MAX_HEIGHT.true

pub returns-then-products-gt-MAX_PRODUCTS-clause-refused
    : goal.returns-then-products-gt-MAX_PRODUCTS-clause-refused
returns-then-products-gt-MAX_PRODUCTS-clause-refused c =
    let small : length c.args.line.now < 2 ^ 64 = search rules in
    shape-large _ _ _ _ _ small
    (read-whole _ _ _ _ _ _ _ _ _ c.loop-piece.invariant c.in_default.ensures
    (λ s holds. sym c.in-Some-height.is ∙ c.height.ensures s holds))
    (omega arith) c.if-products-gt-MAX_PRODUCTS.true

pub returns-clause-text : goal.returns-clause-text
returns-clause-text c =
    let small : length c.args.line.now < 2 ^ 64 = search rules in
    shape-small _ _ _ _ _ small
    (read-whole _ _ _ _ _ _ _ _ _ c.loop-piece.invariant c.in_default.ensures
    (λ s holds. sym c.in-Some-height.is ∙ c.height.ensures s holds))
    (omega arith) (omega arith)
