-- The distribution over a product is made of those over its parts.
use Rattle.std.proofs.Common.{◌<◌, ℕ, Ok, length, arith}
use Rattle.std.proofs.lemmas.Result.{err_from_is_err_and}
use Rattle.term_graph.proofs.RequestLemmas.{IsFront-product, IsFront-trans, length-front}
use Rattle.term_graph.proofs.StopLemmas.{IsStopped-memory}
use Rattle.ld_term.specs.Terms.{multiply}
use Rattle.term_graph.specs.Requests.{IsFront}
use Rattle.term_graph.specs.TermLists.{term_at}
use Rattle.term_expand.specs.Memos.{IsMade}
use Rattle.term_expand.specs.declared.memo.Work.TheVariants.{Distribution}
use Rattle.term_expand.proofs.MemoLemmas.{IsMemo-product, IsMade-answer, IsAnswer-made}
use Rattle.term_expand.proofs.WorkLemmas.{first-stopped, second-stopped, parts-made, distribution-begins, last-stopped, product-made}
use Rattle.term_expand.proofs.distribution.+distribute_by.Goals as goal
use Rattle.term_expand.proofs.distribution.+distribute_by.Goals.{After-product-2}

pub returns-in_default-clause-memo : goal.returns-in_default-clause-memo
returns-in_default-clause-memo t c =
    IsMemo-product _ _ c.args.a c.args.b c.args.memo.now _ c.product.ensures.asked c.requires.memo

pub returns-in-Some-find-clause-made : goal.returns-in-Some-find-clause-made
returns-in-Some-find-clause-made t c =
    IsAnswer-made _ _ _
    (rw (c.index.ensures, c.index-2.ensures) at (c.in-Some-find.ensures c.args.graph.now c.requires.memo))

pub returns-in_err-left-clause-stopped : goal.returns-in_err-left-clause-stopped
returns-in_err-left-clause-stopped t c =
    let (e, is, same) = err_from_is_err_and c.from_residual.result c.from_residual.ensures.1 in
    let begins = distribution-begins _ _ _ _ _ c.requires.left c.requires.right c.in-Some.ensures in
    rw (is, same) (first-stopped _ _ _ _ _ begins _ _ c.in_err-left.ensures.stopped)

pub returns-in_err-right-clause-stopped : goal.returns-in_err-right-clause-stopped
returns-in_err-right-clause-stopped t c =
    let (e, is, same) =
    err_from_is_err_and c.from_residual-in_err-right.result c.from_residual-in_err-right.ensures.1 in
    let begins = distribution-begins _ _ _ _ _ c.requires.left c.requires.right c.in-Some.ensures in
    rw (is, same)
    (second-stopped _ _ _ _ _ begins _ _ c.in_ok-left.ensures.made _ _ c.in_err-right.ensures.stopped)

pub returns-in_err-number-clause-stopped : goal.returns-in_err-number-clause-stopped
returns-in_err-number-clause-stopped t c =
    let (e, is, same) =
    err_from_is_err_and c.from_residual-in_err-number.result c.from_residual-in_err-number.ensures.1 in
    let begins = distribution-begins _ _ _ _ _ c.requires.left c.requires.right c.in-Some.ensures in
    let parts = parts-made _ _ _ _ _ begins _ _ c.in_ok-left.ensures.made _ _ c.in_ok-right.ensures.made in
    rw (is, same)
    (last-stopped _ _ _ _ _ c.requires.left c.requires.right c.in-Some.ensures _ _ _ parts _ _
    c.in_err-number.ensures.refused c.in_err-number.ensures.unchanged)

pub returns-in_err-remember-clause-stopped : goal.returns-in_err-remember-clause-stopped
returns-in_err-remember-clause-stopped t c =
    let (e, is, same) =
    err_from_is_err_and c.from_residual-in_err-remember.result
    c.from_residual-in_err-remember.ensures.1 in
    let begins = distribution-begins _ _ _ _ _ c.requires.left c.requires.right c.in-Some.ensures in
    let parts = parts-made _ _ _ _ _ begins _ _ c.in_ok-left.ensures.made _ _ c.in_ok-right.ensures.made in
    let number = c.in_ok-number.ensures.number in
    let done = product-made _ _ _ _ _ c.requires.left c.requires.right c.in-Some.ensures _ _ _ parts _ _
    number.0 number.1 c.in_ok-number.ensures.asked in
    rw (is, same) (IsStopped-memory _ _ _ done.asked)

-- the distribution is made
made
    : (t : ℕ) (c : goal.In_ok-remember t)
    → IsMade c.args.graph.now c.product-2.new.self (Distribution c.args.a c.args.b) c.in_ok-number.number
made t c =
    let begins = distribution-begins _ _ _ _ _ c.requires.left c.requires.right c.in-Some.ensures in
    let parts = parts-made _ _ _ _ _ begins _ _ c.in_ok-left.ensures.made _ _ c.in_ok-right.ensures.made in
    let number = c.in_ok-number.ensures.number in
    product-made _ _ _ _ _ c.requires.left c.requires.right c.in-Some.ensures _ _ _ parts _ _ number.0
    number.1 c.in_ok-number.ensures.asked

pub returns-clause-made : goal.returns-clause-made
returns-clause-made t c = made t c

pub returns-clause-memo : goal.returns-clause-memo
returns-clause-memo t c =
    let memo = c.distribute_by-2.new.memo in
    let kept = IsMemo-product _ _ c.in_ok-left.left c.in_ok-right.right memo (Ok c.in_ok-number.number)
    c.in_ok-number.ensures.asked c.in_ok-right.ensures.memo in
    let answer = IsMade-answer _ _ _ _ (c.requires.left, c.requires.right) (made t c) in
    c.in_ok-remember.ensures c.product-2.new.self kept (rw (c.index.ensures, c.index-2.ensures) answer)

pub distribute_by-requires-2 : goal.distribute_by-requires-2
distribute_by-requires-2 t c =
    let still = length-front c.args.graph.now c.distribute_by.new.graph in (
      omega (arith, c.in-Some.ensures.0, c.in-Some.ensures.1),
      (
        still c.args.a c.distribute_by.ensures.kept c.requires.left,
        (
          still _ c.distribute_by.ensures.kept
              (omega (arith, c.requires.right, c.in-Some.ensures.0, c.in-Some.ensures.1)),
          c.in_ok-left.ensures.memo,
        ),
      ),
    )

pub product-requires-2-clause-left : goal.product-requires-2-clause-left
product-requires-2-clause-left t c =
    let left : c.in_ok-left.left < length c.distribute_by-2.new.graph =
    length-front c.distribute_by.new.graph _ _ c.distribute_by-2.ensures.kept
    c.in_ok-left.ensures.made.within in
    let right : c.in_ok-right.right < length c.distribute_by-2.new.graph =
    c.in_ok-right.ensures.made.within in
    omega (arith, left, right)

-- ---- What was there stays ----

pub returns-in_err-right-clause-kept : goal.returns-in_err-right-clause-kept
returns-in_err-right-clause-kept t c =
    IsFront-trans c.args.graph.now c.distribute_by.new.graph _ c.distribute_by.ensures.kept
    c.distribute_by-2.ensures.kept

-- both parts are done, and their product was asked for
kept : (t : ℕ) (c : After-product-2 t) → IsFront c.args.graph.now c.product-2.new.self
kept t c =
    let parts = c.distribute_by-2.new.graph in
    IsFront-trans c.args.graph.now parts _
    (IsFront-trans c.args.graph.now c.distribute_by.new.graph parts c.distribute_by.ensures.kept
    c.distribute_by-2.ensures.kept)
    (IsFront-product parts _
    (multiply (term_at parts c.in_ok-left.left) (term_at parts c.in_ok-right.right)) _
    c.product-2.ensures.asked c.product-2.ensures.unchanged)

pub returns-in_err-number-clause-kept : goal.returns-in_err-number-clause-kept
returns-in_err-number-clause-kept t c =
    kept t (goal.at.returns-in_err-number-clause-kept t c).After-product-2

pub returns-in_err-remember-clause-kept : goal.returns-in_err-remember-clause-kept
returns-in_err-remember-clause-kept t c =
    kept t (goal.at.returns-in_err-remember-clause-kept t c).After-product-2

pub returns-clause-kept : goal.returns-clause-kept
returns-clause-kept t c = kept t (goal.at.returns-clause-kept t c).After-product-2
