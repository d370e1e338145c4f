-- The derivation of a product is made of those of its parts, and of a distribution.
use Rattle.std.proofs.Common.{◌<◌, ℕ, length, arith}
use Rattle.std.proofs.lemmas.Result.{err_from_is_err_and}
use Rattle.term_graph.proofs.RequestLemmas.{IsFront-trans, length-front}
use Rattle.term_graph.proofs.StopLemmas.{IsStopped-memory}
use Rattle.term_graph.specs.Requests.{IsFront}
use Rattle.term_expand.specs.Memos.{IsMade}
use Rattle.term_expand.specs.declared.memo.Work.TheVariants.{Derivation}
use Rattle.term_expand.proofs.MemoLemmas.{IsMade-answer, IsAnswer-made}
use Rattle.term_expand.proofs.WorkLemmas.{first-stopped, second-stopped, parts-made, derivation-begins, distribution-stopped, distribution-made}
use Rattle.term_expand.proofs.derivation.+derive_by.Goals as goal
use Rattle.term_expand.proofs.derivation.+derive_by.Goals.{After-distribute_by}

pub returns-in-Some-find-clause-made : goal.returns-in-Some-find-clause-made
returns-in-Some-find-clause-made t c =
    IsAnswer-made _ _ _ (rw c.index.ensures at (c.in-Some-find.ensures c.args.graph.now c.requires.memo))

pub returns-in_err-left-clause-stopped : goal.returns-in_err-left-clause-stopped
returns-in_err-left-clause-stopped t c =
    let (e, is, same) = err_from_is_err_and c.from_residual.result c.from_residual.ensures.1 in
    let begins = derivation-begins _ _ _ _ c.requires.there c.in-Some.ensures in
    rw (is, same) (first-stopped _ _ _ _ _ begins _ _ c.in_err-left.ensures.stopped)

pub returns-in_err-right-clause-stopped : goal.returns-in_err-right-clause-stopped
returns-in_err-right-clause-stopped t c =
    let (e, is, same) =
    err_from_is_err_and c.from_residual-in_err-right.result c.from_residual-in_err-right.ensures.1 in
    let begins = derivation-begins _ _ _ _ c.requires.there c.in-Some.ensures in
    rw (is, same)
    (second-stopped _ _ _ _ _ begins _ _ c.in_ok-left.ensures.made _ _ c.in_err-right.ensures.stopped)

pub returns-in_err-number-clause-stopped : goal.returns-in_err-number-clause-stopped
returns-in_err-number-clause-stopped t c =
    let (e, is, same) =
    err_from_is_err_and c.from_residual-in_err-number.result c.from_residual-in_err-number.ensures.1 in
    let begins = derivation-begins _ _ _ _ c.requires.there c.in-Some.ensures in
    let parts = parts-made _ _ _ _ _ begins _ _ c.in_ok-left.ensures.made _ _ c.in_ok-right.ensures.made in
    rw (is, same)
    (distribution-stopped _ _ _ _ c.requires.there c.in-Some.ensures _ _ _ parts _ _
    c.in_err-number.ensures.stopped)

pub returns-in_err-remember-clause-stopped : goal.returns-in_err-remember-clause-stopped
returns-in_err-remember-clause-stopped t c =
    let (e, is, same) =
    err_from_is_err_and c.from_residual-in_err-remember.result
    c.from_residual-in_err-remember.ensures.1 in
    let begins = derivation-begins _ _ _ _ c.requires.there c.in-Some.ensures in
    let parts = parts-made _ _ _ _ _ begins _ _ c.in_ok-left.ensures.made _ _ c.in_ok-right.ensures.made in
    let done = distribution-made _ _ _ _ c.requires.there c.in-Some.ensures _ _ _ parts _ _
    c.in_ok-number.ensures.made in
    rw (is, same) (IsStopped-memory _ _ _ done.asked)

-- the derivation is made
made
    : (t : ℕ) (c : goal.In_ok-remember t)
    → IsMade c.args.graph.now c.distribute_by.new.graph (Derivation c.args.node) c.in_ok-number.number
made t c =
    let begins = derivation-begins _ _ _ _ c.requires.there c.in-Some.ensures in
    let parts = parts-made _ _ _ _ _ begins _ _ c.in_ok-left.ensures.made _ _ c.in_ok-right.ensures.made in
    distribution-made _ _ _ _ c.requires.there c.in-Some.ensures _ _ _ parts _ _ c.in_ok-number.ensures.made

pub returns-clause-made : goal.returns-clause-made
returns-clause-made t c = made t c

pub returns-clause-memo : goal.returns-clause-memo
returns-clause-memo t c =
    let answer = IsMade-answer _ _ _ _ c.requires.there (made t c) in
    c.in_ok-remember.ensures c.distribute_by.new.graph c.in_ok-number.ensures.memo (rw c.index.ensures answer)

pub derive_by-requires-2 : goal.derive_by-requires-2
derive_by-requires-2 t c = (
  omega (arith, c.in-Some.ensures.0, c.in-Some.ensures.1),
  (
    length-front c.args.graph.now c.derive_by.new.graph _ c.derive_by.ensures.kept
        (omega (arith, c.requires.there, c.in-Some.ensures.0, c.in-Some.ensures.1)),
    c.in_ok-left.ensures.memo,
  ),
)

pub distribute_by-requires-clause-left : goal.distribute_by-requires-clause-left
distribute_by-requires-clause-left t c =
    let left : c.in_ok-left.left < length c.derive_by-2.new.graph =
    length-front c.derive_by.new.graph _ _ c.derive_by-2.ensures.kept c.in_ok-left.ensures.made.within in
    let right : c.in_ok-right.right < length c.derive_by-2.new.graph = c.in_ok-right.ensures.made.within in
    omega (arith, left, right)

-- ---- What was there stays ----

pub returns-in_err-right-clause-kept : goal.returns-in_err-right-clause-kept
returns-in_err-right-clause-kept t c =
    IsFront-trans c.args.graph.now c.derive_by.new.graph _ c.derive_by.ensures.kept c.derive_by-2.ensures.kept

-- both parts are derived, and the distribution was begun
kept : (t : ℕ) (c : After-distribute_by t) → IsFront c.args.graph.now c.distribute_by.new.graph
kept t c =
    IsFront-trans c.args.graph.now c.derive_by-2.new.graph _
    (IsFront-trans c.args.graph.now c.derive_by.new.graph _ c.derive_by.ensures.kept
    c.derive_by-2.ensures.kept) c.distribute_by.ensures.kept

pub returns-in_err-number-clause-kept : goal.returns-in_err-number-clause-kept
returns-in_err-number-clause-kept t c =
    kept t (goal.at.returns-in_err-number-clause-kept t c).After-distribute_by

pub returns-in_err-remember-clause-kept : goal.returns-in_err-remember-clause-kept
returns-in_err-remember-clause-kept t c =
    kept t (goal.at.returns-in_err-remember-clause-kept t c).After-distribute_by

pub returns-clause-kept : goal.returns-clause-kept
returns-clause-kept t c = kept t (goal.at.returns-clause-kept t c).After-distribute_by
