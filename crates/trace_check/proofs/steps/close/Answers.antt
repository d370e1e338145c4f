use Rattle.std.proofs.Common.{rules, refl, ap, arith}
use Rattle.braid_word.specs.Words.{Letter}
use Rattle.trace_check.proofs.ReductionLemmas.{reduct-removed, reduct-taken_back, room-taken_back, IsPresent-removed}
use Rattle.trace_check.proofs.KnownLemmas.{IsKnown-closed}
use Rattle.trace_check.proofs.steps.close.Goals as goal

pub take_back-requires-clause-room : goal.take_back-requires-clause-room
take_back-requires-clause-room c =
    room-taken_back _ _ _ _ _ c.requires.handle c.letter_at-first.ensures c.in-Some.ensures.item
    c.requires.present c.requires.short

pub returns-then-raised-eq0-clause-reduct : goal.returns-then-raised-eq0-clause-reduct
returns-then-raised-eq0-clause-reduct c =
    rw c.remove_left.ensures
    (reduct-removed _ _ _ _ _ _ c.requires.handle c.letter_at-first.ensures c.in-Some.ensures.item
    c.requires.raised c.if-raised-eq0.true)

pub returns-then-raised-eq0-clause-present : goal.returns-then-raised-eq0-clause-present
returns-then-raised-eq0-clause-present c =
    IsPresent-removed _ _ _ _ _ c.requires.present c.in-Some.ensures.item (search rules)
    c.remove_left.ensures

pub returns-clause-reduct : goal.returns-clause-reduct
returns-clause-reduct c =
    reduct-taken_back _ _ _ _ _ _ _ _ c.requires.handle c.letter_at-first.ensures c.in-Some.ensures.item
    c.take_back.ensures.left c.take_back.ensures.right c.in-Some-pop_left.ensures

pub returns-then-raised-eq0-clause-known : goal.returns-then-raised-eq0-clause-known
returns-then-raised-eq0-clause-known c =
    IsKnown-closed _ _ _ _ _ _ _ _ c.requires.handle c.letter_at-first.ensures c.in-Some.ensures.item
    c.requires.raised c.if-raised-eq0.true c.remove_left.ensures c.left_len-end.ensures.value _ _ _ _ _
    c.without.ensures c.without-then-raised-eq0.ensures c.with.ensures refl refl
    (omega (arith, ap (λ (x : Letter). x.index) c.first.view_is)) c.requires.known
