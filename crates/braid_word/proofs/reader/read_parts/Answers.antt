use Rattle.std.proofs.Common.{rules, tests, sym, ◌<◌, ◌≤◌, ◌^◌, eqb, length, arith}
use Rattle.std.proofs.lemmas.List.{length_push}
use Rattle.std.proofs.lemmas.Result.{err_from_is_err_and}
use Rattle.std.proofs.lemmas.Iterator.Consumers.{YieldsList-at, YieldsList-turn, YieldsList-end}
use Rattle.std.proofs.lemmas.Iterator.Splits.{YieldsList-from_slice_split}
use Rattle.braid_word.proofs.PieceLemmas.{split, IsNext, IsRead-none, IsRead-empty, IsRead-letter, place-le, Fails-part, Gives-parts}
use Rattle.braid_word.proofs.reader.read_parts.Goals as goal
use Rattle.braid_word.proofs.reader.read_parts.Goals.{In-Some, In-None, then-is_piece+in_ok-letter+in_ok-keep, else-is_piece}

-- the part of this turn is the next
is_next : (c : In-Some) → IsNext c.args.bytes.now (length c.loop-part.yielded) c.in-Some.part.now
is_next c =
    let all = c.split-part-items.ensures in
    let turn = YieldsList-turn
    (YieldsList-at c.into_iter-part-iterator.ensures.into_iter_gives
    (YieldsList-from_slice_split _ (λ byte. eqb byte 32) c.args.bytes.now
    all.rest all.done all.closure (λ x r q k. search (rules, tests))))
    c.loop-part.yielded _ c.loop-part.yielded_by
    _ _ c.in-Some.part c.in-Some.is c.next.ensures.steps in
    record { within = turn.0; is = turn.1 }

-- at the end each part was yielded
all_read : (c : In-None) → length (split c.args.bytes.now) ≤ length c.loop-part.yielded
all_read c =
    let all = c.split-part-items.ensures in
    let end = YieldsList-end
    (YieldsList-at c.into_iter-part-iterator.ensures.into_iter_gives
    (YieldsList-from_slice_split _ (λ byte. eqb byte 32) c.args.bytes.now
    all.rest all.done all.closure (λ x r q k. search (rules, tests))))
    c.loop-part.yielded _ c.loop-part.yielded_by
    _ _ c.in-None.is c.next.ensures.steps in
    omega (arith, end.1)

pub loop-part-init : goal.loop-part-init
loop-part-init c =
    let none = c.new-letters.ensures.items in rw none (IsRead-none c.args.strict c.args.bytes.now)

pub returns-in_err-letter : goal.returns-in_err-letter
returns-in_err-letter c =
    let (e, is, same) = err_from_is_err_and c.from_residual.result c.from_residual.ensures.1 in
    let next = is_next (goal.at.returns-in_err-letter c).In-Some in
    let some = sym c.if-is_piece.ensures in
    rw (is, same) (Fails-part c.loop-part.invariant next some (sym c.in_err-letter.ensures))

pub overflow_add-place-in-loop-part : goal.overflow_add-place-in-loop-part
overflow_add-place-in-loop-part c =
    let short : length c.args.bytes.now < 2 ^ 63 = search rules in
    let next = is_next (goal.at.overflow_add-place-in-loop-part c).In-Some in
    omega (arith, place-le c.loop-part.invariant next)

pub loop-part-preserved : goal.loop-part-preserved
loop-part-preserved c =
    let next = is_next (goal.at.loop-part-preserved c).In-Some in
    let so_far = c.loop-part.invariant in
    rw (length_push c.loop-part.yielded c.in-Some.part) (elim c.if-is_piece.branch [
      | then-is_piece+in_ok-letter+in_ok-keep w ↦
          let some = sym w.if-is_piece.ensures in
          rw (w.letters-is, w.count-is)
          (IsRead-letter so_far next some (sym w.in_ok-letter.ensures) w.in_ok-keep.ensures)
      | else-is_piece w ↦
          rw (w.letters-is, w.count-is) (IsRead-empty so_far next (sym w.if-is_piece.ensures))
    ])

pub returns : goal.returns
returns c =
    let all = all_read (goal.at.returns c).In-None in
    Gives-parts _ c.loop-part.invariant all c.finish.ensures
