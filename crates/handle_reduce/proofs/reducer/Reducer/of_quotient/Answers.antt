-- The scan has the letters of the quotient.
use Rattle.std.proofs.Common.{refl, ◌∙◌, arith, ap}
use Rattle.braid_word.proofs.WordLemmas.{length-quotient}
use Rattle.handle_find.specs.Scans.{whole, places}
use Rattle.handle_reduce.proofs.ReducerLemmas.{IsRunAfter-long, IsRunAfter-short, Keeps-long, Keeps-short}
use Rattle.handle_reduce.proofs.reducer.Reducer.of_quotient.Goals as goal

pub returns-then-len-limit : goal.returns-then-len-limit
returns-then-len-limit c =
    let same = ap whole c.in_ok-scan.ensures in
    let len = length-quotient c.args.u.now c.args.v.now in
    IsRunAfter-long _ _ _ _ _ same c.new.ensures.items (rw same (omega (arith, len)))

pub returns : goal.returns
returns c =
    let same = c.settle-start.ensures.word ∙ ap whole c.in_ok-scan.ensures in
    let len = length-quotient c.args.u.now c.args.v.now in
    IsRunAfter-short _ _ _ _ _ _ _ same c.in_ok-steps.ensures.items
    (rw same (omega (arith, len))) refl c.settle-start.ensures.progress

pub invariant_of-result : goal.invariant_of-result
invariant_of-result c =
    let same = ap whole c.in_ok-scan.ensures in
    let len = length-quotient c.args.u.now c.args.v.now in
    Keeps-long _ _ _ _ _ _ _ c.requires.handles c.requires.limit
    (rw same (omega (arith, len, c.requires.words))) c.new.ensures.items

pub invariant_of-result-2 : goal.invariant_of-result-2
invariant_of-result-2 c =
    let same = c.settle-start.ensures.word ∙ ap whole c.in_ok-scan.ensures in
    let len = length-quotient c.args.u.now c.args.v.now in
    let room = c.settle-start.ensures.room ∙ ap places c.in_ok-scan.ensures in
    Keeps-short _ _ _ _ _ _ _ _ _ c.requires.handles c.requires.limit
    (rw same (omega (arith, len, c.requires.words)))
    (rw same (omega (arith, len, c.if-len-limit.false)))
    c.in_ok-steps.ensures.items c.settle-start.ensures.start c.settle-start.ensures.progress
    (rw room (omega (arith, len, c.max-room.ensures))) (omega (arith, c.in_ok-steps.ensures.capacity))
