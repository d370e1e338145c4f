-- Each letter goes before what stands for those after it.
use Rattle.std.proofs.Common.{◌+◌, length, ap, sym, ◌∙◌, arith, length-append}
use Rattle.braid_word.specs.Words.{Letter}
use Rattle.std.proofs.Common.{List, ◌∷◌, [], ◌++◌, flat_map}
use Rattle.gap_word.specs.Gap.{Gap, room}
use Rattle.handle_find.specs.Handles.{replaced}
use Rattle.handle_find.proofs.BackLemmas.{TakenBack-none, TakenBack-more, room-back, back-is}
use Rattle.handle_find.proofs.closing.take_back.Goals as goal

pub loop-init : goal.loop-init
loop-init c = record { taken = TakenBack-none _ _ _; moved = omega arith }

pub put_replaced-requires : goal.put_replaced-requires
put_replaced-requires c =
    let taken = c.loop.invariant.taken in
    let pops = c.in-Some.ensures in
    let fits = room-back c.args.first.index c.args.first.negative _ c.loop.letters.left
    c.pop_left.new.self.left taken.back c.args.letters.now.right c.in-Some.letter c.args.from
    c.loop.letters.spare (room c.args.letters.now)
    c.requires.room
    taken.left
    pops.left
    (omega (arith, c.loop.invariant.moved))
    (sym taken.same_room ∙ ap (λ (w : List Letter).
    length c.loop.letters.left + c.loop.letters.spare + length w) taken.right) in
    omega (arith, pops.spare)

pub loop-preserved : goal.loop-preserved
loop-preserved c =
    let taken = c.loop.invariant.taken in
    let pops = c.in-Some.ensures in
    let fits = room-back c.args.first.index c.args.first.negative _ c.loop.letters.left
    c.pop_left.new.self.left taken.back c.args.letters.now.right c.in-Some.letter c.args.from
    c.loop.letters.spare (room c.args.letters.now)
    c.requires.room
    taken.left
    pops.left
    (omega (arith, c.loop.invariant.moved))
    (sym taken.same_room ∙ ap (λ (w : List Letter).
    length c.loop.letters.left + c.loop.letters.spare + length w) taken.right) in
    let len = ap length pops.left in
    let kept = ap (λ (g : Gap Letter). length g.left) c.put_replaced.ensures in
    record {
      taken = TakenBack-more c.args.first.index c.args.first.negative c.args.letters.now c.loop.letters
          c.pop_left.new.self _ c.in-Some.letter taken pops
          (omega (arith, pops.spare)) c.put_replaced.ensures;
      moved = omega (
        arith,
        c.loop.invariant.moved,
        length-append c.pop_left.new.self.left
            (c.in-Some.letter ∷ []),
      );
    }

pub returns-clause-left : goal.returns-clause-left
returns-clause-left c =
    let taken = c.loop.invariant.taken in
    (back-is c.args.letters.now.left c.loop.letters.left taken.back c.args.from taken.left
    (omega (arith, c.loop.invariant.moved, c.requires.place))).0

pub returns-clause-right : goal.returns-clause-right
returns-clause-right c =
    let taken = c.loop.invariant.taken in
    let back = (back-is c.args.letters.now.left c.loop.letters.left taken.back c.args.from taken.left
    (omega (arith, c.loop.invariant.moved, c.requires.place))).1 in
    taken.right ∙ ap (λ (w : List Letter). flat_map (replaced c.args.first.index c.args.first.negative) w
    ++ c.args.letters.now.right) back

pub returns-clause-room : goal.returns-clause-room
returns-clause-room c = c.loop.invariant.taken.same_room
