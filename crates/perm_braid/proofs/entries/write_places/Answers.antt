use Rattle.std.proofs.Common.{◌-◌, ◌∙◌, arith}
use Rattle.std.proofs.lemmas.List.{length-set}
use Rattle.perm_braid.proofs.GreedyPairLemmas.{place_more, place_room, place_all}
use Rattle.perm_braid.proofs.entries.write_places.Goals as goal

pub overflow_sub-places : goal.overflow_sub-places
overflow_sub-places c =
    let room = place_room c.args.numbers.now c.loop-k.k c.requires.order
    (omega (arith, c.loop-k-test.true)) in
    omega (arith, room, c.from.ensures)

pub bounds-places-from : goal.bounds-places-from
bounds-places-from c =
    let room = place_room c.args.numbers.now c.loop-k.k c.requires.order
    (omega (arith, c.loop-k-test.true)) in
    omega (arith, room, c.from.ensures, c.loop-k.invariant.long)

pub loop-k-preserved : goal.loop-k-preserved
loop-k-preserved c = record {
  long = length-set _ (c.from.result - 1) _ ∙ c.loop-k.invariant.long;
  placed = rw c.from.ensures (place_more c.args.numbers.now c.loop-k.places c.loop-k.k c.requires.order
      c.loop-k.invariant.long (omega (arith, c.loop-k-test.true)) c.loop-k.invariant.placed);
}

pub returns : goal.returns
returns c =
    place_all c.args.numbers.now c.loop-k.places c.loop-k.k c.requires.order c.loop-k.invariant.long
    (omega (arith, c.loop-k-test.false)) c.loop-k.invariant.placed
