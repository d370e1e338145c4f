use Rattle.std.proofs.Common.{ap, length, arith}
use Rattle.perm_braid.proofs.EntryPlaceLemmas.{placed_long}
use Rattle.perm_braid.proofs.GreedyPairLemmas.{taken_over}
use Rattle.perm_braid.proofs.perm.greedy_pair.Goals as goal

pub settle-moved-requires-clause-equal : goal.settle-moved-requires-clause-equal
settle-moved-requires-clause-equal c =
    let long = placed_long _ _ c.q.invariant.1 in
    omega (arith, long, ap length c.p.view_is, ap length c.q.view_is, c.requires.equal)

pub place-requires-clause-equal : goal.place-requires-clause-equal
place-requires-clause-equal c =
    let taken =
    (taken_over c.args.p.now c.args.q.now c.settle-moved.result c.p.view_is c.p.invariant c.q.view_is
    c.q.invariant
    c.requires.equal c.settle-moved.ensures.passes c.settle-moved.ensures.still c.settle-moved.ensures.some
    c.settle-moved.ensures.none) in
    let long = placed_long _ _ c.p.invariant.1 in
    omega (arith, long, taken.first_long, ap length c.p.view_is)

pub place-requires-clause-short : goal.place-requires-clause-short
place-requires-clause-short c =
    let taken =
    (taken_over c.args.p.now c.args.q.now c.settle-moved.result c.p.view_is c.p.invariant c.q.view_is
    c.q.invariant
    c.requires.equal c.settle-moved.ensures.passes c.settle-moved.ensures.still c.settle-moved.ensures.some
    c.settle-moved.ensures.none) in
    taken.first.most

pub place-requires-clause-order : goal.place-requires-clause-order
place-requires-clause-order c =
    let taken =
    (taken_over c.args.p.now c.args.q.now c.settle-moved.result c.p.view_is c.p.invariant c.q.view_is
    c.q.invariant
    c.requires.equal c.settle-moved.ensures.passes c.settle-moved.ensures.still c.settle-moved.ensures.some
    c.settle-moved.ensures.none) in
    taken.first.order

pub place-requires-2-clause-equal : goal.place-requires-2-clause-equal
place-requires-2-clause-equal c =
    let taken =
    (taken_over c.args.p.now c.args.q.now c.settle-moved.result c.p.view_is c.p.invariant c.q.view_is
    c.q.invariant
    c.requires.equal c.settle-moved.ensures.passes c.settle-moved.ensures.still c.settle-moved.ensures.some
    c.settle-moved.ensures.none) in
    omega (arith, taken.second_long, ap length c.q.view_is, c.requires.equal)

pub place-requires-2-clause-short : goal.place-requires-2-clause-short
place-requires-2-clause-short c =
    let taken =
    (taken_over c.args.p.now c.args.q.now c.settle-moved.result c.p.view_is c.p.invariant c.q.view_is
    c.q.invariant
    c.requires.equal c.settle-moved.ensures.passes c.settle-moved.ensures.still c.settle-moved.ensures.some
    c.settle-moved.ensures.none) in
    omega (arith, taken.first.most, taken.first_long, taken.second_long)

pub place-requires-2-clause-order : goal.place-requires-2-clause-order
place-requires-2-clause-order c =
    let taken =
    (taken_over c.args.p.now c.args.q.now c.settle-moved.result c.p.view_is c.p.invariant c.q.view_is
    c.q.invariant
    c.requires.equal c.settle-moved.ensures.passes c.settle-moved.ensures.still c.settle-moved.ensures.some
    c.settle-moved.ensures.none) in
    taken.second_order

pub invariant_of-p : goal.invariant_of-p
invariant_of-p c =
    let taken =
    (taken_over c.args.p.now c.args.q.now c.settle-moved.result c.p.view_is c.p.invariant c.q.view_is
    c.q.invariant
    c.requires.equal c.settle-moved.ensures.passes c.settle-moved.ensures.still c.settle-moved.ensures.some
    c.settle-moved.ensures.none) in
    (taken.first, c.place.ensures)

pub invariant_of-q : goal.invariant_of-q
invariant_of-q c =
    let taken =
    (taken_over c.args.p.now c.args.q.now c.settle-moved.result c.p.view_is c.p.invariant c.q.view_is
    c.q.invariant
    c.requires.equal c.settle-moved.ensures.passes c.settle-moved.ensures.still c.settle-moved.ensures.some
    c.settle-moved.ensures.none) in
    rw c.place-2.ensures (taken.last, taken.placed)

pub returns-clause-moves : goal.returns-clause-moves
returns-clause-moves c =
    let taken =
    (taken_over c.args.p.now c.args.q.now c.settle-moved.result c.p.view_is c.p.invariant c.q.view_is
    c.q.invariant
    c.requires.equal c.settle-moved.ensures.passes c.settle-moved.ensures.still c.settle-moved.ensures.some
    c.settle-moved.ensures.none) in
    rw c.place-2.ensures taken.moves

pub returns-clause-product : goal.returns-clause-product
returns-clause-product c =
    let taken =
    (taken_over c.args.p.now c.args.q.now c.settle-moved.result c.p.view_is c.p.invariant c.q.view_is
    c.q.invariant
    c.requires.equal c.settle-moved.ensures.passes c.settle-moved.ensures.still c.settle-moved.ensures.some
    c.settle-moved.ensures.none) in
    rw c.place-2.ensures taken.product

pub returns-clause-greedy : goal.returns-clause-greedy
returns-clause-greedy c =
    let taken =
    (taken_over c.args.p.now c.args.q.now c.settle-moved.result c.p.view_is c.p.invariant c.q.view_is
    c.q.invariant
    c.requires.equal c.settle-moved.ensures.passes c.settle-moved.ensures.still c.settle-moved.ensures.some
    c.settle-moved.ensures.none) in
    rw c.place-2.ensures taken.greedy

pub returns-clause-moved : goal.returns-clause-moved
returns-clause-moved c =
    let taken =
    (taken_over c.args.p.now c.args.q.now c.settle-moved.result c.p.view_is c.p.invariant c.q.view_is
    c.q.invariant
    c.requires.equal c.settle-moved.ensures.passes c.settle-moved.ensures.still c.settle-moved.ensures.some
    c.settle-moved.ensures.none) in
    taken.told
