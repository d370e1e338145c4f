use Rattle.std.proofs.Common.{arith}
use Rattle.perm_braid.proofs.EntryLemmas.{identity_more, identity_room}
use Rattle.perm_braid.proofs.entries.rising.Goals as goal

pub push_reserved-requires : goal.push_reserved-requires
push_reserved-requires c = (
  omega arith,
  identity_room c.loop-k.k c.args.n _ _ c.loop-k.invariant.items c.loop-k.invariant.room c.loop-k-test.true,
)

pub loop-k-preserved : goal.loop-k-preserved
loop-k-preserved c = record {
  items = identity_more c.loop-k.k _ _ c.loop-k.invariant.items c.push_reserved.ensures.items;
  room = omega (arith, c.loop-k.invariant.room, c.push_reserved.ensures.capacity);
}
