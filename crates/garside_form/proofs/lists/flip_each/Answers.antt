use Rattle.std.proofs.Common.{arith}
use Rattle.std.proofs.lemmas.List.Edits.{map_over_more}
use Rattle.perm_braid.specs.Arrangements.{flip}
use Rattle.garside_form.proofs.lists.flip_each.Goals as goal

pub loop-k-preserved : goal.loop-k-preserved
loop-k-preserved c =
    rw c.flip.ensures
    (map_over_more flip c.args.list.now.items c.loop-k.list.items c.loop-k.k c.index_mut.result.now
    (omega (arith, c.loop-k-test.true)) c.loop-k.invariant c.index_mut.ensures.value)
