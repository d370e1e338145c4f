use Rattle.std.proofs.Common.{arith}
use Rattle.perm_braid.proofs.PassingLemmas.{IsSettled-begin, IsSettled-step}
use Rattle.perm_braid.proofs.passing.settle_slices.Goals as goal

pub loop-from-init : goal.loop-from-init
loop-from-init c = IsSettled-begin _ _

pub loop-from-preserved : goal.loop-from-preserved
loop-from-preserved c =
    let sank = c.sink-sank.ensures in
    IsSettled-step _ _ c.loop-from.entries c.loop-from.places _ _ c.loop-from.from c.loop-from.passed
    c.sink-sank.result
    c.loop-from.invariant (omega arith) (omega (arith, c.loop-from-test.true, c.loop-from.auto.entries))
    sank.passes sank.still sank.some sank.none
