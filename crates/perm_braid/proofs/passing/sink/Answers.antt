use Rattle.std.proofs.Common.{refl}
use Rattle.perm_braid.proofs.PassingLemmas.{IsSunk-begin, IsSunk-swap}
use Rattle.perm_braid.proofs.passing.sink.Goals as goal

pub sinking-init : goal.sinking-init
sinking-init c = IsSunk-begin _ _ _ c.requires.high c.requires.equal c.requires.still

pub sinking-preserved : goal.sinking-preserved
sinking-preserved c =
    IsSunk-swap _ _ c.sinking.entries c.sinking.places _ _ _ _ c.sinking.invariant c.sinking-test.true
    (c.if-not-can_pass.ensures.0 refl) c.swap.ensures.after c.swap-in-sinking.ensures.after
