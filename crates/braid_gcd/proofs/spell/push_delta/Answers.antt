use Rattle.std.proofs.Common.{arith}
use Rattle.braid_gcd.proofs.SpellLemmas.{delta_step}
use Rattle.braid_gcd.proofs.spell.push_delta.Goals as goal

pub loop-k-preserved : goal.loop-k-preserved
loop-k-preserved c =
    delta_step c.loop-k.word.items _ _ c.loop-k.k (omega arith) c.in_ok-push_rising.ensures c.loop-k.invariant
