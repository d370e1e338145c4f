use Rattle.std.proofs.Common.{arith}
use Rattle.braid_gcd.proofs.FormLemmas.{factors_step}
use Rattle.braid_gcd.proofs.forms.factors_of.Goals as goal

pub loop-k-preserved : goal.loop-k-preserved
loop-k-preserved c =
    factors_step c.loop-k.list.items _ _ _ _ c.loop-k.k (omega arith) c.loop-k.invariant
    c.in-Some.ensures.value c.in_ok-copy.ensures.value c.in_ok-push.ensures.items
