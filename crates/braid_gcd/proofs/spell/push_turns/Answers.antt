use Rattle.std.proofs.Common.{arith}
use Rattle.braid_gcd.proofs.SpellLemmas.{turns_step}
use Rattle.braid_gcd.proofs.spell.push_turns.Goals as goal

pub loop-preserved : goal.loop-preserved
loop-preserved c =
    turns_step c.loop.word.items _ _ _ c.args.turns c.loop.counter (omega arith) c.in_ok-push_delta.ensures
    c.loop.invariant
