use Rattle.std.proofs.Common.{◌∙◌, ◌++◌, [], ◌∷◌, ap, arith}
use Rattle.braid_gcd.proofs.SpellLemmas.{rising_step}
use Rattle.braid_gcd.proofs.spell.push_rising.Goals as goal

pub loop-i-preserved : goal.loop-i-preserved
loop-i-preserved c =
    rising_step c.loop-i.word.items _ _ c.args.k c.loop-i.i (omega arith)
    (c.in_ok-push.ensures.items ∙ ap (λ x. c.loop-i.word.items ++ x ∷ []) c.new.ensures)
    c.loop-i.invariant
