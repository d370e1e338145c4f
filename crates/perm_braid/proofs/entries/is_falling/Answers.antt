use Rattle.std.proofs.Common.{refl, arith, sym, ◌∙◌}
use Rattle.std.proofs.lemmas.Bool.{false≢true}
use Rattle.perm_braid.proofs.ScanLemmas.{falling_more, falling_all, falling_not}
use Rattle.perm_braid.proofs.entries.is_falling.Goals as goal

pub returns-then-from-numbers : goal.returns-then-from-numbers
returns-then-from-numbers c = (
  λ no. absurd (false≢true no),
  λ is. absurd (falling_not c.args.numbers.now c.loop-k.k c.loop-k-test.true
      (λ e. c.if-from-numbers.true (c.from.ensures ∙ e)) is),
)

pub loop-k-preserved : goal.loop-k-preserved
loop-k-preserved c =
    falling_more c.args.numbers.now c.loop-k.k c.loop-k.invariant
    (sym c.from.ensures ∙ c.if-from-numbers.false)

pub returns : goal.returns
returns c = (
  λ yes. falling_all c.args.numbers.now c.loop-k.k c.loop-k.invariant
      (omega (arith, c.loop-k-test.false, c.loop-k.auto.k-end)),
  λ is. refl,
)
