use Rattle.std.proofs.Common.{refl, arith, sym, ◌∙◌}
use Rattle.std.proofs.lemmas.Bool.{false≢true}
use Rattle.perm_braid.proofs.ScanLemmas.{rising_more, rising_all, rising_not}
use Rattle.perm_braid.proofs.entries.is_rising.Goals as goal

pub returns-then-from-k : goal.returns-then-from-k
returns-then-from-k c = (
  λ no. absurd (false≢true no),
  λ is. absurd (rising_not c.args.numbers.now c.loop-k.k c.loop-k-test.true
      (λ e. c.if-from-k.true (c.from.ensures ∙ e)) is),
)

pub loop-k-preserved : goal.loop-k-preserved
loop-k-preserved c =
    rising_more c.args.numbers.now c.loop-k.k c.loop-k.invariant (sym c.from.ensures ∙ c.if-from-k.false)

pub returns : goal.returns
returns c = (
  λ yes. rising_all c.args.numbers.now c.loop-k.k c.loop-k.invariant
      (omega (arith, c.loop-k-test.false, c.loop-k.auto.k-end)),
  λ is. refl,
)
