use Rattle.std.proofs.Common.{[], refl, arith}
use Rattle.std.proofs.lemmas.List.{ext_get_or}
use Rattle.garside_form.proofs.form.same_factors.Goals as goal

pub returns : goal.returns
returns c = (
  λ yes. ext_get_or [] c.args.a.now c.args.b.now c.if-a-b.false
      (λ k within. c.loop-k.invariant k (omega (arith, within, c.loop-k-test.false, c.loop-k.auto.k-end))),
  λ is. refl,
)
