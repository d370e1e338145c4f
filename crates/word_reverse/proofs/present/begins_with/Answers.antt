use Rattle.std.proofs.Common.{refl, arith}
use Rattle.word_reverse.specs.Cursors.{whole}
use Rattle.word_reverse.proofs.PresentLemmas.{agreeing_front}
use Rattle.word_reverse.proofs.present.begins_with.Goals as goal

pub returns : goal.returns
returns c = (
  λ yes.
      agreeing_front c.args.word.now (whole c.args.letters.now) c.requires
      (λ k below. c.loop-k.invariant k (omega (arith, below, c.loop-k.auto.k-end))),
  λ same. refl,
)
