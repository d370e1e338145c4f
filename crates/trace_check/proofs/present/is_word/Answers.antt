use Rattle.std.proofs.Common.{refl, length-append, arith}
use Rattle.trace_check.proofs.KeepLemmas.{agreeing_words}
use Rattle.trace_check.proofs.present.is_word.Goals as goal

pub returns : goal.returns
returns c = (
  λ yes.
      let sides = length-append c.args.letters.now.left c.args.letters.now.right in
      agreeing_words _ _ (omega (arith, sides, c.if-word-left_len.false))
      (λ k below. c.loop-k.invariant k (omega (arith, below, c.loop-k.auto.k-end))),
  λ same. refl,
)
