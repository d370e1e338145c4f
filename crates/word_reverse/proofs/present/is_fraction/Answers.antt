use Rattle.std.proofs.Common.{◌++◌, refl, sym, ap, length, length-append, arith}
use Rattle.braid_word.specs.Words.{inverse}
use Rattle.braid_word.proofs.WordLemmas.{length-inverse}
use Rattle.word_reverse.specs.Cursors.{whole}
use Rattle.word_reverse.proofs.PresentLemmas.{agreeing_words}
use Rattle.word_reverse.proofs.present.is_fraction.Goals as goal

pub returns-then-left_len-right_len : goal.returns-then-left_len-right_len
returns-then-left_len-right_len c = (
  λ no. absurd cc,
  λ same.
      let sides = length-append c.args.letters.now.left c.args.letters.now.right in
      let parts = length-append c.args.u.now (inverse c.args.v.now) in
      absurd
      (omega (
        arith,
        ap length same,
        sides,
        parts,
        length-inverse c.args.v.now,
        c.left_len.ensures.value,
        c.right_len.ensures.value,
        c.if-left_len-right_len.true,
      )),
)

pub returns : goal.returns
returns c = (
  λ yes.
      let sides = length-append c.args.letters.now.left c.args.letters.now.right in
      let parts = length-append c.args.u.now (inverse c.args.v.now) in
      let size = length-inverse c.args.v.now in
      sym
      (agreeing_words (c.args.u.now ++ inverse c.args.v.now) (whole c.args.letters.now)
      (omega (
        arith,
        sides,
        parts,
        size,
        c.left_len.ensures.value,
        c.right_len.ensures.value,
        c.if-left_len-right_len.false,
      ))
      (λ k below. c.loop-k.invariant k (omega (arith, below, parts, size, c.loop-k.auto.k-end)))),
  λ same. refl,
)
