use Rattle.std.proofs.Common.{◌++◌, ◌∙◌, sym, ap, subst, length, inl, inr, arith}
use Rattle.braid_word.specs.Order.{IsLess}
use Rattle.braid_word.specs.declared.TheConstants.{MAX_INDEX}
use Rattle.braid_word.proofs.WordLemmas.{on_word}
use Rattle.shift_braid.specs.Bracket.{bracket}
use Rattle.shift_braid.proofs.BracketLemmas.{length-bracket, less-bracket}
use Rattle.shift_braid.proofs.product.bracket.Goals.{then-not-is_low-via-then-not-is_low, then-not-is_low-via-else-not-is_low+then-not-is_low-2}
use Rattle.shift_braid.proofs.product.bracket.Goals as goal

pub returns-then-length-gt-MAX_LETTERS-clause-too_long
    : goal.returns-then-length-gt-MAX_LETTERS-clause-too_long
returns-then-length-gt-MAX_LETTERS-clause-too_long c =
    λ _. omega (arith, length-bracket c.args.a.now c.args.b.now)

pub returns-then-not-is_low-clause-index : goal.returns-then-not-is_low-clause-index
returns-then-not-is_low-clause-index c =
    λ _. (
      omega (arith, length-bracket c.args.a.now c.args.b.now),
      elim c.then-not-is_low.branch [
        | then-not-is_low-via-then-not-is_low w ↦ inl (c.is_low.ensures.high w.if-not-is_low.true)
        | then-not-is_low-via-else-not-is_low+then-not-is_low-2 w ↦
            inr (w.is_low-else-not-is_low.ensures.high w.if-not-is_low-2.true)
      ],
    )

pub returns-clause-less : goal.returns-clause-less
returns-clause-less c =
    let a = c.args.a.now in
    let b = c.args.b.now in
    let word = c.of.ensures ∙ c.in_ok-push_bracket.ensures
    ∙ ap (λ xs. xs ++ bracket a b) c.in_ok-letters.ensures.items in
    let word_a = on_word MAX_INDEX a (c.is_low.ensures.low c.if-not-is_low.false) in
    let word_b = on_word MAX_INDEX b (c.is_low-else-not-is_low.ensures.low c.if-not-is_low-2.false) in
    subst (IsLess a) (sym word) (less-bracket a b word_a word_b)

pub returns-clause-short : goal.returns-clause-short
returns-clause-short c =
    let a = c.args.a.now in
    let b = c.args.b.now in
    let word = c.of.ensures ∙ c.in_ok-push_bracket.ensures
    ∙ ap (λ xs. xs ++ bracket a b) c.in_ok-letters.ensures.items in
    let size = ap length word in
    omega (arith, length-bracket a b)
