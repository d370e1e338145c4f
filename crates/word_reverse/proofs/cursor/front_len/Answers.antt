-- The letters so far are positive; the front ends at the first that isn't, or with the word.
use Rattle.std.proofs.Common.{sym, ap, ◌∙◌, arith, length-append}
use Rattle.braid_word.specs.Words.{Letter}
use Rattle.word_reverse.proofs.FractionLemmas.{positive_next, length-front_here, length-front_whole}
use Rattle.word_reverse.proofs.cursor.front_len.Goals as goal

pub returns-then-letter : goal.returns-then-letter
returns-then-letter c =
    length-front_here _ _ _ c.letter_at-letter.ensures
    (ap (λ (x : Letter). x.negative) (sym c.letter.view_is) ∙ c.if-letter.true) c.loop-k.invariant

pub loop-k-preserved : goal.loop-k-preserved
loop-k-preserved c =
    positive_next _ _ _ c.letter_at-letter.ensures
    (ap (λ (x : Letter). x.negative) (sym c.letter.view_is) ∙ c.if-letter.false) c.loop-k.invariant

pub returns : goal.returns
returns c =
    let len = length-append c.args.word.now.left c.args.word.now.right in
    length-front_whole _ c.loop-k.k _
    (omega (arith, len, c.left_len.ensures.value, c.right_len.ensures.value))
    (omega (arith, c.loop-k-test.false)) c.loop-k.invariant
