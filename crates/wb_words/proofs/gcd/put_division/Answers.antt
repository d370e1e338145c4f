use Rattle.std.proofs.Common.{◌++◌, codes, append_assoc, refl}
use Rattle.wb_base.proofs.StreamLemmas.{Puts-stopped, Puts-stopped_after, Puts-more, append_known-two}
use Rattle.wb_words.specs.GreatestDivisor.{named_word}
use Rattle.wb_words.proofs.gcd.put_division.Goals as goal

pub returns-in_err-put_word_line-clause-took : goal.returns-in_err-put_word_line-clause-took
returns-in_err-put_word_line-clause-took g c =
    let a = named_word (codes "divisor") c.args.found.now.divisor in
    let b = named_word (codes "left") c.args.found.now.left in
    let d = named_word (codes "right") c.args.found.now.right in
    Puts-stopped _ _ _ _ a (b ++ d) (append_assoc a b d) c.from_residual.ensures.0
    (rw c.divisor.ensures at c.in_err-put_word_line.ensures.took)

pub returns-in_err-put_word_line-2-clause-took : goal.returns-in_err-put_word_line-2-clause-took
returns-in_err-put_word_line-2-clause-took g c =
    let a = named_word (codes "divisor") c.args.found.now.divisor in
    let b = named_word (codes "left") c.args.found.now.left in
    let d = named_word (codes "right") c.args.found.now.right in
    Puts-stopped_after _ _ _ _ _ a b d refl c.from_residual-in_err-put_word_line-2.ensures.0
    (rw c.divisor.ensures at c.in_ok-put_word_line.ensures.took)
    (rw c.left.ensures at c.in_err-put_word_line-2.ensures.took)

pub returns-clause-took : goal.returns-clause-took
returns-clause-took g c =
    let a = named_word (codes "divisor") c.args.found.now.divisor in
    let b = named_word (codes "left") c.args.found.now.left in
    let d = named_word (codes "right") c.args.found.now.right in
    Puts-more _ _ _ _ _ (a ++ b) d refl
    (append_known-two _ _ _ a b (rw c.divisor.ensures at c.in_ok-put_word_line.ensures.took)
    (rw c.left.ensures at c.in_ok-put_word_line-2.ensures.took))
    (rw c.right.ensures at c.put_word_line-3.ensures.took)
