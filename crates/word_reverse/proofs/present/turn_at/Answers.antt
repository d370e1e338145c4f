use Rattle.std.proofs.Common.{sym, length-append, arith}
use Rattle.word_reverse.specs.Cursors.{whole}
use Rattle.word_reverse.proofs.PresentLemmas.{stepped-past}
use Rattle.word_reverse.proofs.present.turn_at.Goals as goal

pub returns-then-place-left_len-clause-word : goal.returns-then-place-left_len-clause-word
returns-then-place-left_len-clause-word c =
    let sides = length-append c.args.letters.now.left c.args.letters.now.right in
    sym (stepped-past (whole c.args.letters.now) c.args.place c.requires.place.0
    (omega (arith, sides, c.left_len.ensures.value, c.right_len.ensures.value, c.if-place-left_len.true)))
