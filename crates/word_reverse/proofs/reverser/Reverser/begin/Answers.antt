-- The buffer holds the letters of the word.
use Rattle.std.proofs.Common.{◌∙◌, length, ap, arith}
use Rattle.word_reverse.specs.Cursors.{whole}
use Rattle.word_reverse.proofs.ReverserLemmas.{IsRevAfter-long, IsRevAfter-short}
use Rattle.word_reverse.proofs.reverser.Reverser.begin.Goals as goal

pub returns-then-letters-limit : goal.returns-then-letters-limit
returns-then-letters-limit c =
    let held = ap whole c.in_ok-present.ensures in
    IsRevAfter-long _ _ _ _ _ (held ∙ c.letters-letters.ensures) c.new.ensures.items
    (omega (arith, ap length held, c.if-letters-limit.true))

pub returns : goal.returns
returns c =
    let held = c.settle-progress.ensures.word ∙ ap whole c.in_ok-present.ensures in
    IsRevAfter-short _ _ _ _ _ _ (held ∙ c.letters-letters.ensures) c.in_ok-places.ensures.items
    (omega (arith, ap length held, c.if-letters-limit.false)) c.settle-progress.ensures.progress
