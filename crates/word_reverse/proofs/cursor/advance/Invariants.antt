-- The word and its room stay, and no corner was passed.
use Rattle.std.proofs.Common.{◌≡◌, None, length}
use Rattle.gap_word.specs.Gap.{room}
use Rattle.word_reverse.specs.Corners.{corner_of}
use Rattle.word_reverse.specs.Cursors.{whole}
use Rattle.word_reverse.proofs.cursor.advance.Given as goal

abbrev pub invariant-passing : goal.invariant-passing
invariant-passing l = record {
  passed : corner_of l.word.left ≡ None;
  word : whole l.word ≡ whole l.fn.word;
  room : room l.word ≡ room l.fn.word;
}

abbrev pub decreases-passing : goal.decreases-passing
decreases-passing l = length l.word.right
