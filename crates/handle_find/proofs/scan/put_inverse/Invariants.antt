-- The letters before this one were put.
use Rattle.std.proofs.Common.{◌≡◌, ◌-◌, ◌++◌, length, take}
use Rattle.braid_word.specs.Words.{inverse}
use Rattle.gap_word.specs.Gap.{gap}
use Rattle.handle_find.proofs.scan.put_inverse.Given as goal

abbrev pub invariant-loop-letter : goal.invariant-loop-letter
invariant-loop-letter l =
    l.letters ≡ gap l.fn.letters.left (inverse (take l.letter-index l.word) ++ l.fn.letters.right)
    (l.fn.letters.spare - l.letter-index)
