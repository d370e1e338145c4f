-- The letters from a place on were put.
use Rattle.std.proofs.Common.{◌≡◌, ◌-◌, ◌++◌, length, drop}
use Rattle.gap_word.specs.Gap.{gap}
use Rattle.word_reverse.proofs.cursor.put_word.Given as goal

abbrev pub invariant-loop-k : goal.invariant-loop-k
invariant-loop-k l =
    l.word ≡ gap l.fn.word.left (drop l.k l.letters ++ l.fn.word.right)
    (l.fn.word.spare - (length l.letters - l.k))
