-- The letters before this one are positive.
use Rattle.std.proofs.Common.{take}
use Rattle.braid_word.specs.Words.{IsPositiveWord}
use Rattle.word_reverse.specs.Cursors.{whole}
use Rattle.word_reverse.proofs.cursor.front_len.Given as goal

abbrev pub invariant-loop-k : goal.invariant-loop-k
invariant-loop-k l = IsPositiveWord (take l.k (whole l.word))
