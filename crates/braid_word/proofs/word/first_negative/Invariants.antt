use Rattle.std.proofs.Common.{take}
use Rattle.braid_word.specs.Words.{IsPositiveWord}
use Rattle.braid_word.proofs.word.first_negative.Given as goal

-- The letters before this one are positive.
abbrev pub invariant-loop-k : goal.invariant-loop-k
invariant-loop-k l = IsPositiveWord (take l.k l.letters)
