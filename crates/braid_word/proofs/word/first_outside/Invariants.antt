use Rattle.std.proofs.Common.{take}
use Rattle.braid_word.specs.Words.{IsOn}
use Rattle.braid_word.proofs.word.first_outside.Given as goal

-- The letters before this one are on so many strands.
abbrev pub invariant-loop-k : goal.invariant-loop-k
invariant-loop-k l = IsOn l.strands (take l.k l.letters)
