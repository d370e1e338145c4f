use Rattle.std.proofs.Common.{◌≡◌, drop}
use Rattle.free_word.specs.FreeWords.{inverse}
use Rattle.free_word.proofs.word.inverse_of.Given as goal

abbrev pub invariant-loop-k : goal.invariant-loop-k
invariant-loop-k l = l.letters.items ≡ inverse (drop l.k l.word)
