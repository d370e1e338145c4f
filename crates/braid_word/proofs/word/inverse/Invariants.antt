use Rattle.std.proofs.Common.{◌≡◌, drop}
use Rattle.braid_word.specs.Words.{inverse}
use Rattle.braid_word.proofs.word.inverse.Given as goal

abbrev pub invariant-loop-k : goal.invariant-loop-k
invariant-loop-k l = l.letters.items ≡ inverse (drop l.k l.u)
