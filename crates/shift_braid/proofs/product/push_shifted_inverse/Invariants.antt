-- The inverses of the letters from this one to the last are written, shifted.
use Rattle.std.proofs.Common.{◌≡◌, ◌++◌, drop}
use Rattle.braid_word.specs.Words.{inverse, shift}
use Rattle.shift_braid.proofs.product.push_shifted_inverse.Given as goal

abbrev pub invariant-loop-k : goal.invariant-loop-k
invariant-loop-k l = l.letters.items ≡ l.fn.letters.items ++ inverse (shift (drop l.k l.word))
