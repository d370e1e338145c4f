-- The letters that were passed are written, shifted.
use Rattle.std.proofs.Common.{◌≡◌, ◌++◌, take}
use Rattle.braid_word.specs.Words.{shift}
use Rattle.shift_braid.proofs.product.push_shifted.Given as goal

abbrev pub invariant-loop-letter : goal.invariant-loop-letter
invariant-loop-letter l = l.letters.items ≡ l.fn.letters.items ++ shift (take l.letter-index l.word)
