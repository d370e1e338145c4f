-- The indices that were passed are at most 254.
use Rattle.std.proofs.Common.{take}
use Rattle.braid_word.specs.Words.{IsOn}
use Rattle.braid_word.specs.declared.TheConstants.{MAX_INDEX}
use Rattle.shift_braid.proofs.product.is_low.Given as goal

abbrev pub invariant-loop-letter : goal.invariant-loop-letter
invariant-loop-letter l = IsOn MAX_INDEX (take l.letter-index l.word)
