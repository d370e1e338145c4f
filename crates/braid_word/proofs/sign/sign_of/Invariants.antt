-- The letters so far have this sign.
use Rattle.std.proofs.Common.{◌≡◌, take}
use Rattle.braid_word.specs.Sign.{sign_of}
use Rattle.braid_word.proofs.sign.sign_of.Given as goal

abbrev pub invariant-loop-letter : goal.invariant-loop-letter
invariant-loop-letter l = l.sign ≡ sign_of (take l.letter-index l.letters)
