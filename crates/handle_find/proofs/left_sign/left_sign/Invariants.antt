-- The sign of the letters so far is known.
use Rattle.std.proofs.Common.{take}
use Rattle.handle_find.proofs.LeftSign.{Known}
use Rattle.handle_find.proofs.left_sign.left_sign.Given as goal

abbrev pub invariant-loop-k : goal.invariant-loop-k
invariant-loop-k l = Known l.sign l.least (take l.k l.letters.left)
