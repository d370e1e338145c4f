use Rattle.std.proofs.Common.{arith}
use Rattle.braid_word.proofs.SignLemmas.{sign_of-take, Positive-iff, Negative-iff, Mixed-iff, Empty-iff}
use Rattle.braid_word.proofs.sign.sign_of.Goals as goal

pub returns-clause-positive : goal.returns-clause-positive
returns-clause-positive c =
    Positive-iff c.loop-letter.sign c.args.letters.now
    (sign_of-take c.loop-letter.sign _ c.loop-letter.letter-index c.loop-letter.invariant (omega arith))

pub returns-clause-negative : goal.returns-clause-negative
returns-clause-negative c =
    Negative-iff c.loop-letter.sign c.args.letters.now
    (sign_of-take c.loop-letter.sign _ c.loop-letter.letter-index c.loop-letter.invariant (omega arith))

pub returns-clause-mixed : goal.returns-clause-mixed
returns-clause-mixed c =
    Mixed-iff c.loop-letter.sign c.args.letters.now
    (sign_of-take c.loop-letter.sign _ c.loop-letter.letter-index c.loop-letter.invariant (omega arith))

pub returns-clause-empty : goal.returns-clause-empty
returns-clause-empty c =
    Empty-iff c.loop-letter.sign c.args.letters.now
    (sign_of-take c.loop-letter.sign _ c.loop-letter.letter-index c.loop-letter.invariant (omega arith))
