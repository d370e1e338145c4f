use Rattle.braid_word.specs.Equivalence.{stay}
use Rattle.braid_word.proofs.EquivalenceLemmas.{on_last}
use Rattle.braid_gcd.proofs.AnswerLemmas.{IsAnswerOf-unique}
use Rattle.braid_gcd.proofs.divide.gcd.Goals as goal

pub returns-clause-only : goal.returns-clause-only
returns-clause-only c = λ g a b other.
    let made = c.in_ok-common_divisor.ensures in
    IsAnswerOf-unique c.requires.low (stay (on_last made.first)) (stay (on_last made.second)) made other
