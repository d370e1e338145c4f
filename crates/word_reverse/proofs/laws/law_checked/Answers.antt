use Rattle.word_reverse.proofs.AcceptedLemmas.{IsValid-accepted}
use Rattle.word_reverse.proofs.CheckingLaws.{checked_of-IsAccepted}
use Rattle.word_reverse.proofs.laws.law_checked.Goals as goal

pub returns-clause-accepted : goal.returns-clause-accepted
returns-clause-accepted c = checked_of-IsAccepted

pub returns-clause-valid : goal.returns-clause-valid
returns-clause-valid c = IsValid-accepted
