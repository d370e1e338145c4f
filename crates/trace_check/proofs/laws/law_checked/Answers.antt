use Rattle.trace_check.proofs.AcceptedLemmas.{IsValid-accepted}
use Rattle.trace_check.proofs.CheckingLaws.{checked_of-IsAccepted}
use Rattle.trace_check.proofs.laws.law_checked.Goals as goal

pub returns-clause-accepted : goal.returns-clause-accepted
returns-clause-accepted c = checked_of-IsAccepted

pub returns-clause-valid : goal.returns-clause-valid
returns-clause-valid c = IsValid-accepted
