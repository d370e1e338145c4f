use Rattle.ld_cert.proofs.CheckingLaws.{checked_of-IsAccepted}
use Rattle.ld_cert.proofs.laws.law_checked.Goals as goal

pub returns : goal.returns
returns c = checked_of-IsAccepted
