use Rattle.ld_cert.proofs.CertificateLaws.{IsAccepted-unique}
use Rattle.ld_cert.proofs.RefusalLaws.{IfOk-accepted, Gives-accepted, IfOk-yes, IfOk-no, IfRefused-first, Gives-first, HasNoRefusal-accepted}
use Rattle.ld_cert.proofs.file.check_ld.Goals as goal

pub returns-clause-accepted : goal.returns-clause-accepted
returns-clause-accepted c = IfOk-accepted c.args.bytes.now _ c.check_file.ensures

pub returns-clause-yes : goal.returns-clause-yes
returns-clause-yes c = IfOk-yes c.args.bytes.now _ c.check_file.ensures

pub returns-clause-no : goal.returns-clause-no
returns-clause-no c = IfOk-no c.args.bytes.now _ c.check_file.ensures

pub returns-clause-only : goal.returns-clause-only
returns-clause-only c = Gives-accepted c.args.bytes.now _ c.check_file.ensures

pub returns-clause-one : goal.returns-clause-one
returns-clause-one c = IsAccepted-unique c.args.bytes.now

pub returns-clause-refused : goal.returns-clause-refused
returns-clause-refused c = IfRefused-first c.args.bytes.now _ c.check_file.ensures

pub returns-clause-first : goal.returns-clause-first
returns-clause-first c = Gives-first c.args.bytes.now _ c.check_file.ensures

pub returns-clause-unrefused : goal.returns-clause-unrefused
returns-clause-unrefused c = HasNoRefusal-accepted c.args.bytes.now
