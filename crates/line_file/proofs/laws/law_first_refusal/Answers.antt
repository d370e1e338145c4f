use Rattle.line_file.proofs.RefusalLaws.{checked_of-IsClaimed, IsClaimed-checked_of, checked_of-IsFirstRefusal, IsFirstRefusal-checked_of, IsFirstRefusal-unique, HasNoRefusal-IsClaimed}
use Rattle.line_file.proofs.laws.law_first_refusal.Goals as goal

pub returns-clause-claimed : goal.returns-clause-claimed
returns-clause-claimed g c = λ bytes claim.
    let f = g.F.LineFormat.format in (checked_of-IsClaimed f bytes claim, IsClaimed-checked_of f bytes claim)

pub returns-clause-refused : goal.returns-clause-refused
returns-clause-refused g c = λ bytes line why.
    let f = g.F.LineFormat.format in
    (checked_of-IsFirstRefusal f bytes line why, IsFirstRefusal-checked_of f bytes line why)

pub returns-clause-one : goal.returns-clause-one
returns-clause-one g c = IsFirstRefusal-unique g.F.LineFormat.format

pub returns-clause-unrefused : goal.returns-clause-unrefused
returns-clause-unrefused g c = HasNoRefusal-IsClaimed g.F.LineFormat.format
