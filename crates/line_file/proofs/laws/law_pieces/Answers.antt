use Rattle.line_file.proofs.PieceLaws.{fed-held_of, finished-held_of, length-held_of, checked_of-refused}
use Rattle.line_file.proofs.EarlyLaws.{held_of-IsEarlyRefusal, IsEarlyRefusal-held_of}
use Rattle.line_file.proofs.laws.law_pieces.Goals as goal

pub returns-clause-fed : goal.returns-clause-fed
returns-clause-fed g c = fed-held_of g.F.LineFormat.format

pub returns-clause-ended : goal.returns-clause-ended
returns-clause-ended g c = finished-held_of g.F.LineFormat.format

pub returns-clause-short : goal.returns-clause-short
returns-clause-short g c = length-held_of g.F.LineFormat.format

pub returns-clause-told : goal.returns-clause-told
returns-clause-told g c = λ bytes line why.
    let f = g.F.LineFormat.format in
    (held_of-IsEarlyRefusal f bytes line why, IsEarlyRefusal-held_of f bytes line why)

pub returns-clause-early : goal.returns-clause-early
returns-clause-early g c = checked_of-refused g.F.LineFormat.format
