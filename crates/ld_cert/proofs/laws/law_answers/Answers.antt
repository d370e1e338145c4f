use Rattle.ld_cert.proofs.AnswerLemmas.{yes-IsEquivalent, no-IsEquivalent, path-IsRight}
use Rattle.ld_cert.proofs.laws.law_answers.Goals as goal

pub returns-clause-yes : goal.returns-clause-yes
returns-clause-yes c = yes-IsEquivalent

pub returns-clause-no : goal.returns-clause-no
returns-clause-no c = no-IsEquivalent

pub returns-clause-one : goal.returns-clause-one
returns-clause-one c = λ t u left right n yes no. no-IsEquivalent t u n no (yes-IsEquivalent t u left right yes)

pub returns-clause-path : goal.returns-clause-path
returns-clause-path c = path-IsRight
