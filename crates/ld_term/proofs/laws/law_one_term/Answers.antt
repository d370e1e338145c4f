use Rattle.ld_term.specs.Grammar.{IsTerm}
use Rattle.ld_term.proofs.ReadingLemmas.{text-unique}
use Rattle.ld_term.proofs.LawLemmas.{fault-none}
use Rattle.ld_term.proofs.laws.law_one_term.Goals as goal

pub returns-clause-one : goal.returns-clause-one
returns-clause-one c = λ t u one other. text-unique c.args.strict _ t u one other

pub returns-clause-fault : goal.returns-clause-fault
returns-clause-fault c = λ place fault t text. fault-none (IsTerm c.args.strict) _ _ place fault (t, text)
