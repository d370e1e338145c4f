use Rattle.artin_laws.proofs.ActionLemmas.{IsReduced-act}
use Rattle.artin_laws.proofs.LarueLemmas.{EndsIn-positive}
use Rattle.artin_laws.proofs.laws.law_larue.Goals as goal

pub returns-clause-ends : goal.returns-clause-ends
returns-clause-ends c = EndsIn-positive c.args.i c.args.word.now

pub returns-clause-reduced : goal.returns-clause-reduced
returns-clause-reduced c = IsReduced-act c.args.word.now _ tt
