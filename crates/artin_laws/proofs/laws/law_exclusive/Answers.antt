use Rattle.artin_laws.proofs.ExclusionLemmas.{less_equal, less_greater, equal_greater}
use Rattle.artin_laws.proofs.laws.law_exclusive.Goals as goal

pub returns-clause-less_equal : goal.returns-clause-less_equal
returns-clause-less_equal c = less_equal c.args.u.now c.args.v.now

pub returns-clause-less_greater : goal.returns-clause-less_greater
returns-clause-less_greater c = less_greater c.args.u.now c.args.v.now

pub returns-clause-equal_greater : goal.returns-clause-equal_greater
returns-clause-equal_greater c = equal_greater c.args.u.now c.args.v.now
