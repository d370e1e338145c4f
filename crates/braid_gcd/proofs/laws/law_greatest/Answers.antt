use Rattle.braid_gcd.proofs.GreatestLemmas.{greatest_exists, IsGreatest-unique}
use Rattle.braid_gcd.proofs.AnswerLemmas.{IsAnswerOf-unique}
use Rattle.braid_gcd.proofs.CommonLemmas.{normal_positive}
use Rattle.braid_gcd.proofs.laws.law_greatest.Goals as goal

pub returns-clause-exists : goal.returns-clause-exists
returns-clause-exists c = λ n u v on_u on_v in_u in_v. greatest_exists on_u on_v in_u in_v

pub returns-clause-unique : goal.returns-clause-unique
returns-clause-unique c = λ n u v g h first second. IsGreatest-unique first second

pub returns-clause-positive : goal.returns-clause-positive
returns-clause-positive c = λ n w normal. normal_positive normal

pub returns-clause-one : goal.returns-clause-one
returns-clause-one c = λ n u v s t g a b h x y two. IsAnswerOf-unique two
