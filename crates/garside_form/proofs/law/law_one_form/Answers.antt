use Rattle.std.proofs.Common.{sym}
use Rattle.garside_form.proofs.NormalLemmas.{form_only, form_equivalent}
use Rattle.garside_form.proofs.law.law_one_form.Goals as goal

pub returns-clause-one : goal.returns-clause-one
returns-clause-one c = λ f g u two same one other. form_only g f u (rw (sym same) two) other same one

pub returns-clause-equivalent : goal.returns-clause-equivalent
returns-clause-equivalent c = λ f g u v two same one other. form_equivalent f g u v two same one other
