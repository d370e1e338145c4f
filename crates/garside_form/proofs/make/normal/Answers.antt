use Rattle.std.proofs.Common.{◌≡◌, ◌∙◌, sym, arith}
use Rattle.std.proofs.lemmas.Result.{err_from_is_err_and}
use Rattle.garside_form.specs.declared.error.NormalErr.TheVariants.{Memory}
use Rattle.garside_form.proofs.NormalLemmas.{form_only}
use Rattle.garside_form.proofs.make.normal.Goals as goal

pub returns-in-Some-clause-refused : goal.returns-in-Some-clause-refused
returns-in-Some-clause-refused c = rw (sym c.in-Some.ensures.place) (λ place. (λ e. cc, λ first. cc))

pub returns-in_err-normal_on-clause-refused : goal.returns-in_err-normal_on-clause-refused
returns-in_err-normal_on-clause-refused c = rw (sym c.in_default.ensures.place) (λ place. (
  λ e. let (why, is, memory) = err_from_is_err_and c.from_residual.result c.from_residual.ensures.1 in
      let told : why ≡ Memory = memory in
      absurd cc,
  λ first. absurd cc,
))

pub returns-clause-only : goal.returns-clause-only
returns-clause-only c = λ g same other.
    let made = c.in_ok-normal_on.ensures in
    form_only c.in_ok-normal_on.field-0 g c.args.word.now (omega (arith, made.strands, c.requires.low))
    made.form
    (same ∙ sym made.strands) other

pub returns-clause-refused : goal.returns-clause-refused
returns-clause-refused c = rw (sym c.in_default.ensures.place) (λ place. (λ e. absurd cc, λ first. absurd cc))
