use Rattle.std.proofs.Common.{◌≡◌, ◌∙◌, true, sym, subst}
use Rattle.wb_base.proofs.NameLemmas.{same_name, same_name-true, same_name-self}
use Rattle.wb_base.proofs.tests.is_same.Goals as goal

pub returns : goal.returns
returns c =
    let a = c.args.a.now in
    let b = c.args.b.now in (
      λ same. same_name-true a b (sym c.eq.ensures ∙ same),
      λ e. c.eq.ensures ∙ subst (λ z. same_name a z ≡ true) e (same_name-self a),
    )
