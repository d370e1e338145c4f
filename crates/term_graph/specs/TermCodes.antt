-- The code by which a proof tells terms apart. No public clause cites it.
--
--   coded_term   the code of terms
use Rattle.std.specs.Prelude.{◌≡◌}
use Rattle.std.proofs.Common.{refl, ap, sym, subst}
use base.Stored.{Gv, gnil, gnum, gcons, Coded}
use Rattle.ld_term.specs.Terms.{Term, variable, multiply}

-- The code of a term: x is nothing, and a product the pair of its parts.
abbrev pub code_term : Term → Gv
code_term variable = gnil
code_term (multiply t u) = gcons (code_term t) (code_term u)

abbrev first : Gv → Gv
first gnil = gnil
first (gnum n) = gnil
first (gcons a b) = a

abbrev second : Gv → Gv
second gnil = gnil
second (gnum n) = gnil
second (gcons a b) = b

abbrev IsPair : Gv → Type 0
IsPair gnil = ⊥
IsPair (gnum n) = ⊥
IsPair (gcons a b) = Unit {0}

-- Terms with one code are one term.
pub code_term-inj : (t u : Term) → code_term t ≡ code_term u → t ≡ u
code_term-inj variable variable p = refl
code_term-inj variable (multiply a b) p = absurd (subst IsPair (sym p) tt)
code_term-inj (multiply a b) variable p = absurd (subst IsPair p tt)
code_term-inj (multiply a b) (multiply c d) p =
    λ i. multiply (code_term-inj a c (ap first p) i) (code_term-inj b d (ap second p) i)

-- The code of terms.
abbrev pub coded_term : Coded Term
coded_term = record { code = code_term; inj = code_term-inj }
