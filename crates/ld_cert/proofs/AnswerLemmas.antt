-- What a right certificate shows.
--
-- A yes shows that its terms are equivalent (`yes-IsEquivalent`), and a no that they aren't
-- (`no-IsEquivalent`). The path of a term is a yes (`path-IsRight`).
use Rattle.std.proofs.Common.{ℕ, List, refl}
use Rattle.ld_term.specs.Terms.{Term, derived, IsEquivalent}
use Rattle.ld_term.proofs.TermLemmas.{IsEquivalent-trans, IsEquivalent-sym}
use Rattle.term_eval.proofs.ValueLemmas.{value_of-IsEquivalent}
use Rattle.ld_cert.specs.Certificates.{yes_by, no_by, IsRight, IsRightOf, path_certificate}
use Rattle.ld_cert.proofs.AlongLemmas.{along_equivalent, along_path}

-- terms that become one term are equivalent
pub yes-IsEquivalent
    : (t u : Term) (left right : List (List ℕ))
    → IsRightOf t u (yes_by left right)
    → IsEquivalent t u
yes-IsEquivalent t u left right (v, one, two) =
    IsEquivalent-trans (along_equivalent left t v one) (IsEquivalent-sym (along_equivalent right u v two))

-- terms with different values in a Laver table aren't
pub no-IsEquivalent : (t u : Term) (n : ℕ) → IsRightOf t u (no_by n) → IsEquivalent t u → ⊥
no-IsEquivalent t u n (rows, laver, differ) equivalent =
    differ (value_of-IsEquivalent n rows t u laver equivalent)

-- the path of a term leads to its derived term
pub path-IsRight : (t : Term) → IsRight (path_certificate t)
path-IsRight t = (derived t, along_path t, refl)
