-- What is answered of two words is one.
--
-- Greatest common divisors are equivalent, and so is what they leave of the words; and equivalent words that
-- normal forms spell are one word.
use Rattle.std.proofs.Common.{ℕ, ◌≡◌, ◌≤◌, ◌∙◌, pos, List, ◌++◌, sym, ap, subst}
use Rattle.braid_word.specs.Words.{Letter}
use Rattle.braid_word.specs.Equivalence.{EquivalentOn}
use Rattle.braid_word.proofs.EquivalenceLemmas.{EquivalentOn-trans, EquivalentOn-sym, EquivalentOn-cancel}
use Rattle.garside_form.specs.NormalForms.{delta_power, IsProduct}
use Rattle.garside_form.proofs.UniqueLemmas.{IsNormal-unique, product_unique}
use Rattle.braid_gcd.specs.NormalWords.{IsNormalWord, IsAnswerOf}
use Rattle.braid_gcd.proofs.GreatestLemmas.{IsGreatest-unique, IsGreatest-equivalent}

-- equivalent words that normal forms spell are one
IsNormalWord-unique
    : {n : ℕ} {u v : List Letter}
    → 2 ≤ n
    → IsNormalWord n u
    → IsNormalWord n v
    → EquivalentOn n u v
    → u ≡ v
IsNormalWord-unique {n} {u} {v} two first second same =
    let (powers, factors) =
    IsNormal-unique two first.normal second.normal first.spelled second.spelled same in
    let rest : IsProduct n second.factors first.spelled.rest =
    subst (λ ps. IsProduct n ps first.spelled.rest) factors first.spelled.product in
    first.spelled.is
    ∙ (ap (λ d. delta_power n d ++ first.spelled.rest) powers
    ∙ (ap (λ t. delta_power n (pos second.power) ++ t) (product_unique rest second.spelled.product)
    ∙ sym second.spelled.is))

-- what a divisor leaves of equivalent words is one
left_only
    : {n : ℕ} (g : List Letter) {u s a b : List Letter}
    → 2 ≤ n
    → EquivalentOn n u s
    → IsNormalWord n a
    → IsNormalWord n b
    → EquivalentOn n (g ++ a) u
    → EquivalentOn n (g ++ b) s
    → a ≡ b
left_only {n} g {u} {s} {a} {b} two same first second one other =
    IsNormalWord-unique two first second
    (EquivalentOn-cancel g a b (EquivalentOn-trans one (EquivalentOn-trans same (EquivalentOn-sym other))))

-- what is answered of equivalent words is one
pub IsAnswerOf-unique
    : {n : ℕ} {u v s t g a b h c d : List Letter}
    → 2 ≤ n
    → EquivalentOn n u s
    → EquivalentOn n v t
    → IsAnswerOf n u v g a b
    → IsAnswerOf n s t h c d
    → (g ≡ h) × (a ≡ c) × (b ≡ d)
IsAnswerOf-unique {n} {u} {v} {s} {t} {g} {a} {b} {h} {c} {d} two first second one other =
    let divisors : g ≡ h =
    IsNormalWord-unique two one.divisor other.divisor
    (IsGreatest-unique (IsGreatest-equivalent first second one.greatest) other.greatest) in
    let left : EquivalentOn n (g ++ c) s =
    subst (λ e. EquivalentOn n (e ++ c) s) (sym divisors) other.first in
    let right : EquivalentOn n (g ++ d) t =
    subst (λ e. EquivalentOn n (e ++ d) t) (sym divisors) other.second in (
      divisors,
      left_only g two first one.left other.left one.first left,
      left_only g two second one.right other.right one.second right,
    )
