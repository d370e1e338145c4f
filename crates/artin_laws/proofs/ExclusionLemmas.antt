-- No two of the verdicts less, equal and greater hold of two words.
--
-- The product of sigma-positive words is sigma-positive. By Larue's lemma a sigma-positive word
-- isn't equivalent to the empty word, which sends x_i to x_i. If two verdicts held of u and v, a
-- word that is sigma-positive, or the product of two such words, would be equivalent to the empty
-- word (`less_equal`, `equal_greater`, `less_greater`).
use Rattle.std.proofs.Common.{ℕ, ◌≡◌, inl, inr, ◌<◌, ◌≤◌, ◌∙◌, true, false, List, [], ◌∷◌, ◌++◌, refl, sym, ap, subst, arith}
use Rattle.std.proofs.lemmas.Bool.{false≢true, cases_order}
use Rattle.braid_word.specs.Words.{Letter, inverse, quotient, EachLetter}
use Rattle.braid_word.specs.Equivalence.{Equivalent}
use Rattle.braid_word.specs.Order.{IsSigmaPositiveAt, IsSigmaPositive, IsLess, IsEqual, IsGreater}
use Rattle.braid_word.proofs.WordLemmas.{each_append, each_weaker, some_left, some_right}
use Rattle.braid_word.proofs.EquivalenceLemmas.{Equivalent-sym, Equivalent-trans, Equivalent-append, Equivalent-inverse, Equivalent-append_inverse, Equivalent-word_right}
use Rattle.free_word.specs.FreeWords.{gen}
use Rattle.artin_laws.specs.Action.{EndsIn}
use Rattle.artin_laws.proofs.RelationLemmas.{ActAlike-equivalent}
use Rattle.artin_laws.proofs.LarueLemmas.{MayStand, first_unique, EndsIn-positive}

-- ---- Products of positive words ----

-- a letter of greater index may stand in a word that is positive at i
may_stand_higher : (i j : ℕ) → i < j → (x : Letter) → MayStand j x → MayStand i x
may_stand_higher i j below x may = (omega arith, λ e. higher (ap (λ z. z.index) e) may.0)
  where
    higher : x.index ≡ i → j ≤ x.index → ⊥
    higher own low = omega arith

-- letters of greater index may stand in a word that is positive at i
each_higher
    : (i j : ℕ) (w : List Letter)
    → i < j
    → EachLetter (MayStand j) w
    → EachLetter (MayStand i) w
each_higher i j w below = each_weaker (MayStand j) (MayStand i) (may_stand_higher i j below) w

-- the product of a word that is positive at i and one that is so at j
positive_product
    : (i j : ℕ) (u v : List Letter)
    → IsSigmaPositiveAt i u
    → IsSigmaPositiveAt j v
    → IsSigmaPositive (u ++ v)
positive_product i j u v one two = elim (cases_order i j) [
  | inl same ↦
      let own : IsSigmaPositiveAt i v = subst (λ k. IsSigmaPositiveAt k v) (sym same) two in
      (i, (some_left _ u v one.0, each_append (MayStand i) u v one.1 own.1))
  | inr (inl below) ↦
      let each = each_append (MayStand i) u v one.1 (each_higher i j v below two.1) in
      (i, (some_left _ u v one.0, each))
  | inr (inr below) ↦
      let each = each_append (MayStand j) u v (each_higher j i u below one.1) two.1 in
      (j, (some_right _ u v two.0, each))
]

-- the product of sigma-positive words is sigma-positive
pub IsSigmaPositive-append
    : (u v : List Letter)
    → IsSigmaPositive u
    → IsSigmaPositive v
    → IsSigmaPositive (u ++ v)
IsSigmaPositive-append u v (i, one) (j, two) = positive_product i j u v one two

-- ---- Positive words aren't trivial ----

-- a generator alone doesn't end in its inverse
generator_ends : (i : ℕ) → EndsIn (gen i true) (gen i false ∷ []) → ⊥
generator_ends i ([], e) =
    let same : gen i false ≡ gen i true = first_unique refl e in
    false≢true (ap (λ z. z.negative) same)
generator_ends i (x ∷ [], e) = cc
generator_ends i (x ∷ (y ∷ h), e) = cc

-- no sigma-positive word is equivalent to the empty word
pub IsSigmaPositive-nontrivial : (w : List Letter) → IsSigmaPositive w → Equivalent w [] → ⊥
IsSigmaPositive-nontrivial w (i, positive) trivial =
    let (h, ends) = EndsIn-positive i w positive in
    generator_ends i (h, sym (ActAlike-equivalent trivial (gen i false ∷ []) tt) ∙ ends)

-- ---- Two verdicts ----

-- less and equal don't hold both
pub less_equal : (u v : List Letter) → IsLess u v → IsEqual u v → ⊥
less_equal u v (w, positive, chain) equal =
    IsSigmaPositive-nontrivial w positive (Equivalent-trans chain (Equivalent-sym equal))

-- equal and greater don't hold both
pub equal_greater : (u v : List Letter) → IsEqual u v → IsGreater u v → ⊥
equal_greater u v equal (w, negative, chain) =
    IsSigmaPositive-nontrivial (inverse w) negative
    (Equivalent-inverse (Equivalent-trans chain (Equivalent-sym equal)))

-- less and greater don't hold both
pub less_greater : (u v : List Letter) → IsLess u v → IsGreater u v → ⊥
less_greater u v (a, positive, one) (b, negative, two) =
    IsSigmaPositive-nontrivial (a ++ inverse b) (IsSigmaPositive-append a (inverse b) positive negative)
    (Equivalent-trans (Equivalent-append one (Equivalent-inverse two))
    (Equivalent-append_inverse (quotient u v) (Equivalent-word_right one)))
