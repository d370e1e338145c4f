-- Positive words: they have no inverse letter, so where they are equivalent they have the same length.
use Rattle.std.proofs.Common.{ℕ, ◌≡◌, ◌+◌, Bool, true, false, List, [], ◌∷◌, ◌++◌, length, refl, arith}
use Rattle.braid_word.specs.Words.{Letter, IsPositiveWord}
use Rattle.braid_word.specs.Equivalence.{EquivalentOn}
use Rattle.braid_word.proofs.WordLemmas.{each_append}
use Rattle.braid_word.proofs.WeightLemmas.{taken, negatives, weight-equivalent}

-- the product of positive words is positive
pub positive_append : (u v : List Letter) → IsPositiveWord u → IsPositiveWord v → IsPositiveWord (u ++ v)
positive_append = each_append _

-- a positive word has no inverse letter
pub negatives-positive : (w : List Letter) → IsPositiveWord w → negatives w ≡ 0
negatives-positive [] positive = refl
negatives-positive (c ∷ w) positive =
    rw (positive.0) (let rest = negatives-positive w positive.1 in omega (arith, rest))

-- a sign that takes no half turn is positive
taken_none : (b : Bool) (k : ℕ) → taken b + k ≡ 0 → b ≡ false
taken_none false k none = refl
taken_none true k none = absurd (omega (arith, none))

-- a word with no inverse letter is positive
pub positive_from : (w : List Letter) → negatives w ≡ 0 → IsPositiveWord w
positive_from [] none = tt
positive_from (c ∷ w) none =
    (taken_none c.negative (negatives w) none, positive_from w (omega (arith, none)))

-- equivalent positive words have the same length
pub length-equivalent
    : {n : ℕ} {u v : List Letter}
    → EquivalentOn n u v
    → IsPositiveWord u
    → IsPositiveWord v
    → length u ≡ length v
length-equivalent {n} {u} {v} chain first second =
    let none_u = negatives-positive u first in
    let none_v = negatives-positive v second in
    let same = weight-equivalent chain in
    omega (arith, none_u, none_v, same)
