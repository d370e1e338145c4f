-- The weight of a word: its letters less twice the inverse ones.
--
-- Each relation keeps it, so equivalent words have the same weight (`weight-equivalent`).
use Rattle.std.proofs.Common.{ℕ, ◌≡◌, ◌+◌, Bool, true, false, List, [], ◌∷◌, ◌++◌, length, length-append, refl, sym, arith}
use Rattle.braid_word.specs.Words.{Letter}
use Rattle.braid_word.specs.Equivalence.{Relation, commutation, braiding, cancellation, left_side, right_side, DifferByOne, forward, backward, EquivalentOn, stay, move}

-- ---- Inverse letters ----

-- 1 for the sign of an inverse letter, and 0 for that of a generator.
abbrev pub taken : Bool → ℕ
taken false = 0
taken true = 1

-- How many letters are negative.
abbrev pub negatives : List Letter → ℕ
negatives [] = 0
negatives (c ∷ w) = taken c.negative + negatives w

-- negative letters of two words
pub negatives-append : (u v : List Letter) → negatives (u ++ v) ≡ negatives u + negatives v
negatives-append [] v = omega arith
negatives-append (c ∷ u) v = let rest = negatives-append u v in omega (arith, rest)

-- ---- Weight ----

-- Both words have as many letters, less twice the inverse ones.
abbrev pub SameWeight : List Letter → List Letter → Type 0
SameWeight u v = length u + (negatives v + negatives v) ≡ length v + (negatives u + negatives u)

-- the sides of a relation have the same weight
weight-sides : (r : Relation) → SameWeight (left_side r) (right_side r)
weight-sides (commutation i j apart) = refl
weight-sides (braiding i) = refl
weight-sides (cancellation i false) = refl
weight-sides (cancellation i true) = refl

-- so between two words
weight-between
    : (a u v c : List Letter)
    → SameWeight u v
    → SameWeight (a ++ (u ++ c)) (a ++ (v ++ c))
weight-between a u v c same = omega (
  arith,
  same,
  length-append a (u ++ c),
  length-append u c,
  length-append a (v ++ c),
  length-append v c,
  negatives-append a (u ++ c),
  negatives-append u c,
  negatives-append a (v ++ c),
  negatives-append v c,
)

-- one relation keeps the weight
weight-step : {u v : List Letter} → DifferByOne u v → SameWeight u v
weight-step (forward a c r is_u is_v) =
    rw (is_u, is_v) (weight-between a (left_side r) (right_side r) c (weight-sides r))
weight-step (backward a c r is_u is_v) =
    rw (is_u, is_v) (sym (weight-between a (left_side r) (right_side r) c (weight-sides r)))

-- equivalent words have the same weight
pub weight-equivalent : {n : ℕ} {u v : List Letter} → EquivalentOn n u v → SameWeight u v
weight-equivalent (stay on) = refl
weight-equivalent (move on step chain) =
    let first = weight-step step in
    let rest = weight-equivalent chain in
    omega (arith, first, rest)
