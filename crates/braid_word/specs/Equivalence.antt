-- When two words represent the same braid.
--
-- Two words are equivalent on n strands where a list of words on n strands leads from one to the other,
-- and neighbours in it differ at one place by one relation of Artin's presentation, or by a letter beside
-- its inverse. Where no number of strands is named, any will do.
-- Source: E. Artin, Theory of braids, 1947.
--
--   Relation            a commutation, a braid relation or a cancellation
--   left_side, right_side    its two sides
--   DifferByOne u v     v is u with one side of a relation replaced by the other
--   EquivalentOn n u v  a chain of such steps leads from u to v, over words on n strands
--   Equivalent u v      that holds for some n
--
-- The laws stand in `proofs/EquivalenceLemmas.antt`.
use Rattle.std.specs.Prelude.{◌≡◌, ℕ, ◌+◌, ◌≤◌, Bool, false, not, List, [], ◌∷◌, ◌++◌}
use Rattle.braid_word.specs.Words.{Letter, letter, IsOn}

-- ---- Relations ----

-- A relation: s_i s_j = s_j s_i for indices 2 or more apart, s_i s_(i+1) s_i = s_(i+1) s_i s_(i+1), or
-- that a letter beside its inverse is nothing. Each is given by its indices and, for the last, the sign
-- of its first letter.
pub data Relation : Type 0 where
  commutation : (i j : ℕ) → i + 2 ≤ j → Relation
  braiding : (i : ℕ) → Relation
  cancellation : (i : ℕ) → (negative : Bool) → Relation

abbrev pub left_side : Relation → List Letter
left_side (commutation i j apart) = letter i false ∷ letter j false ∷ []
left_side (braiding i) = letter i false ∷ letter (i + 1) false ∷ letter i false ∷ []
left_side (cancellation i negative) = letter i negative ∷ letter i (not negative) ∷ []

abbrev pub right_side : Relation → List Letter
right_side (commutation i j apart) = letter j false ∷ letter i false ∷ []
right_side (braiding i) = letter (i + 1) false ∷ letter i false ∷ letter (i + 1) false ∷ []
right_side (cancellation i negative) = []

-- ---- Steps and chains ----

-- One relation is applied at one place, in one of its two directions.
pub data DifferByOne (u v : List Letter) : Type 0 where
  forward : (before after : List Letter) (r : Relation) → u ≡ before ++ (left_side r ++ after)
      → v ≡ before ++ (right_side r ++ after) → DifferByOne u v
  backward : (before after : List Letter) (r : Relation) → u ≡ before ++ (right_side r ++ after)
      → v ≡ before ++ (left_side r ++ after) → DifferByOne u v

-- A chain of words on n strands from the first word to the second.
pub data EquivalentOn (n : ℕ) : List Letter → List Letter → Type 0 where
  stay : {u : List Letter} → IsOn n u → EquivalentOn n u u
  move : {u v w : List Letter} → IsOn n u → DifferByOne u v → EquivalentOn n v w → EquivalentOn n u w

-- The words represent the same braid, on some number of strands.
abbrev pub Equivalent : List Letter → List Letter → Type 0
Equivalent u v = (n : ℕ) × EquivalentOn n u v
