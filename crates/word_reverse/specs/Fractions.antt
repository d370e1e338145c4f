-- Fractions: a positive word, and the inverse of a positive word behind it.
--
-- A word without a corner is a fraction as it stands: behind its first inverse letter all are inverse. By
-- reversing a word comes to a fraction that represents the same braid.
-- Source: P. Dehornoy, Groups with a complemented presentation, 1997.
--
--   positive_front w     the longest positive word that w begins with
--   behind_front w       what stands behind it in w
--   IsSplit w u v        w is u v^-1 as it stands, and u and v are positive
--   IsFraction w u v     u and v are positive, and u v^-1 represents the braid of w
--
-- The laws stand in `proofs/FractionLemmas.antt`.
use Rattle.std.specs.Prelude.{◌≡◌, ℕ, if◌then◌else◌, List, [], ◌∷◌, ◌++◌}
use Rattle.braid_word.specs.Words.{Letter, inverse, IsOn, IsPositiveWord}
use Rattle.braid_word.specs.Equivalence.{EquivalentOn}

-- The letters before the first inverse one: of `1 2 -1 2` they are `1 2`.
abbrev pub positive_front : List Letter → List Letter
positive_front [] = []
positive_front (x ∷ w) = if x.negative then [] else x ∷ positive_front w

-- The others: of `1 2 -1 2` they are `-1 2`.
abbrev pub behind_front : List Letter → List Letter
behind_front [] = []
behind_front (x ∷ w) = if x.negative then x ∷ w else behind_front w

-- The word is a positive word and the inverse of one behind it. Then the first is its positive front.
pub record IsSplit (w u v : List Letter) : Type 0 where
  pub first : IsPositiveWord u
  pub second : IsPositiveWord v
  pub is : w ≡ u ++ inverse v

-- The two words are positive, and u v^-1 represents the braid of w, on as few strands.
pub record IsFraction (w u v : List Letter) : Type 0 where
  pub first : IsPositiveWord u
  pub second : IsPositiveWord v
  pub equivalent : (n : ℕ) → IsOn n w → EquivalentOn n (u ++ inverse v) w
