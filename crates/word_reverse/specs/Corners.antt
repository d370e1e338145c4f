-- Corners of a braid word, and the word with one of them turned.
--
-- A corner is an inverse letter with a positive letter behind it. To turn it is to write what stands for
-- s_i^-1 s_j with the positive letters in front: s_i^-1 s_i is nothing, letters whose indices are 2 or more
-- apart change places, and s_i^-1 s_j is s_j s_i s_j^-1 s_i^-1 where the indices differ by 1. Places of
-- letters count from 0.
-- Source: P. Dehornoy, Groups with a complemented presentation, 1997, after F. A. Garside, The braid group
-- and other groups, 1969. To take the leftmost corner is this project's choice.
--
--   is_corner x y         whether two letters, one behind the other, are a corner
--   begins_with_corner w  whether the first two letters of w are one
--   IsCorner w p          the letter at p and the next one are a corner
--   IsLeftmostCorner w p  they are the first one
--   HasNoCorner w         w has none
--   are_near x y          whether the indices of two letters differ by 1
--   turned_pair x y       what stands for the corner x y
--   turned_at w p         the word with its corner at p turned
--   corner_of w           the place of the leftmost corner
--
-- The laws stand in `proofs/CornerLemmas.antt`.
use Rattle.std.specs.Prelude.{◌≡◌, ℕ, suc, ◌+◌, ◌≤◌, ◌&&◌, ◌||◌, ◌==◌, Bool, true, false, not, if◌then◌else◌, List, [], ◌∷◌, ◌++◌, length, take, drop, Option, Some, None, option_map}
use Rattle.braid_word.specs.Words.{Letter, opposite}

-- ---- Corners ----

-- Whether the first of two letters is an inverse one, and the second isn't.
abbrev pub is_corner : Letter → Letter → Bool
is_corner x y = x.negative && not y.negative

-- The same of the first two letters of a word.
abbrev pub begins_with_corner : List Letter → Bool
begins_with_corner [] = false
begins_with_corner (x ∷ []) = false
begins_with_corner (x ∷ (y ∷ w)) = is_corner x y

-- The letter at a place, and the one behind it, are a corner.
pub record IsCorner (w : List Letter) (p : ℕ) : Type 0 where
  pub front : List Letter
  pub x : Letter
  pub y : Letter
  pub back : List Letter
  pub place : length front ≡ p
  pub first : x.negative ≡ true
  pub second : y.negative ≡ false
  pub is : w ≡ front ++ (x ∷ y ∷ back)

-- No corner stands before this one.
pub record IsLeftmostCorner (w : List Letter) (p : ℕ) : Type 0 where
  pub corner : IsCorner w p
  pub first : (q : ℕ) → IsCorner w q → p ≤ q

-- No place of the word has one.
abbrev pub HasNoCorner : List Letter → Type 0
HasNoCorner w = (p : ℕ) → IsCorner w p → ⊥

-- ---- A corner turned ----

-- Whether the indices of two letters differ by 1.
abbrev pub are_near : Letter → Letter → Bool
are_near x y = (y.index == x.index + 1) || (x.index == y.index + 1)

-- What stands for a corner: for `-1 1` nothing, for `-1 3` it is `3 -1`, and for `-1 2` it is `2 1 -2 -1`.
abbrev pub turned_pair : Letter → Letter → List Letter
turned_pair x y =
    if x.index == y.index then []
    else (if are_near x y then y ∷ opposite x ∷ opposite y ∷ x ∷ [] else y ∷ x ∷ [])

-- A word with what stands for its first two letters in their place.
abbrev pub turned_front : List Letter → List Letter
turned_front [] = []
turned_front (x ∷ []) = x ∷ []
turned_front (x ∷ y ∷ w) = turned_pair x y ++ w

-- The word with its corner at this place turned: of `-2 -1 2 1` at 1 it is `-2 2 1 -2 -1 1`.
abbrev pub turned_at : List Letter → ℕ → List Letter
turned_at w p = take p w ++ turned_front (drop p w)

-- ---- The leftmost corner, computed ----

-- Its place: of `-2 -1 2 1` it is 1. A word without a corner has none.
abbrev pub corner_of : List Letter → Option ℕ
corner_of [] = None
corner_of (x ∷ w) = if begins_with_corner (x ∷ w) then Some 0 else option_map suc (corner_of w)
