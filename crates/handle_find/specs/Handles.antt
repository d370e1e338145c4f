-- Handles of a braid word, the leftmost one, and the reduct of a word at a handle.
--
-- Places of letters count from 0. A handle is a part of a word that begins and ends with letters of one
-- index and opposite signs and has only higher indices between them.
-- Source: P. Dehornoy, A fast method for comparing braids, 1997. This project's are the exact form, in
-- which every letter inside has a higher index and nothing is asked of the signs of those of the next
-- index, and the choice of the handle that ends first.
--
--   at w k              the letter at place k
--   IsHandle w p q      the letters from p to q are a handle
--   IsLeftmost w p q    they are the handle that ends first
--   HasNoHandle w       w has none
--   inside w p q        the letters between p and q
--   replaced j e x      what stands for the inside letter x in the reduct of a handle of index j whose
--                       first letter has sign e
--   reduct w p q        the word with its handle at p and q reduced
--   HasIndicesOf w v    v has no index that w hasn't
--   leftmost_of w       the places of the leftmost handle
--
-- The laws stand in `proofs/HandleLemmas.antt`, those of reducts in `proofs/ReductLemmas.antt`.
use Rattle.std.specs.Prelude.{◌≡◌, ℕ, ◌+◌, ◌-◌, ◌<◌, ◌≤◌, Bool, false, not, ◌&&◌, ◌==◌, nat_lt, if◌then◌else◌, List, [], ◌∷◌, ◌++◌, length, take, drop, map, slice_index_or, find, Option}
use Rattle.std.specs.List.{flat_map, list_all, range_with_len}
use Rattle.std.specs.Bool.{xor}
use Rattle.braid_word.specs.Words.{Letter, letter, EachLetter, SomeLetter}

-- ---- Handles ----

-- The letter at a place, counted from 0. Past the end it is no letter of a braid group.
abbrev pub at : List Letter → ℕ → Letter
at w k = slice_index_or w k (letter 0 false)

-- The letters at p and q have one index and opposite signs, and each letter between has a higher index.
pub record IsHandle (w : List Letter) (p q : ℕ) : Type 0 where
  pub ordered : p < q
  pub within : q < length w
  pub one_index : (at w q).index ≡ (at w p).index
  pub opposite_signs : (at w q).negative ≡ not (at w p).negative
  pub higher_between : (k : ℕ) → p < k → k < q → (at w p).index < (at w k).index

-- The handle that ends first. Its start is determined by its end.
pub record IsLeftmost (w : List Letter) (p q : ℕ) : Type 0 where
  pub handle : IsHandle w p q
  pub first : (start end : ℕ) → IsHandle w start end → q ≤ end

-- No two places are a handle.
abbrev pub HasNoHandle : List Letter → Type 0
HasNoHandle w = (p q : ℕ) → IsHandle w p q → ⊥

-- ---- Reducts ----

-- The letters strictly between two places.
abbrev pub inside : List Letter → ℕ → ℕ → List Letter
inside w p q = take (q - (p + 1)) (drop (p + 1) w)

-- With e the sign of the first letter, s_(j+1)^d becomes s_(j+1)^-e s_j^d s_(j+1)^e; any other stays.
abbrev pub replaced : ℕ → Bool → Letter → List Letter
replaced j negative x =
    if x.index == j + 1
    then letter (j + 1) (not negative) ∷ letter j x.negative ∷ letter (j + 1) negative ∷ []
    else x ∷ []

-- The first and last letter of the handle go, and the letters inside are replaced: of `-2 -1 2 1` at 1
-- and 3 it is `-2 2 1 -2`.
unfoldable pub reduct : List Letter → ℕ → ℕ → List Letter
reduct w p q =
    take p w ++ (flat_map (replaced (at w p).index (at w p).negative) (inside w p q) ++ drop (q + 1) w)

-- Each index of v is that of some letter of w.
abbrev pub HasIndicesOf : List Letter → List Letter → Type 0
HasIndicesOf w v = EachLetter (λ x. SomeLetter (λ y. y.index ≡ x.index) w) v

-- ---- The leftmost handle, computed ----

-- Whether the letters at p and q, with p before q before the end, are a handle.
abbrev pub is_handle_at : List Letter → ℕ × ℕ → Bool
is_handle_at w (p, q) =
    ((at w q).index == (at w p).index) && xor (at w q).negative (at w p).negative && list_all
    (λ (x : Letter). nat_lt (at w p).index x.index) (inside w p q)

-- The pairs p < q < n, in the order of q and then of p.
abbrev pub pairs_below : ℕ → List (ℕ × ℕ)
pairs_below n = flat_map (λ q. map (λ p. (p, q)) (range_with_len 0 q)) (range_with_len 0 n)

-- The places of the leftmost handle: of `-2 -1 2 1` they are 1 and 3. A word without a handle has none.
unfoldable pub leftmost_of : List Letter → Option (ℕ × ℕ)
leftmost_of w = find (is_handle_at w) (pairs_below (length w))
