-- Arrangements: the numbers 1 to n in some order, which is how the strands of a simple braid end.
--
-- Places and entries count from 1. The arrangement of a positive word begins as 1 to n, and the letter
-- s_i exchanges the entries at the places i and i + 1.
-- Source: F. A. Garside, The braid group and other groups, 1969; D. Epstein and others, Word
-- Processing in Groups, 1992, chapter 9. The side is this project's.
--
--   entry a i            the entry at place i
--   place_of a e         the first place of the entry e
--   places_of a          the places of the numbers from 1 to the length of a
--   swapped i a          a with the entries at the places i and i + 1 exchanged
--   neighbour i e        the other one of i and i + 1, and e itself where it is neither
--   values_swapped i a   a with the values i and i + 1 exchanged
--   flip a               a turned by half a turn
--   identity n           1 to n
--   half_turn n          n to 1
--   IsOrder n a          a has each of 1 to n once, and nothing else
--   IsArrangement a      a is such an order of 2 to 64 numbers
--   IsRightDescent a i   the entry at place i is greater than the next
--   IsLeftDescent a i    the value i + 1 stands before the value i
--
-- Descents of n numbers are meant for i from 1 to n - 1.
-- The laws stand in `proofs/PlaceLemmas.antt` and `proofs/SwapLemmas.antt`.
use Rattle.std.specs.Prelude.{◌≡◌, ℕ, zero, suc, ◌+◌, ◌-◌, ◌<◌, ◌≤◌, ◌==◌, if◌then◌else◌, List, [], ◌∷◌, length, map, reverse}
use Rattle.std.specs.List.{range_with_len}

-- ---- Entries and places ----

-- The entry at a place, and 0 where there is none: of `3 1 2` at 1 it is 3.
abbrev pub entry : List ℕ → ℕ → ℕ
entry [] i = 0
entry (x ∷ a) zero = 0
entry (x ∷ a) (suc zero) = x
entry (x ∷ a) (suc (suc i)) = entry a (suc i)

-- The first place of an entry, and one past the last place where it isn't there: of 1 in `3 1 2` it is 2.
abbrev pub place_of : List ℕ → ℕ → ℕ
place_of [] e = 1
place_of (x ∷ a) e = if x == e then 1 else suc (place_of a e)

-- The place of each number from 1 to the length: of `2 3 1` it is `3 1 2`. No public clause cites it.
abbrev pub places_of : List ℕ → List ℕ
places_of a = map (place_of a) (range_with_len 1 (length a))

-- ---- Exchanges ----

-- The entries at the places i and i + 1 are exchanged: of `3 1 2` at 1 it is `1 3 2`.
abbrev pub swapped : ℕ → List ℕ → List ℕ
swapped zero a = a
swapped (suc i) [] = []
swapped (suc zero) (x ∷ []) = x ∷ []
swapped (suc zero) (x ∷ y ∷ a) = y ∷ x ∷ a
swapped (suc (suc i)) (x ∷ a) = x ∷ swapped (suc i) a

-- The other one of i and i + 1, and any other number itself.
abbrev pub neighbour : ℕ → ℕ → ℕ
neighbour i e = if e == i then i + 1 else (if e == i + 1 then i else e)

-- The values i and i + 1 are exchanged: of `3 1 2` at 1 it is `3 2 1`.
abbrev pub values_swapped : ℕ → List ℕ → List ℕ
values_swapped i a = map (neighbour i) a

-- The entry at place k is n + 1 less the old one at place n + 1 - k: of `2 3 1` it is `3 1 2`.
abbrev pub flip : List ℕ → List ℕ
flip a = map (λ e. length a + 1 - e) (reverse a)

-- ---- Orders ----

-- The numbers 1 to n.
abbrev pub identity : ℕ → List ℕ
identity n = range_with_len 1 n

-- The numbers n to 1.
abbrev pub half_turn : ℕ → List ℕ
half_turn n = reverse (identity n)

-- Each of 1 to n stands at one place, and nothing else does. That all are there follows from the other
-- facts by counting, and is said as well, so that it can be used without that.
pub record IsOrder (n : ℕ) (a : List ℕ) : Type 0 where
  pub size : length a ≡ n
  pub within : (i : ℕ) → 1 ≤ i → i ≤ n → (1 ≤ entry a i) × (entry a i ≤ n)
  pub distinct : (i : ℕ) → 1 ≤ i → i ≤ n → place_of a (entry a i) ≡ i
  pub has : (e : ℕ) → 1 ≤ e → e ≤ n → place_of a e ≤ n

-- An order of 2 to 64 numbers.
pub record IsArrangement (a : List ℕ) : Type 0 where
  pub order : IsOrder (length a) a
  pub least : 2 ≤ length a
  pub most : length a ≤ 64

-- ---- Descents ----

-- The entry at the place is greater than the next: `2 3 1` has the right descent 2.
abbrev pub IsRightDescent : List ℕ → ℕ → Type 0
IsRightDescent a i = entry a (i + 1) < entry a i

-- The next value stands before the value: `2 3 1` has the left descent 1.
abbrev pub IsLeftDescent : List ℕ → ℕ → Type 0
IsLeftDescent a i = place_of a (i + 1) < place_of a i
