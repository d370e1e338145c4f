-- Simple braids: the positive words in which no two strands cross twice, by their arrangements.
--
-- Source: F. A. Garside, The braid group and other groups, 1969; simple braids are the permutation
-- braids of D. Epstein and others, Word Processing in Groups, 1992, chapter 9.
--
--   generator i        the letter s_i
--   arranged n w       the arrangement of a positive word on n strands
--   IsSimple n w       w is a simple word on n strands
--   IsWordOf n a w     w is the word of the arrangement a
--   delta_word n       Garside's half turn of n strands, as a word
--
-- That each arrangement has one word, which is simple and has that arrangement, is shown in
-- `proofs/SimpleWordLemmas.antt`.
use Rattle.std.specs.Prelude.{◌≡◌, ℕ, zero, suc, ◌+◌, ◌<◌, ◌≤◌, false, List, [], ◌∷◌, ◌++◌, map}
use Rattle.std.specs.List.{range_with_len}
use Rattle.braid_word.specs.Words.{Letter, letter, IsOn}
use Rattle.perm_braid.specs.Arrangements.{entry, swapped, values_swapped, identity, IsLeftDescent}

-- The generator of index i.
abbrev pub generator : ℕ → Letter
generator i = letter i false

-- ---- Arrangements of words ----

-- What an arrangement becomes where each letter exchanges the entries at its place and the next.
abbrev pub arranged_from : List ℕ → List Letter → List ℕ
arranged_from a [] = a
arranged_from a (x ∷ w) = arranged_from (swapped x.index a) w

-- The arrangement of a word: of `1 2` on 3 strands it is `2 3 1`.
abbrev pub arranged : ℕ → List Letter → List ℕ
arranged n w = arranged_from (identity n) w

-- Each letter is positive, and finds a smaller entry at its place than at the next.
abbrev pub IsRisingFrom : List ℕ → List Letter → Type 0
IsRisingFrom a [] = Unit {0}
IsRisingFrom a (x ∷ w) =
    (x.negative ≡ false) × (entry a x.index < entry a (x.index + 1)) × IsRisingFrom (swapped x.index a) w

-- A simple word: no two strands cross twice.
abbrev pub IsSimple : ℕ → List Letter → Type 0
IsSimple n w = IsOn n w × IsRisingFrom (identity n) w

-- ---- Words of arrangements ----

-- The word of an arrangement: the least left descent i, and then the word of the arrangement with the
-- values i and i + 1 exchanged. Of `2 3 1` it is `1 2`.
pub data IsWordOf (n : ℕ) : List ℕ → List Letter → Type 0 where
  nothing : {a : List ℕ} → a ≡ identity n → IsWordOf n a []
  least : {a : List ℕ} {w : List Letter} (i : ℕ) → 1 ≤ i → i < n → IsLeftDescent a i
      → ((j : ℕ) → 1 ≤ j → j < i → IsLeftDescent a j → ⊥) → IsWordOf n (values_swapped i a) w
      → IsWordOf n a (generator i ∷ w)

-- ---- The half turn ----

-- The generators of the indices 1 to n, in this order.
abbrev pub rising_word : ℕ → List Letter
rising_word n = map generator (range_with_len 1 n)

-- The half turn of n strands: of 4 strands it is `1 2 3 1 2 1`.
abbrev pub delta_word : ℕ → List Letter
delta_word zero = []
delta_word (suc n) = rising_word n ++ delta_word n
