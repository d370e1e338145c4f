-- Braid words: lists of letters, with inverses and quotients.
--
-- A letter is a generator s_i of a braid group or its inverse, with i counted from 1; index 0 is no
-- generator, and `IsWord` rules it out. A word is a list of letters, the first letter first.
-- Source: E. Artin, Theory of braids, 1947; notation after Dehornoy, Dynnikov, Rolfsen and Wiest,
-- Ordering Braids, 2008.
--
--   letter i e        the generator of index i, or its inverse where e is true: a sign is a Bool, and true
--                     is negative
--   opposite x        x with its sign turned
--   inverse u         the letters of u from the last to the first, each with its sign turned
--   quotient u v      inverse u, then v: the word of u^-1 v
--   shift u           u with 1 added to every index
--   EachLetter P w    P holds of every letter of w
--   SomeLetter P w    P holds of some letter of w
--   IsWord w          every index of w is at least 1
--   IsOn n w          w is a word on n strands: every index is at least 1 and below n
--   IsPositiveWord w  no letter of w is an inverse one
--   first_outside n w the place of the first letter of w that isn't on n strands
--   first_negative w  the place of the first inverse letter of w
--
-- The laws stand in `proofs/WordLemmas.antt`.
use Rattle.std.specs.Prelude.{◌≡◌, ℕ, ◌+◌, ◌<◌, ◌≤◌, Bool, false, not, nat_lt, List, [], ◌∷◌, ◌++◌, ◌⊎◌, map, Option}
use Rattle.std.specs.List.{position}

-- ---- Letters ----

-- A generator of a braid group, or the inverse of one.
pub record Letter : Type 0 where
  pub index : ℕ
  pub negative : Bool

-- The letter of this index and sign.
abbrev pub letter : ℕ → Bool → Letter
letter index negative = record { index = index; negative = negative }

-- The inverse of one letter.
abbrev pub opposite : Letter → Letter
opposite x = letter x.index (not x.negative)

-- ---- Words ----

-- The inverse of a word: of `1 2 -3` it is `3 -2 -1`.
abbrev pub inverse : List Letter → List Letter
inverse [] = []
inverse (x ∷ w) = inverse w ++ (opposite x ∷ [])

-- The word of u^-1 v: of `1 2` and `2 1` it is `-2 -1 2 1`.
abbrev pub quotient : List Letter → List Letter → List Letter
quotient u v = inverse u ++ v

-- The word with 1 added to every index.
abbrev pub shift : List Letter → List Letter
shift w = map (λ (x : Letter). letter (x.index + 1) x.negative) w

-- ---- Facts about the letters of a word ----

-- P holds of every letter.
abbrev pub EachLetter : (Letter → Type 0) → List Letter → Type 0
EachLetter P [] = Unit {0}
EachLetter P (x ∷ w) = P x × EachLetter P w

-- P holds of some letter.
abbrev pub SomeLetter : (Letter → Type 0) → List Letter → Type 0
SomeLetter P [] = ⊥
SomeLetter P (x ∷ w) = P x ⊎ SomeLetter P w

-- Every index is at least 1, so each letter is one of a braid group.
abbrev pub IsWord : List Letter → Type 0
IsWord = EachLetter (λ x. 1 ≤ x.index)

-- A word on n strands, whose generators are s_1 to s_(n - 1).
abbrev pub IsOn : ℕ → List Letter → Type 0
IsOn n = EachLetter (λ x. (1 ≤ x.index) × (x.index < n))

-- No letter is the inverse of a generator: `1 2 1`.
abbrev pub IsPositiveWord : List Letter → Type 0
IsPositiveWord = EachLetter (λ x. x.negative ≡ false)

-- The place, counted from 0, of the first letter whose index is n or more: of `1 3 4` on 3 strands it is 1.
abbrev pub first_outside : ℕ → List Letter → Option ℕ
first_outside n w = position (λ (x : Letter). not (nat_lt x.index n)) w

-- The place, counted from 0, of the first inverse letter: of `1 -2` it is 1.
abbrev pub first_negative : List Letter → Option ℕ
first_negative w = position (λ (x : Letter). x.negative) w
