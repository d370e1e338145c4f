-- Signs of words and the three verdicts of the order on braids.
--
-- A word is sigma_i-positive where s_i occurs in it, s_i^-1 doesn't, and no index is below i. The braid of
-- u is less than that of v where some sigma-positive word represents u^-1 v.
-- Source: P. Dehornoy, Braid groups and left distributive operations, 1994; terms and side are those of
-- Dehornoy, Dynnikov, Rolfsen and Wiest, Ordering Braids, 2008.
--
--   IsSigmaPositiveAt i w, IsSigmaNegativeAt i w    w is sigma_i-positive, sigma_i-negative
--   IsSigmaPositive w, IsSigmaNegative w            so for some i
--   IsMixedAt i w                                   i is the least index of w, with letters of both signs
--   IsLess u v, IsEqual u v, IsGreater u v          the verdicts on two words
use Rattle.std.specs.Prelude.{◌≡◌, ◌≢◌, ℕ, ◌≤◌, true, false, List, []}
use Rattle.braid_word.specs.Words.{Letter, letter, inverse, quotient, EachLetter, SomeLetter}
use Rattle.braid_word.specs.Equivalence.{Equivalent}

-- ---- Signs ----

-- The generator of index i occurs, its inverse doesn't, and no index is lower: `3 2 -3` at 2.
abbrev pub IsSigmaPositiveAt : ℕ → List Letter → Type 0
IsSigmaPositiveAt i w =
    SomeLetter (λ x. x ≡ letter i false) w × EachLetter (λ x. (i ≤ x.index) × (x ≢ letter i true)) w

-- The inverse word is sigma_i-positive.
abbrev pub IsSigmaNegativeAt : ℕ → List Letter → Type 0
IsSigmaNegativeAt i w = IsSigmaPositiveAt i (inverse w)

-- The same for some index.
abbrev pub IsSigmaPositive : List Letter → Type 0
IsSigmaPositive w = (i : ℕ) × IsSigmaPositiveAt i w

-- The same for some index.
abbrev pub IsSigmaNegative : List Letter → Type 0
IsSigmaNegative w = (i : ℕ) × IsSigmaNegativeAt i w

-- The generator of index i and its inverse both occur, and no index is lower: `3 2 -2` at 2.
abbrev pub IsMixedAt : ℕ → List Letter → Type 0
IsMixedAt i w =
    SomeLetter (λ x. x ≡ letter i false) w × SomeLetter (λ x. x ≡ letter i true) w
    × EachLetter (λ x. i ≤ x.index) w

-- ---- Verdicts ----

-- Some sigma-positive word represents u^-1 v.
abbrev pub IsLess : List Letter → List Letter → Type 0
IsLess u v = (w : List Letter) × IsSigmaPositive w × Equivalent w (quotient u v)

-- The empty word represents u^-1 v.
abbrev pub IsEqual : List Letter → List Letter → Type 0
IsEqual u v = Equivalent [] (quotient u v)

-- Some sigma-negative word represents u^-1 v.
abbrev pub IsGreater : List Letter → List Letter → Type 0
IsGreater u v = (w : List Letter) × IsSigmaNegative w × Equivalent w (quotient u v)
