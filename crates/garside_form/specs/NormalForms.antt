-- Normal forms of braids: a power of the half turn, and then simple braids, each as long as it can be.
--
-- Source: the left greedy normal form, after F. A. Garside, The braid group and other groups, 1969, and
-- D. Epstein and others, Word Processing in Groups, 1992, chapter 9.
--
--   IsFactor n p          p is the arrangement of a simple braid on n strands, and neither the identity nor
--                         the half turn
--   IsNormal n ps         the arrangements ps are the factors of a normal form on n strands
--   delta_power n d       the word of the half turn d times, or of its inverse -d times
--   IsProduct n ps w      w is the words of the arrangements ps, one after the other
--   IsSpelled n d ps w    w is what the power d and the arrangements ps spell
--   Form                  a number of strands, a power of the half turn and a list of arrangements
--   IsFormOf form u       form is the normal form of the word u
--
-- That equivalent words have one normal form is shown in `proofs/UniqueLemmas.antt`.
use Rattle.std.specs.Prelude.{◌≡◌, ℕ, zero, suc, ℤ, pos, negsuc, List, [], ◌∷◌, ◌++◌}
use Rattle.braid_word.specs.Words.{Letter, inverse}
use Rattle.braid_word.specs.Equivalence.{EquivalentOn}
use Rattle.perm_braid.specs.Arrangements.{identity, half_turn, IsOrder}
use Rattle.perm_braid.specs.SimpleWords.{IsWordOf, delta_word}
use Rattle.perm_braid.specs.GreedyPairs.{IsGreedy}

-- ---- Factors ----

-- A simple braid that is neither the identity nor the half turn, by its arrangement.
pub record IsFactor (n : ℕ) (p : List ℕ) : Type 0 where
  pub order : IsOrder n p
  pub some : p ≡ identity n → ⊥
  pub not_all : p ≡ half_turn n → ⊥

-- Each left descent of each factor after the first is a right descent of the one before it.
abbrev pub IsNormal : ℕ → List (List ℕ) → Type 0
IsNormal n [] = Unit {0}
IsNormal n (p ∷ []) = IsFactor n p
IsNormal n (p ∷ q ∷ ps) = IsFactor n p × IsGreedy n p q × IsNormal n (q ∷ ps)

-- ---- What a normal form spells ----

-- A word so many times.
abbrev pub times : ℕ → List Letter → List Letter
times zero w = []
times (suc k) w = w ++ times k w

-- The half turn of n strands, or its inverse, so many times.
abbrev pub delta_power : ℕ → ℤ → List Letter
delta_power n (pos d) = times d (delta_word n)
delta_power n (negsuc d) = times (suc d) (inverse (delta_word n))

-- The words of the arrangements, one after the other.
pub data IsProduct (n : ℕ) : List (List ℕ) → List Letter → Type 0 where
  empty : IsProduct n [] []
  factor : {p : List ℕ} {ps : List (List ℕ)} {u w : List Letter} → IsWordOf n p u → IsProduct n ps w
      → IsProduct n (p ∷ ps) (u ++ w)

-- The power of the half turn, and then the words of the factors.
pub record IsSpelled (n : ℕ) (d : ℤ) (ps : List (List ℕ)) (w : List Letter) : Type 0 where
  pub rest : List Letter
  pub product : IsProduct n ps rest
  pub is : w ≡ delta_power n d ++ rest

-- ---- Normal forms of words ----

-- A number of strands, a power of the half turn, and a list of arrangements.
pub record Form : Type 0 where
  pub strands : ℕ
  pub delta : ℤ
  pub factors : List (List ℕ)

-- The form of these parts.
abbrev pub form : ℕ → ℤ → List (List ℕ) → Form
form strands delta factors = record { strands = strands; delta = delta; factors = factors }

-- The form is normal, and what it spells is equivalent to the word on its strands.
pub record IsFormOf (f : Form) (u : List Letter) : Type 0 where
  pub normal : IsNormal f.strands f.factors
  pub word : List Letter
  pub spelled : IsSpelled f.strands f.delta f.factors word
  pub equivalent : EquivalentOn f.strands u word
