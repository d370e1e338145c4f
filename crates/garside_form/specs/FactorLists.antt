-- Lists of simple braids on the way to a normal form. No public clause cites this.
--
-- Source: D. Epstein and others, Word Processing in Groups, 1992, chapter 9.
--
--   EachOrder n ps          each arrangement is an order of the numbers 1 to n
--   AreGreedy n ps          each pair of neighbours is greedy
--   KeepsFactors n ps qs    both lists have equivalent words
--   EndsCrossed n ps        the last arrangement isn't the identity
--   BeginsShort n ps        the first arrangement isn't the half turn
--   IsReady n ps            the list is greedy, begins with no half turn and ends with no identity
--   half_turns n d m        the word of m inverse half turns, and then d half turns
-- IsSpelledBy n w ps d m  w is equivalent to what the list spells, before m inverse half turns and d half
-- turns
--   is_odd m                whether m is odd
--   turned_index n odd i    the index i, turned where the number of half turns is odd
--   turned_factors odd ps   the arrangements, each flipped where that number is odd
--   letter_factor n i b     the simple braid of a letter
--   half_turn_if n turned   a half turn where one came out, and else nothing
-- IsTakenIn n s ps turned ps is a greedy list that begins with no half turn, and has the product of the list
-- s,
--                           but for the half turn that came out
use Rattle.std.specs.Prelude.{◌≡◌, ℕ, zero, suc, ◌-◌, Bool, false, not, if◌then◌else◌, List, [], ◌∷◌, ◌++◌, map}
use Rattle.braid_word.specs.Words.{Letter, inverse}
use Rattle.braid_word.specs.Equivalence.{EquivalentOn}
use Rattle.perm_braid.specs.Arrangements.{identity, half_turn, flip, swapped, values_swapped, IsOrder}
use Rattle.perm_braid.specs.SimpleWords.{delta_word}
use Rattle.perm_braid.specs.GreedyPairs.{IsGreedy}
use Rattle.garside_form.specs.NormalForms.{times, IsProduct}

-- Each is an order of the numbers 1 to n.
abbrev pub EachOrder : ℕ → List (List ℕ) → Type 0
EachOrder n [] = Unit {0}
EachOrder n (p ∷ ps) = IsOrder n p × EachOrder n ps

-- Each pair of neighbours is greedy.
abbrev pub AreGreedy : ℕ → List (List ℕ) → Type 0
AreGreedy n [] = Unit {0}
AreGreedy n (p ∷ []) = Unit {0}
AreGreedy n (p ∷ q ∷ ps) = IsGreedy n p q × AreGreedy n (q ∷ ps)

-- Both lists have equivalent words.
abbrev pub KeepsFactors : ℕ → List (List ℕ) → List (List ℕ) → Type 0
KeepsFactors n ps qs = (u v : List Letter) → IsProduct n ps u → IsProduct n qs v → EquivalentOn n u v

-- The last isn't the identity.
abbrev pub EndsCrossed : ℕ → List (List ℕ) → Type 0
EndsCrossed n [] = Unit {0}
EndsCrossed n (p ∷ []) = p ≡ identity n → ⊥
EndsCrossed n (p ∷ q ∷ ps) = EndsCrossed n (q ∷ ps)

-- The first isn't the half turn.
abbrev pub BeginsShort : ℕ → List (List ℕ) → Type 0
BeginsShort n [] = Unit {0}
BeginsShort n (p ∷ ps) = p ≡ half_turn n → ⊥

-- A greedy list that begins with no half turn and ends with no identity: so none stands in it.
pub record IsReady (n : ℕ) (ps : List (List ℕ)) : Type 0 where
  pub orders : EachOrder n ps
  pub greedy : AreGreedy n ps
  pub begins : BeginsShort n ps
  pub ends : EndsCrossed n ps

-- ---- Half turns behind a list ----

-- The word of m inverse half turns, and then d half turns.
abbrev pub half_turns : ℕ → ℕ → ℕ → List Letter
half_turns n d m = times m (inverse (delta_word n)) ++ times d (delta_word n)

-- The word is what the list spells, before m inverse half turns and d half turns.
abbrev pub IsSpelledBy : ℕ → List Letter → List (List ℕ) → ℕ → ℕ → Type 0
IsSpelledBy n w ps d m = (u : List Letter) → IsProduct n ps u → EquivalentOn n w (u ++ half_turns n d m)

-- Whether the number is odd.
abbrev pub is_odd : ℕ → Bool
is_odd zero = false
is_odd (suc m) = not (is_odd m)

-- The index of a letter before half turns that stood behind them: it is turned where their number is odd.
abbrev pub turned_index : ℕ → Bool → ℕ → ℕ
turned_index n odd i = if odd then n - i else i

-- The arrangements of a list behind half turns that stood before them: each is flipped where their number is
-- odd.
abbrev pub turned_factors : Bool → List (List ℕ) → List (List ℕ)
turned_factors odd ps = if odd then map flip ps else ps

-- The simple braid of a letter: that of the generator, or for an inverse the half turn without the generator
-- in front.
abbrev pub letter_factor : ℕ → ℕ → Bool → List ℕ
letter_factor n i negative = if negative then values_swapped i (half_turn n) else swapped i (identity n)

-- A half turn where one came out, and else nothing.
abbrev pub half_turn_if : ℕ → Bool → List (List ℕ)
half_turn_if n turned = if turned then half_turn n ∷ [] else []

-- What is owed for a list that ends with a simple braid to be taken in: a greedy list that begins with no
-- half turn, and behind it a half turn where one came out.
pub record IsTakenIn (n : ℕ) (start ps : List (List ℕ)) (turned : Bool) : Type 0 where
  pub orders : EachOrder n ps
  pub greedy : AreGreedy n ps
  pub begins : BeginsShort n ps
  pub keeps : KeepsFactors n start (ps ++ half_turn_if n turned)
