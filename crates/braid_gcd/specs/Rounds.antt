-- Greedy lists of simple braids from which common letters are taken out. No public clause cites this.
--
-- Source: D. Epstein and others, Word Processing in Groups, 1992, chapter 9.
--
--   IsPutIn n start qs           qs is a greedy list with the product of the list start
--   NoneCommon n p q             no index is a left descent of both
--   IsTakenOut n u v g ps qs     g and then the product of ps is u, and g and then that of qs is v
--   IsDivided n u v g ps qs      so it is, and both lists are greedy
--   ShareNone n ps qs            no generator divides the products of both lists
--   IsListOf n u qs              qs is a greedy list, and its product is the word u
--   IsSpelledWord n u w          w is the normal word of the positive word u
use Rattle.std.specs.Prelude.{ℕ, ◌<◌, ◌≤◌, List, ◌++◌}
use Rattle.braid_word.specs.Words.{Letter, IsPositiveWord}
use Rattle.braid_word.specs.Equivalence.{EquivalentOn}
use Rattle.perm_braid.specs.Arrangements.{IsLeftDescent}
use Rattle.garside_form.specs.NormalForms.{IsProduct}
use Rattle.garside_form.specs.FactorLists.{EachOrder, AreGreedy, KeepsFactors}
use Rattle.braid_gcd.specs.Divisors.{SharesNone}
use Rattle.braid_gcd.specs.NormalWords.{IsNormalWord}

-- A greedy list with the same product.
pub record IsPutIn (n : ℕ) (start qs : List (List ℕ)) : Type 0 where
  pub orders : EachOrder n qs
  pub greedy : AreGreedy n qs
  pub keeps : KeepsFactors n start qs

-- No index is a left descent of both.
abbrev pub NoneCommon : ℕ → List ℕ → List ℕ → Type 0
NoneCommon n p q = (i : ℕ) → 1 ≤ i → i < n → IsLeftDescent p i → IsLeftDescent q i → ⊥

-- The letters g were taken out of both words, and the lists are what is left.
pub record IsTakenOut (n : ℕ) (u v g : List Letter) (ps qs : List (List ℕ)) : Type 0 where
  pub positive : IsPositiveWord g
  pub first_orders : EachOrder n ps
  pub second_orders : EachOrder n qs
  pub first : (w : List Letter) → IsProduct n ps w → EquivalentOn n u (g ++ w)
  pub second : (w : List Letter) → IsProduct n qs w → EquivalentOn n v (g ++ w)

-- So it is, and what is left is greedy.
pub record IsDivided (n : ℕ) (u v g : List Letter) (ps qs : List (List ℕ)) : Type 0 where
  pub taken : IsTakenOut n u v g ps qs
  pub first_greedy : AreGreedy n ps
  pub second_greedy : AreGreedy n qs

-- No generator divides both products.
abbrev pub ShareNone : ℕ → List (List ℕ) → List (List ℕ) → Type 0
ShareNone n ps qs =
    (w x : List Letter) → IsProduct n ps w → IsProduct n qs x → SharesNone n w x

-- A greedy list of a word.
pub record IsListOf (n : ℕ) (u : List Letter) (qs : List (List ℕ)) : Type 0 where
  pub orders : EachOrder n qs
  pub greedy : AreGreedy n qs
  pub word : (w : List Letter) → IsProduct n qs w → EquivalentOn n u w

-- The word that the normal form of a positive word spells.
pub record IsSpelledWord (n : ℕ) (u w : List Letter) : Type 0 where
  pub normal : IsNormalWord n w
  pub equivalent : EquivalentOn n u w
