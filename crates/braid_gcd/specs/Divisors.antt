-- Left divisors of positive braids, and the greatest common one.
--
-- A positive word divides another on the left where some positive word behind it gives an equivalent one.
-- Source: F. A. Garside, The braid group and other groups, 1969, who shows that each two positive braids
-- have a greatest common divisor on either side; the side is this project's.
--
--   Divides n a b        some positive word behind a gives a word that is equivalent to b on n strands
--   IsGreatest n u v g   g is positive and divides u and v, and each positive word that divides both divides
--                        it
--   SharesNone n u v     no generator divides both u and v
--
-- That two positive words have such a divisor, and but one up to equivalence, is the contract of
-- `law_greatest`.
use Rattle.std.specs.Prelude.{ℕ, List, [], ◌∷◌, ◌++◌}
use Rattle.braid_word.specs.Words.{Letter, IsPositiveWord}
use Rattle.braid_word.specs.Equivalence.{EquivalentOn}
use Rattle.perm_braid.specs.SimpleWords.{generator}

-- Some positive word behind the first gives the second: on 3 strands `2` divides `1 2 1`, as `2 1 2` is
-- equivalent to it.
pub record Divides (n : ℕ) (a b : List Letter) : Type 0 where
  pub rest : List Letter
  pub positive : IsPositiveWord rest
  pub product : EquivalentOn n (a ++ rest) b

-- The greatest common divisor of u and v: each other one divides it.
pub record IsGreatest (n : ℕ) (u v g : List Letter) : Type 0 where
  pub positive : IsPositiveWord g
  pub first : Divides n g u
  pub second : Divides n g v
  pub greatest : (e : List Letter) → IsPositiveWord e → Divides n e u → Divides n e v → Divides n e g

-- No generator divides both.
abbrev pub SharesNone : ℕ → List Letter → List Letter → Type 0
SharesNone n u v =
    (i : ℕ) → Divides n (generator i ∷ []) u → Divides n (generator i ∷ []) v → ⊥
