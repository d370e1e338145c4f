-- Positive words as their normal forms spell them, and what is answered of two words.
--
-- Source: the left greedy normal form, after F. A. Garside, The braid group and other groups, 1969, and
-- D. Epstein and others, Word Processing in Groups, 1992, chapter 9.
--
--   IsNormalWord n w          w is what some normal form on n strands spells, with a power of the half turn
--                             that is not negative
--   Answer                    a divisor and what is left of two words behind it
--   IsAnswerOf n u v g a b    g is the greatest common divisor of u and v, and a and b are what is left of
--                             them behind it, each as such a word
use Rattle.std.specs.Prelude.{ℕ, pos, List, ◌++◌}
use Rattle.braid_word.specs.Words.{Letter}
use Rattle.braid_word.specs.Equivalence.{EquivalentOn}
use Rattle.garside_form.specs.NormalForms.{IsNormal, IsSpelled}
use Rattle.braid_gcd.specs.Divisors.{IsGreatest}

-- A power of the half turn, and then the words of the factors of a normal form.
pub record IsNormalWord (n : ℕ) (w : List Letter) : Type 0 where
  pub power : ℕ
  pub factors : List (List ℕ)
  pub normal : IsNormal n factors
  pub spelled : IsSpelled n (pos power) factors w

-- The greatest common divisor of two words and the words behind it.
pub record IsAnswerOf (n : ℕ) (u v g a b : List Letter) : Type 0 where
  pub divisor : IsNormalWord n g
  pub left : IsNormalWord n a
  pub right : IsNormalWord n b
  pub first : EquivalentOn n (g ++ a) u
  pub second : EquivalentOn n (g ++ b) v
  pub greatest : IsGreatest n u v g

-- A divisor of two words, and the words behind it.
pub record Answer : Type 0 where
  pub divisor : List Letter
  pub left : List Letter
  pub right : List Letter

-- The answer of these words.
abbrev pub answer : List Letter → List Letter → List Letter → Answer
answer divisor left right = record { divisor = divisor; left = left; right = right }
