-- Laws of the tests of a checker: of words (`Decides-word_eq`), of fractions (`is_split-is`,
-- `is_split-IsBehindFront`), and of steps, which are made exactly where a corner stands and the word with it
-- turned isn't too long (`stepped-is`, `stepped-IsStep`).
use Rattle.std.proofs.Common.{◌≡◌, ℕ, suc, ◌+◌, ◌-◌, ◌≤◌, ◌==◌, Bool, true, false, not, cond, ltb, List, [], ◌∷◌, ◌++◌, length, drop, Option, None, is_some, Ok, Err, refl, sym, ap, ap₂, subst, arith}
use Rattle.std.specs.Bool.{Decides}
use Rattle.std.specs.Cmp.{booleans_Decides}
use Rattle.std.specs.List.{position_or_len}
use Rattle.std.proofs.lemmas.Bool.{and_parts, and_from, eq-eqb, eqb-true, not-true, ltb-false, le-ltb}
use Rattle.std.proofs.lemmas.Slice.Eq.{slice_eq-Decides}
use Rattle.wb_base.proofs.PartLemmas.{Ok-injective, Ok-cond, is_some-None, position-None}
use Rattle.braid_word.specs.Words.{Letter, letter, inverse, IsPositiveWord, first_negative}
use Rattle.braid_word.specs.declared.TheConstants.{MAX_LETTERS}
use Rattle.braid_word.proofs.NegativeLemmas.{first_negative-positive}
use Rattle.word_reverse.specs.Corners.{begins_with_corner, IsCorner, turned_at}
use Rattle.word_reverse.specs.Checking.{letter_eq, word_eq, is_split, stepped_to, stepped}
use Rattle.word_reverse.specs.declared.fraction.ReverseWhy.TheVariants.{Step, Long}
use Rattle.word_reverse.proofs.CornerLemmas.{IsCorner-begins, begins-IsCorner}

-- ---- Words ----

-- the test of two letters
Decides-letter_eq : (x y : Letter) → Decides (letter_eq x y) (x ≡ y)
Decides-letter_eq x y = (
  λ pass.
      let (index, sign) = and_parts (x.index == y.index) _ pass in
      let same_index = eqb-true x.index y.index index in
      let same_sign = (booleans_Decides x.negative y.negative).0 sign in
      ap₂ letter same_index same_sign,
  λ same.
      subst (λ (z : Letter). letter_eq x z ≡ true) same
      (and_from (x.index == x.index) _ (eq-eqb x.index x.index refl)
      ((booleans_Decides x.negative x.negative).1 refl)),
)

-- the test of two words
pub Decides-word_eq : (u v : List Letter) → Decides (word_eq u v) (u ≡ v)
Decides-word_eq u v = slice_eq-Decides Decides-letter_eq u v (word_eq u v) refl

-- ---- Fractions ----

-- a word whose letters up to its end aren't inverse is positive
positive-all
    : (w : List Letter)
    → length w ≤ position_or_len (λ (x : Letter). x.negative) w
    → IsPositiveWord w
positive-all [] all = tt
positive-all (x ∷ w) all = by_sign x.negative refl all (positive-all w)
  where
    by_sign
        : (sign : Bool)
        → x.negative ≡ sign
        → suc (length w) ≤ cond (not sign) (1 + position_or_len (λ (x : Letter). x.negative) w) 0
        → (length w ≤ position_or_len (λ (x : Letter). x.negative) w → IsPositiveWord w)
        → IsPositiveWord (x ∷ w)
    by_sign true is all rest = absurd (omega (arith, all))
    by_sign false is all rest = (is, rest (omega (arith, all)))

-- where no letter is inverse the word is positive
positive-first_negative : (w : List Letter) → first_negative w ≡ None → IsPositiveWord w
positive-first_negative w none = positive-all w (position-None (λ (x : Letter). x.negative) w none)

-- What passes the test of a fraction: v is positive, and the word is u v^-1.
pub record IsBehindFront (w u v : List Letter) : Type 0 where
  pub positive : IsPositiveWord v
  pub is : w ≡ u ++ inverse v

-- what passes the test
pub is_split-is : (w u v : List Letter) → is_split w u v ≡ true → IsBehindFront w u v
is_split-is w u v pass =
    let (free, same) = and_parts (not (is_some (first_negative v))) (word_eq w (u ++ inverse v)) pass in
    record {
      positive = positive-first_negative v (is_some-None (first_negative v) (not-true _ free));
      is = (Decides-word_eq w (u ++ inverse v)).0 same;
    }

-- and what it is passes
pub is_split-IsBehindFront : (w u v : List Letter) → IsBehindFront w u v → is_split w u v ≡ true
is_split-IsBehindFront w u v is =
    and_from (not (is_some (first_negative v))) (word_eq w (u ++ inverse v))
    (ap (λ (o : Option ℕ). not (is_some o)) (first_negative-positive v is.positive))
    ((Decides-word_eq w (u ++ inverse v)).1 is.is)

-- ---- Steps ----

-- A step can be made: a corner stands there, and the word with it turned isn't too long.
pub record IsStep (w : List Letter) (p : ℕ) : Type 0 where
  pub corner : IsCorner w (p - 1)
  pub short : length (turned_at w (p - 1)) ≤ MAX_LETTERS

-- a word that is given isn't too long
stepped_to-is
    : (w v : List Letter)
    → stepped_to w ≡ Ok v
    → (length w ≤ MAX_LETTERS) × (v ≡ w)
stepped_to-is w v is = go (ltb MAX_LETTERS (length w)) refl is
  where
    go
        : (long : Bool)
        → ltb MAX_LETTERS (length w) ≡ long
        → cond long (Err Long) (Ok w) ≡ Ok v
        → (length w ≤ MAX_LETTERS) × (v ≡ w)
    go true test is = absurd (cc)
    go false test is = (ltb-false _ _ test, sym (Ok-injective w v is))

-- a step that is made turns a corner
pub stepped-is
    : (w : List Letter) (p : ℕ) (v : List Letter)
    → stepped w p ≡ Ok v
    → IsStep w p × (v ≡ turned_at w (p - 1))
stepped-is w p v is =
    let next = turned_at w (p - 1) in
    let (begins, to) = Ok-cond (begins_with_corner (drop (p - 1) w)) (stepped_to next) Step v is in
    let (short, same) = stepped_to-is next v to in
    (record { corner = IsCorner-begins w (p - 1) begins; short = short }, same)

-- a corner is turned, where the word isn't too long
pub stepped-IsStep : (w : List Letter) (p : ℕ) → IsStep w p → stepped w p ≡ Ok (turned_at w (p - 1))
stepped-IsStep w p is =
    let begins = begins-IsCorner w (p - 1) is.corner in
    rw (begins, le-ltb MAX_LETTERS (length (turned_at w (p - 1))) is.short) refl
