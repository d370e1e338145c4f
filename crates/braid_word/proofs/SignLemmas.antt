-- What the sign of a word says of it.
--
-- `HasParts` is what each sign tells of a word, and what determines its sign (`sign_of-HasParts`). A word of
-- a positive sign is sigma-positive (`IsSigmaPositiveAt-sign_of`) and the other way round
-- (`sign_of-IsSigmaPositiveAt`); so for negative and mixed ones. `Positive-iff` and its like have both ways.
--
-- What the sign of a word with one more letter is stands in `SignAppendLemmas`.
use Rattle.std.proofs.Common.{◌≡◌, ◌≢◌, ◌↔◌, ℕ, ◌≤◌, Bool, true, false, ◌⊎◌, inl, inr, List, [], ◌∷◌, length, take, refl, sym, subst, ap, ap₂, ◌∙◌, arith}
use Rattle.std.proofs.lemmas.Bool.{eqb-true, cases_lt, false_from_ne_true, or_cases, or_left, or_right, or_parts, and_parts, not-true, both_ways}
use Rattle.std.proofs.lemmas.List.{take_all}
use Rattle.braid_word.specs.Words.{Letter, letter, opposite, inverse, EachLetter, SomeLetter}
use Rattle.braid_word.specs.Order.{IsSigmaPositiveAt, IsSigmaNegativeAt, IsMixedAt}
use Rattle.braid_word.specs.Sign.{least_index, occurs, sign_of}
use Rattle.braid_word.specs.declared.sign.Sign.{Sign}
use Rattle.braid_word.specs.declared.sign.Sign.TheVariants.{Empty, Positive, Negative, Mixed}
use Rattle.braid_word.proofs.WordLemmas.{each_both, each_weaker, each_inverse, some_inverse, opposite-opposite, inverse-inverse}
use Rattle.braid_word.proofs.SignAppendLemmas.{occurs-below_least, is_letter-own, occurs-least, sign_by, sign_of-parts, Empty-sign_by}
pub use Rattle.braid_word.proofs.SignAppendLemmas.{is_letter, is_letter-higher}

-- ---- What a sign says ----

-- each index is at least i, and whether i occurs with each sign
pub record HasParts (i : ℕ) (negative positive : Bool) (w : List Letter) : Type 0 where
  pub at_least : EachLetter (λ x. i ≤ x.index) w
  pub negative_is : occurs i true w ≡ negative
  pub positive_is : occurs i false w ≡ positive

-- each index is at least the least one
each_least
    : (i : ℕ) (y : Letter) (v : List Letter)
    → i ≤ least_index y v
    → EachLetter (λ x. i ≤ x.index) (y ∷ v)
each_least i y [] below = (below, tt)
each_least i y (z ∷ v) below = (omega arith, each_least i z v (omega arith))

-- a word with a letter
HasParts-cons
    : (i : ℕ) (negative positive : Bool) (y : Letter) (v : List Letter)
    → least_index y v ≡ i
    → occurs (least_index y v) true (y ∷ v) ≡ negative
    → occurs (least_index y v) false (y ∷ v) ≡ positive
    → HasParts i negative positive (y ∷ v)
HasParts-cons i negative positive y v least negative_is positive_is =
    record {
      at_least = each_least i y v (omega arith);
      negative_is = subst (λ k. occurs k true (y ∷ v) ≡ negative) least negative_is;
      positive_is = subst (λ k. occurs k false (y ∷ v) ≡ positive) least positive_is;
    }

-- a sign by its parts that is positive, negative or mixed
sign_by-Positive
    : (k i : ℕ) (negative positive : Bool)
    → (negative ≡ true) ⊎ (positive ≡ true)
    → sign_by k negative positive ≡ Positive i
    → (k ≡ i) × (negative ≡ false) × (positive ≡ true)
sign_by-Positive k i true true some e = cc
sign_by-Positive k i true false some e = cc
sign_by-Positive k i false true some e = (cc, refl, refl)
sign_by-Positive k i false false some e = elim some [ inl h ↦ cc | inr h ↦ cc ]

sign_by-Negative
    : (k i : ℕ) (negative positive : Bool)
    → sign_by k negative positive ≡ Negative i
    → (k ≡ i) × (negative ≡ true) × (positive ≡ false)
sign_by-Negative k i true true e = cc
sign_by-Negative k i true false e = (cc, refl, refl)
sign_by-Negative k i false positive e = cc

sign_by-Mixed
    : (k i : ℕ) (negative positive : Bool)
    → sign_by k negative positive ≡ Mixed i
    → (k ≡ i) × (negative ≡ true) × (positive ≡ true)
sign_by-Mixed k i true true e = (cc, refl, refl)
sign_by-Mixed k i true false e = cc
sign_by-Mixed k i false positive e = cc

-- a word without a sign has no letter
pub sign_of-Empty : (w : List Letter) → sign_of w ≡ Empty → w ≡ []
sign_of-Empty [] is = refl
sign_of-Empty (y ∷ v) is = absurd (Empty-sign_by _ _ _ is)

-- the parts of a word whose sign is positive at i
pub HasParts-Positive
    : (i : ℕ) (w : List Letter)
    → sign_of w ≡ Positive i
    → HasParts i false true w
HasParts-Positive i [] is = cc
HasParts-Positive i (y ∷ v) is =
    let (least, negative, positive) = sign_by-Positive _ i _ _ (occurs-least _ y v refl) is in
    HasParts-cons i false true y v least negative positive

-- the parts of a word whose sign is negative at i
pub HasParts-Negative
    : (i : ℕ) (w : List Letter)
    → sign_of w ≡ Negative i
    → HasParts i true false w
HasParts-Negative i [] is = cc
HasParts-Negative i (y ∷ v) is =
    let (least, negative, positive) = sign_by-Negative _ i _ _ is in
    HasParts-cons i true false y v least negative positive

-- the parts of a word whose sign is mixed at i
pub HasParts-Mixed : (i : ℕ) (w : List Letter) → sign_of w ≡ Mixed i → HasParts i true true w
HasParts-Mixed i [] is = cc
HasParts-Mixed i (y ∷ v) is =
    let (least, negative, positive) = sign_by-Mixed _ i _ _ is in
    HasParts-cons i true true y v least negative positive

-- ---- Sigma-positive and sigma-negative words ----

-- a letter that is seen is the letter of that index and sign
is_letter-is
    : (i : ℕ) (negative : Bool) (x : Letter)
    → is_letter i negative x ≡ true
    → x ≡ letter i negative
is_letter-is i true x seen =
    let (index, sign) = and_parts _ _ seen in
    ap₂ letter (eqb-true _ _ index) sign
is_letter-is i false x seen =
    let (index, sign) = and_parts _ _ seen in
    ap₂ letter (eqb-true _ _ index) (not-true _ sign)

-- the letter of this index and sign is seen
is_letter-letter : (i : ℕ) (negative : Bool) → is_letter i negative (letter i negative) ≡ true
is_letter-letter i true = is_letter-own i true (letter i true) refl
is_letter-letter i false = is_letter-own i false (letter i false) refl

-- a letter that occurs
some_occurs
    : (i : ℕ) (negative : Bool) (w : List Letter)
    → occurs i negative w ≡ true
    → SomeLetter (λ x. x ≡ letter i negative) w
some_occurs i negative [] seen = cc
some_occurs i negative (x ∷ w) seen = elim (or_cases _ _ seen) [
  | inl here ↦ inl (is_letter-is i negative x here)
  | inr later ↦ inr (some_occurs i negative w later)
]

-- a letter that doesn't occur
each_occurs
    : (i : ℕ) (negative : Bool) (w : List Letter)
    → occurs i negative w ≡ false
    → EachLetter (λ x. x ≢ letter i negative) w
each_occurs i negative [] absent = tt
each_occurs i negative (x ∷ w) absent =
    let (here, later) = or_parts (is_letter i negative x) (occurs i negative w) absent in (
      λ same. both_ways _ here (ap (is_letter i negative) same ∙ is_letter-letter i negative),
      each_occurs i negative w later,
    )

-- a word of a positive sign is sigma-positive
pub IsSigmaPositiveAt-sign_of : (i : ℕ) (w : List Letter) → sign_of w ≡ Positive i → IsSigmaPositiveAt i w
IsSigmaPositiveAt-sign_of i w is =
    let parts = HasParts-Positive i w is in (
      some_occurs i false w parts.positive_is,
      each_both _ _ w parts.at_least (each_occurs i true w parts.negative_is),
    )

-- a word of a negative sign is sigma-negative
pub IsSigmaNegativeAt-sign_of : (i : ℕ) (w : List Letter) → sign_of w ≡ Negative i → IsSigmaNegativeAt i w
IsSigmaNegativeAt-sign_of i w is =
    let parts = HasParts-Negative i w is in (
      some_inverse _ _ (λ x same. ap opposite same) w (some_occurs i true w parts.negative_is),
      each_inverse _ _
          (λ x both. (both.0, λ same. both.1 (sym (opposite-opposite x) ∙ ap opposite same)))
          w
          (each_both _ _ w parts.at_least (each_occurs i false w parts.positive_is)),
    )

-- a word of a mixed sign has letters of both signs
pub IsMixedAt-sign_of : (i : ℕ) (w : List Letter) → sign_of w ≡ Mixed i → IsMixedAt i w
IsMixedAt-sign_of i w is =
    let parts = HasParts-Mixed i w is in (
      some_occurs i false w parts.positive_is,
      some_occurs i true w parts.negative_is,
      parts.at_least,
    )

-- ---- What determines a sign ----

-- the letter of this index and sign is in the word
occurs-some
    : (i : ℕ) (negative : Bool) (w : List Letter)
    → SomeLetter (λ x. x ≡ letter i negative) w
    → occurs i negative w ≡ true
occurs-some i negative [] some = absurd some
occurs-some i negative (x ∷ w) (inl here) =
    or_left _ _ (ap (is_letter i negative) here ∙ is_letter-letter i negative)
occurs-some i negative (x ∷ w) (inr later) = or_right _ _ (occurs-some i negative w later)

-- no letter is that of this index and sign
occurs-each
    : (i : ℕ) (negative : Bool) (w : List Letter)
    → EachLetter (λ x. x ≢ letter i negative) w
    → occurs i negative w ≡ false
occurs-each i negative [] absent = refl
occurs-each i negative (x ∷ w) absent =
    let here : is_letter i negative x ≡ false
    = false_from_ne_true _ (λ seen. absent.0 (is_letter-is i negative x seen)) in
    rw here (occurs-each i negative w absent.1)

-- the least index is at least what each index is
least_index-each
    : (i : ℕ) (y : Letter) (v : List Letter)
    → EachLetter (λ x. i ≤ x.index) (y ∷ v)
    → i ≤ least_index y v
least_index-each i y [] at_least = at_least.0
least_index-each i y (z ∷ v) at_least =
    let head : i ≤ y.index = at_least.0 in omega (arith, head, least_index-each i z v at_least.1)

-- an index that occurs, and below which none is, is the least
least_index-HasParts
    : (i : ℕ) (negative positive : Bool) (y : Letter) (v : List Letter)
    → HasParts i negative positive (y ∷ v)
    → (negative ≡ true) ⊎ (positive ≡ true)
    → least_index y v ≡ i
least_index-HasParts i negative positive y v parts some =
    let above = least_index-each i y v parts.at_least in
    elim (cases_lt i (least_index y v)) [
      | inl below ↦ elim some [
        | inl seen ↦ absurd (both_ways _ (occurs-below_least i true y v below) (parts.negative_is ∙ seen))
        | inr seen ↦ absurd (both_ways _ (occurs-below_least i false y v below) (parts.positive_is ∙ seen))
      ]
      | inr least ↦ omega (arith, above, least)
    ]

-- the sign of a word by the index that has parts
sign_of-HasParts
    : (i : ℕ) (negative positive : Bool) (w : List Letter)
    → HasParts i negative positive w
    → (negative ≡ true) ⊎ (positive ≡ true)
    → sign_of w ≡ sign_by i negative positive
sign_of-HasParts i negative positive [] parts some =
    let no_negative : false ≡ negative = parts.negative_is in
    let no_positive : false ≡ positive = parts.positive_is in
    elim some [ inl seen ↦ cc | inr seen ↦ cc ]
sign_of-HasParts i negative positive (y ∷ v) parts some =
    sign_of-parts y v i negative positive (least_index-HasParts i negative positive y v parts some)
    parts.negative_is parts.positive_is

-- a sigma-positive word has a positive sign
pub sign_of-IsSigmaPositiveAt : (i : ℕ) (w : List Letter) → IsSigmaPositiveAt i w → sign_of w ≡ Positive i
sign_of-IsSigmaPositiveAt i w (some, each) =
    let parts : HasParts i false true w = record {
      at_least = each_weaker _ _ (λ x p. p.0) w each;
      negative_is = occurs-each i true w (each_weaker _ _ (λ x p. p.1) w each);
      positive_is = occurs-some i false w some;
    } in
    sign_of-HasParts i false true w parts (inr refl)

-- a sigma-negative word has a negative sign
pub sign_of-IsSigmaNegativeAt : (i : ℕ) (w : List Letter) → IsSigmaNegativeAt i w → sign_of w ≡ Negative i
sign_of-IsSigmaNegativeAt i w (some, each) =
    let turned_some : SomeLetter (λ x. x ≡ letter i true) (inverse (inverse w))
    = some_inverse _ _ (λ x here. ap opposite here) (inverse w) some in
    let turned_each : EachLetter (λ x. (i ≤ x.index) × (x ≢ letter i false)) (inverse (inverse w))
    = each_inverse _ _
    (λ x both. (both.0, λ here. both.1 (sym (opposite-opposite x) ∙ ap opposite here)))
    (inverse w) each in
    let each_letter : EachLetter (λ x. (i ≤ x.index) × (x ≢ letter i false)) w
    = subst (EachLetter (λ x. (i ≤ x.index) × (x ≢ letter i false))) (inverse-inverse w) turned_each in
    let parts : HasParts i true false w = record {
      at_least = each_weaker _ _ (λ x p. p.0) w each_letter;
      negative_is = occurs-some i true w
          (subst (SomeLetter (λ x. x ≡ letter i true)) (inverse-inverse w) turned_some);
      positive_is = occurs-each i false w (each_weaker _ _ (λ x p. p.1) w each_letter);
    } in
    sign_of-HasParts i true false w parts (inl refl)

-- a word with letters of both signs at its least index has a mixed sign
pub sign_of-IsMixedAt : (i : ℕ) (w : List Letter) → IsMixedAt i w → sign_of w ≡ Mixed i
sign_of-IsMixedAt i w (positive, negative, each) =
    let parts : HasParts i true true w = record {
      at_least = each;
      negative_is = occurs-some i true w negative;
      positive_is = occurs-some i false w positive;
    } in
    sign_of-HasParts i true true w parts (inl refl)

-- ---- Both ways ----

-- the sign of all letters is the sign of the word
pub sign_of-take
    : (s : Sign) (w : List Letter) (k : ℕ)
    → s ≡ sign_of (take k w)
    → length w ≤ k
    → s ≡ sign_of w
sign_of-take s w k is all = is ∙ ap sign_of (take_all k w all)

-- a sign is positive exactly where the word is sigma-positive
pub Positive-iff
    : (s : Sign) (w : List Letter)
    → s ≡ sign_of w
    → (i : ℕ)
    → (s ≡ Positive i) ↔ IsSigmaPositiveAt i w
Positive-iff s w is i = (
  λ sign. IsSigmaPositiveAt-sign_of i w (sym is ∙ sign),
  λ positive. is ∙ sign_of-IsSigmaPositiveAt i w positive,
)

-- it is negative exactly where the word is sigma-negative
pub Negative-iff
    : (s : Sign) (w : List Letter)
    → s ≡ sign_of w
    → (i : ℕ)
    → (s ≡ Negative i) ↔ IsSigmaNegativeAt i w
Negative-iff s w is i = (
  λ sign. IsSigmaNegativeAt-sign_of i w (sym is ∙ sign),
  λ negative. is ∙ sign_of-IsSigmaNegativeAt i w negative,
)

-- it is mixed exactly where the word has letters of both signs at its least index
pub Mixed-iff : (s : Sign) (w : List Letter) → s ≡ sign_of w → (i : ℕ) → (s ≡ Mixed i) ↔ IsMixedAt i w
Mixed-iff s w is i = (
  λ sign. IsMixedAt-sign_of i w (sym is ∙ sign),
  λ mixed. is ∙ sign_of-IsMixedAt i w mixed,
)

-- it is empty exactly where the word is
pub Empty-iff : (s : Sign) (w : List Letter) → s ≡ sign_of w → (s ≡ Empty) ↔ (w ≡ [])
Empty-iff s w is = (λ sign. sign_of-Empty w (sym is ∙ sign), λ none. is ∙ ap sign_of none)
