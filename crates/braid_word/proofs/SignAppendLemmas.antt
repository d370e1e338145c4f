-- Laws of the sign of a word.
--
-- The sign of a word with one more letter at its end is determined by the sign before and the
-- letter: `sign_of-append_lower`, `.._higher`, `.._alike` and `.._mixed`.
use Rattle.std.proofs.Common.{◌≡◌, ℕ, ◌<◌, ◌==◌, min, Bool, true, false, cond, not, ◌&&◌, ◌||◌, ◌⊎◌, inl, inr, List, [], ◌∷◌, ◌++◌, refl, sym, subst, ap, ap₂, ◌∙◌, arith}
use Rattle.std.proofs.lemmas.Bool.{ne_eqb, eq-eqb, and_left, cases_eq, cases_Bool, or_left, or_right}
use Rattle.std.proofs.Math.Bool.{or-false}
use Rattle.std.proofs.lemmas.List.Folds.{list_any-append}
use Rattle.braid_word.specs.Words.{Letter}
use Rattle.braid_word.specs.Sign.{least_index, occurs, sign_at, sign_of}
use Rattle.braid_word.specs.declared.sign.Sign.{Sign}
use Rattle.braid_word.specs.declared.sign.Sign.TheVariants.{Empty, Positive, Negative, Mixed}

-- ---- The least index and the letters that have it ----

-- the least index with one more letter at the end
pub least_index-append
    : (y : Letter) (v : List Letter) (x : Letter)
    → least_index y (v ++ x ∷ []) ≡ min (least_index y v) x.index
least_index-append y [] x = refl
least_index-append y (z ∷ v) x = omega (arith, least_index-append z v x)

-- whether a letter has this index and sign
abbrev pub is_letter : ℕ → Bool → Letter → Bool
is_letter i negative x = (x.index == i) && cond negative x.negative (not x.negative)

-- a letter of another index isn't of index i
pub is_letter-higher
    : (i : ℕ) (negative : Bool) (x : Letter)
    → i < x.index
    → is_letter i negative x ≡ false
is_letter-higher i negative x below = and_left _ _ (ne_eqb x.index i (λ e. omega arith))

-- no letter has an index below the least
pub occurs-below_least
    : (i : ℕ) (negative : Bool) (y : Letter) (v : List Letter)
    → i < least_index y v
    → occurs i negative (y ∷ v) ≡ false
occurs-below_least i negative y [] below = rw is_letter-higher
occurs-below_least i negative y (z ∷ v) below =
    let head : i < y.index = omega arith in
    let rest : i < least_index z v = omega arith in
    rw (is_letter-higher i negative y head) (occurs-below_least i negative z v rest)

-- a letter of this index is seen by its sign
pub is_letter-own
    : (i : ℕ) (negative : Bool) (x : Letter)
    → x.index ≡ i
    → is_letter i negative x ≡ cond negative x.negative (not x.negative)
is_letter-own i negative x index = rw (eq-eqb x.index i index)

-- a letter of this index occurs with one of the signs
own_sign
    : (i : ℕ) (x : Letter) (w : List Letter)
    → x.index ≡ i
    → (occurs i true (x ∷ w) ≡ true) ⊎ (occurs i false (x ∷ w) ≡ true)
own_sign i x w index = elim (cases_Bool x.negative) [
  | inl sign ↦ inl (or_left _ _ (is_letter-own i true x index ∙ sign))
  | inr sign ↦ inr (or_left _ _ (is_letter-own i false x index ∙ ap not sign))
]

-- some letter has the least index
pub occurs-least
    : (i : ℕ) (y : Letter) (v : List Letter)
    → least_index y v ≡ i
    → (occurs i true (y ∷ v) ≡ true) ⊎ (occurs i false (y ∷ v) ≡ true)
occurs-least i y [] least = own_sign i y [] least
occurs-least i y (z ∷ v) least = elim (cases_eq y.index i) [
  | inl own ↦ own_sign i y (z ∷ v) own
  | inr other ↦ elim (occurs-least i z v (omega arith)) [
    | inl seen ↦ inl (or_right _ _ seen)
    | inr seen ↦ inr (or_right _ _ seen)
  ]
]

-- ---- The sign by its parts ----

-- the sign of a word of least index i in which these two signs occur with it
abbrev pub sign_by : ℕ → Bool → Bool → Sign
sign_by i negative positive = cond negative (cond positive (Mixed i) (Negative i)) (Positive i)

-- the sign of a word by its least index and what occurs with it
pub sign_of-parts
    : (y : Letter) (v : List Letter) (i : ℕ) (negative positive : Bool)
    → least_index y v ≡ i
    → occurs i true (y ∷ v) ≡ negative
    → occurs i false (y ∷ v) ≡ positive
    → sign_of (y ∷ v) ≡ sign_by i negative positive
sign_of-parts y v i negative positive least true_is false_is =
    ap (λ k. sign_at k (y ∷ v)) least ∙ ap₂ (sign_by i) true_is false_is

-- whether a letter occurs, with one more letter at the end
pub occurs-append
    : (i : ℕ) (negative : Bool) (w : List Letter) (x : Letter)
    → occurs i negative (w ++ x ∷ []) ≡ (occurs i negative w || is_letter i negative x)
occurs-append i negative w x =
    list_any-append (is_letter i negative) w (x ∷ []) ∙
    ap (λ b. occurs i negative w || b) (or-false (is_letter i negative x))

-- a sign with this index
abbrev pub HasLeast : Sign → ℕ → Type 0
HasLeast s i = (s ≡ Positive i) ⊎ (s ≡ Negative i) ⊎ (s ≡ Mixed i)

-- a sign by its parts has that index alone
sign_by-index
    : (i k : ℕ) (negative positive : Bool)
    → HasLeast (sign_by k negative positive) i
    → k ≡ i
sign_by-index i k true true h = elim h [ inl e ↦ cc | inr (inl e) ↦ cc | inr (inr e) ↦ cc ]
sign_by-index i k true false h = elim h [ inl e ↦ cc | inr (inl e) ↦ cc | inr (inr e) ↦ cc ]
sign_by-index i k false sign h = elim h [ inl e ↦ cc | inr (inl e) ↦ cc | inr (inr e) ↦ cc ]

-- the empty sign has no index
HasLeast-Empty : (s : Sign) (i : ℕ) → HasLeast s i → s ≡ Empty → ⊥
HasLeast-Empty s i h empty = elim h [ inl e ↦ cc | inr (inl e) ↦ cc | inr (inr e) ↦ cc ]

-- a word with a letter has a sign
pub Empty-sign_by : (i : ℕ) (negative positive : Bool) → sign_by i negative positive ≡ Empty → ⊥
Empty-sign_by i true true e = cc
Empty-sign_by i true false e = cc
Empty-sign_by i false positive e = cc

-- the sign of one letter
sign_of-single
    : (i : ℕ) (x : Letter)
    → x.index ≡ i
    → sign_of (x ∷ []) ≡ sign_by i x.negative (not x.negative)
sign_of-single i x index =
    sign_of-parts x [] i x.negative (not x.negative) index
    (or-false _ ∙ is_letter-own i true x index)
    (or-false _ ∙ is_letter-own i false x index)

-- a letter of the one sign that occurs doesn't change it
sign_by-alike
    : (i : ℕ) (negative positive sign : Bool)
    → (negative ≡ true) ⊎ (positive ≡ true)
    → sign_by i negative positive ≡ sign_by i sign (not sign)
    → sign_by i (negative || sign) (positive || not sign) ≡ sign_by i negative positive
sign_by-alike i true true sign some e = refl
sign_by-alike i true false true some e = refl
sign_by-alike i true false false some e = cc
sign_by-alike i false true true some e = cc
sign_by-alike i false true false some e = refl
sign_by-alike i false false sign some e = elim some [ inl h ↦ cc | inr h ↦ cc ]

-- a letter of another sign makes it mixed
sign_by-mixed
    : (i : ℕ) (negative positive sign : Bool)
    → (negative ≡ true) ⊎ (positive ≡ true)
    → (sign_by i sign (not sign) ≡ sign_by i negative positive → ⊥)
    → sign_by i (negative || sign) (positive || not sign) ≡ Mixed i
sign_by-mixed i true true sign some other = refl
sign_by-mixed i true false true some other = absurd (other refl)
sign_by-mixed i true false false some other = refl
sign_by-mixed i false true true some other = refl
sign_by-mixed i false true false some other = absurd (other refl)
sign_by-mixed i false false sign some other = elim some [ inl h ↦ cc | inr h ↦ cc ]

-- ---- One more letter at the end ----

-- the least index of a word whose sign has this index
least_index-sign
    : (s : Sign) (i : ℕ) (y : Letter) (v : List Letter)
    → HasLeast s i
    → s ≡ sign_of (y ∷ v)
    → least_index y v ≡ i
least_index-sign s i y v has is = sign_by-index i _ _ _ (subst (λ z. HasLeast z i) is has)

-- a letter below the least index has that index and sign alone
occurs-append_lower
    : (negative : Bool) (x y : Letter) (v : List Letter)
    → x.index < least_index y v
    → occurs x.index negative ((y ∷ v) ++ x ∷ []) ≡ (is_letter x.index negative x || false)
occurs-append_lower negative x y v below =
    occurs-append x.index negative (y ∷ v) x ∙
    rw (occurs-below_least x.index negative y v below) (sym (or-false _))

-- the letter has a lower index than all before
pub sign_of-append_lower
    : (s : Sign) (i : ℕ) (x : Letter)
    → HasLeast s i
    → x.index < i
    → (w : List Letter)
    → s ≡ sign_of w
    → sign_of (x ∷ []) ≡ sign_of (w ++ x ∷ [])
sign_of-append_lower s i x has below [] is = absurd (HasLeast-Empty s i has is)
sign_of-append_lower s i x has below (y ∷ v) is =
    let before : least_index y v ≡ i = least_index-sign s i y v has is in
    let under : x.index < least_index y v = omega arith in
    let least : least_index y (v ++ x ∷ []) ≡ x.index = omega (arith, least_index-append y v x) in
    sym (sign_of-parts y (v ++ x ∷ []) x.index _ _ least
    (occurs-append_lower true x y v under)
    (occurs-append_lower false x y v under))

-- a letter above an index doesn't change what occurs with it
occurs-append_higher
    : (i : ℕ) (negative : Bool) (w : List Letter) (x : Letter)
    → i < x.index
    → occurs i negative (w ++ x ∷ []) ≡ occurs i negative w
occurs-append_higher i negative w x above =
    occurs-append i negative w x ∙ rw (is_letter-higher i negative x above) (or-false _)

-- the letter has a higher index than the least before
pub sign_of-append_higher
    : (s : Sign) (i : ℕ) (x : Letter)
    → HasLeast s i
    → i < x.index
    → (w : List Letter)
    → s ≡ sign_of w
    → s ≡ sign_of (w ++ x ∷ [])
sign_of-append_higher s i x has above [] is = absurd (HasLeast-Empty s i has is)
sign_of-append_higher s i x has above (y ∷ v) is =
    let m = least_index y v in
    let before : m ≡ i = least_index-sign s i y v has is in
    let over : m < x.index = omega arith in
    let least : least_index y (v ++ x ∷ []) ≡ m = omega (arith, least_index-append y v x) in
    is ∙ sym (sign_of-parts y (v ++ x ∷ []) m _ _ least
    (occurs-append_higher m true (y ∷ v) x over)
    (occurs-append_higher m false (y ∷ v) x over))

-- the sign before, and after a letter of the least index
record Joined (s : Sign) (i : ℕ) (x : Letter) (w : List Letter) (negative positive : Bool)
    : Type 0 where
  some : (negative ≡ true) ⊎ (positive ≡ true)
  before : s ≡ sign_by i negative positive
  alone : sign_of (x ∷ []) ≡ sign_by i x.negative (not x.negative)
  after : sign_of (w ++ x ∷ []) ≡ sign_by i (negative || x.negative) (positive || not x.negative)

-- with the signs of the least index that occur
Joined-cons
    : (s : Sign) (i : ℕ) (x y : Letter) (v : List Letter)
    → HasLeast s i
    → x.index ≡ i
    → s ≡ sign_of (y ∷ v)
    → Joined s i x (y ∷ v) (occurs i true (y ∷ v)) (occurs i false (y ∷ v))
Joined-cons s i x y v has index is =
    let before : least_index y v ≡ i = least_index-sign s i y v has is in
    let least : least_index y (v ++ x ∷ []) ≡ i = omega (arith, least_index-append y v x) in
    record {
      some = occurs-least i y v before;
      before = is ∙ sign_of-parts y v i _ _ before refl refl;
      alone = sign_of-single i x index;
      after = sign_of-parts y (v ++ x ∷ []) i _ _ least
          (occurs-append i true (y ∷ v) x ∙
          ap (λ b. occurs i true (y ∷ v) || b) (is_letter-own i true x index))
          (occurs-append i false (y ∷ v) x ∙
          ap (λ b. occurs i false (y ∷ v) || b) (is_letter-own i false x index));
    }

-- the letter has the least index and the one sign before
pub sign_of-append_alike
    : (s : Sign) (i : ℕ) (x : Letter)
    → HasLeast s i
    → x.index ≡ i
    → sign_of (x ∷ []) ≡ s
    → (w : List Letter)
    → s ≡ sign_of w
    → s ≡ sign_of (w ++ x ∷ [])
sign_of-append_alike s i x has index alike [] is = absurd (HasLeast-Empty s i has is)
sign_of-append_alike s i x has index alike (y ∷ v) is =
    let j = Joined-cons s i x y v has index is in
    let same = sign_by-alike i _ _ x.negative j.some (sym j.before ∙ sym alike ∙ j.alone) in
    j.before ∙ sym same ∙ sym j.after

-- the letter has the least index, and not the one sign before
pub sign_of-append_mixed
    : (s : Sign) (i : ℕ) (x : Letter)
    → HasLeast s i
    → x.index ≡ i
    → (sign_of (x ∷ []) ≡ s → ⊥)
    → (w : List Letter)
    → s ≡ sign_of w
    → Mixed i ≡ sign_of (w ++ x ∷ [])
sign_of-append_mixed s i x has index other [] is = absurd (HasLeast-Empty s i has is)
sign_of-append_mixed s i x has index other (y ∷ v) is =
    let j = Joined-cons s i x y v has index is in
    let both = sign_by-mixed i _ _ x.negative j.some (λ e. other (j.alone ∙ e ∙ sym j.before)) in
    sym both ∙ sym j.after
