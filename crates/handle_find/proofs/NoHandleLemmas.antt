-- The sign of a word without a handle.
--
-- Where no letter has an index below i and there is no handle, the letters of index i have one sign
-- (`HasOneSign-HasNoHandle`). So the sign of such a word isn't mixed (`HasNoHandle-Mixed`), and the
-- word is empty, sigma-positive or sigma-negative (`HasNoHandle-signed`).
use Rattle.std.proofs.Common.{◌≡◌, ℕ, zero, suc, ◌<◌, ◌≤◌, ◌==◌, Bool, true, false, not, ◌⊎◌, List, [], ◌∷◌, length, refl, sym, ap, ◌∙◌, inl, inr, arith}
use Rattle.std.proofs.Math.Bool.{not-not}
use Rattle.std.proofs.lemmas.Bool.{cases_eq, both_ways, or_from, and_right}
use Rattle.braid_word.specs.Words.{Letter, EachLetter}
use Rattle.braid_word.specs.Sign.{occurs, sign_of}
use Rattle.braid_word.specs.Order.{IsSigmaPositive, IsSigmaNegative}
use Rattle.braid_word.specs.declared.sign.Sign.{Sign}
use Rattle.braid_word.specs.declared.sign.Sign.TheVariants.{Empty, Positive, Negative, Mixed}
use Rattle.braid_word.proofs.WordLemmas.{same_or_opposite}
use Rattle.braid_word.proofs.SignLemmas.{HasParts, HasParts-Mixed, is_letter, is_letter-higher, sign_of-Empty, IsSigmaPositiveAt-sign_of, IsSigmaNegativeAt-sign_of}
use Rattle.handle_find.specs.Handles.{at, IsHandle, HasNoHandle}

-- ---- A letter before a word ----

-- a handle of a word is one of the word with a letter before it
pub IsHandle-cons
    : (x : Letter) (w : List Letter) (p q : ℕ)
    → IsHandle w p q
    → IsHandle (x ∷ w) (suc p) (suc q)
IsHandle-cons x w p q h =
    record {
      ordered = omega arith;
      within = omega arith;
      one_index = h.one_index;
      opposite_signs = h.opposite_signs;
      higher_between = between;
    }
  where
    between : (k : ℕ) → suc p < k → k < suc q → (at w p).index < (at (x ∷ w) k).index
    between zero above below = absurd (omega arith)
    between (suc k) above below = h.higher_between k (omega arith) (omega arith)

-- so the rest of a word without a handle has none
HasNoHandle-cons : (x : Letter) (w : List Letter) → HasNoHandle (x ∷ w) → HasNoHandle w
HasNoHandle-cons x w none p q h = none (suc p) (suc q) (IsHandle-cons x w p q h)

-- a higher letter before higher ones
higher-cons
    : (i : ℕ) (x : Letter) (w : List Letter) (n : ℕ)
    → i < x.index
    → ((k : ℕ) → k < n → i < (at w k).index)
    → (k : ℕ)
    → k < suc n
    → i < (at (x ∷ w) k).index
higher-cons i x w n head rest zero below = head
higher-cons i x w n head rest (suc k) below = rest k (omega arith)

-- ---- The letters of one index ----

-- the letters of index i have this sign; one stands at this place, with higher letters before it
pub record OneSign (i : ℕ) (negative : Bool) (w : List Letter) (place : ℕ) : Type 0 where
  pub within : place < length w
  pub index : (at w place).index ≡ i
  pub sign : (at w place).negative ≡ negative
  pub higher_before : (k : ℕ) → k < place → i < (at w k).index
  pub no_other : occurs i (not negative) w ≡ false

-- no letter has index i
abbrev pub IsAbsent : ℕ → List Letter → Type 0
IsAbsent i w = (negative : Bool) → occurs i negative w ≡ false

-- a letter isn't seen at the other sign
is_letter-not
    : (i : ℕ) (negative : Bool) (x : Letter)
    → x.negative ≡ negative
    → is_letter i (not negative) x ≡ false
is_letter-not i true x sign = and_right (x.index == i) _ (ap not sign)
is_letter-not i false x sign = and_right (x.index == i) _ sign

-- a higher letter before a word
OneSign-cons
    : (i : ℕ) (negative : Bool) (x : Letter) (w : List Letter) (place : ℕ)
    → i < x.index
    → OneSign i negative w place
    → OneSign i negative (x ∷ w) (suc place)
OneSign-cons i negative x w place above h =
    record {
      within = omega arith;
      index = h.index;
      sign = h.sign;
      higher_before = higher-cons i x w place above h.higher_before;
      no_other = or_from _ _ (is_letter-higher i (not negative) x above) h.no_other;
    }

-- a letter of index i before a word in which the other sign doesn't occur
OneSign-head
    : (i : ℕ) (negative : Bool) (x : Letter) (w : List Letter)
    → x.index ≡ i
    → x.negative ≡ negative
    → occurs i (not negative) w ≡ false
    → OneSign i negative (x ∷ w) 0
OneSign-head i negative x w index sign no_other =
    record {
      within = omega arith;
      index = index;
      sign = sign;
      higher_before = λ k below. absurd (omega arith);
      no_other = or_from _ _ (is_letter-not i negative x sign) no_other;
    }

-- a letter of index i before the first one of the other sign starts a handle
IsHandle-head
    : (i : ℕ) (negative : Bool) (x : Letter) (w : List Letter) (place : ℕ)
    → x.index ≡ i
    → x.negative ≡ not negative
    → OneSign i negative w place
    → IsHandle (x ∷ w) 0 (suc place)
IsHandle-head i negative x w place index sign h =
    record {
      ordered = omega arith;
      within = omega arith;
      one_index = h.index ∙ sym index;
      opposite_signs = rw (h.sign, sign) (sym (not-not negative));
      higher_between = between;
    }
  where
    between : (k : ℕ) → 0 < k → k < suc place → x.index < (at (x ∷ w) k).index
    between zero above below = absurd (omega arith)
    between (suc k) above below = rw index (h.higher_before k (omega arith))

-- the letters of index i have one sign
pub record HasOneSign (i : ℕ) (w : List Letter) : Type 0 where
  pub negative : Bool
  pub place : ℕ
  pub one_sign : OneSign i negative w place

-- a letter of index i before a word
HasOneSign-head
    : (i : ℕ) (x : Letter) (w : List Letter)
    → x.index ≡ i
    → HasNoHandle (x ∷ w)
    → IsAbsent i w ⊎ HasOneSign i w
    → HasOneSign i (x ∷ w)
HasOneSign-head i x w index none (inl absent) =
    record {
      negative = x.negative;
      place = 0;
      one_sign = OneSign-head i x.negative x w index refl (absent (not x.negative));
    }
HasOneSign-head i x w index none (inr h) = elim (same_or_opposite x.negative h.negative) [
  | inl same ↦
      record {
        negative = h.negative;
        place = 0;
        one_sign = OneSign-head i h.negative x w index same h.one_sign.no_other;
      }
  | inr opposite ↦
      let handle = IsHandle-head i h.negative x w h.place index opposite h.one_sign in
      absurd (none 0 (suc h.place) handle)
]

-- a higher letter before a word
HasOneSign-cons
    : (i : ℕ) (x : Letter) (w : List Letter)
    → i < x.index
    → IsAbsent i w ⊎ HasOneSign i w
    → IsAbsent i (x ∷ w) ⊎ HasOneSign i (x ∷ w)
HasOneSign-cons i x w above (inl absent) =
    inl (λ negative. or_from _ _ (is_letter-higher i negative x above) (absent negative))
HasOneSign-cons i x w above (inr h) =
    inr (record {
      negative = h.negative;
      place = suc h.place;
      one_sign = OneSign-cons i h.negative x w h.place above h.one_sign;
    })

-- Without a lower letter and without a handle, index i doesn't occur or occurs with one sign. By
-- induction on the word: a letter of index i before the first one of the other sign would start a
-- handle.
pub HasOneSign-HasNoHandle
    : (i : ℕ) (w : List Letter)
    → EachLetter (λ x. i ≤ x.index) w
    → HasNoHandle w
    → IsAbsent i w ⊎ HasOneSign i w
HasOneSign-HasNoHandle i [] low none = inl (λ negative. refl)
HasOneSign-HasNoHandle i (x ∷ w) low none =
    let rest = HasOneSign-HasNoHandle i w low.1 (HasNoHandle-cons x w none) in
    elim (cases_eq x.index i) [
      | inl own ↦ inr (HasOneSign-head i x w own none rest)
      | inr other ↦ HasOneSign-cons i x w (omega arith) rest
    ]

-- both signs don't occur where there is one
OneSign-both
    : (i : ℕ) (negative : Bool) (w : List Letter) (place : ℕ)
    → OneSign i negative w place
    → HasParts i true true w
    → ⊥
OneSign-both i true w place h parts = both_ways _ h.no_other parts.positive_is
OneSign-both i false w place h parts = both_ways _ h.no_other parts.negative_is

-- a word without a handle isn't mixed
pub HasNoHandle-Mixed : (i : ℕ) (w : List Letter) → HasNoHandle w → sign_of w ≡ Mixed i → ⊥
HasNoHandle-Mixed i w none mixed =
    let parts = HasParts-Mixed i w mixed in
    elim (HasOneSign-HasNoHandle i w parts.at_least none) [
      | inl absent ↦ both_ways _ (absent true) parts.negative_is
      | inr h ↦ OneSign-both i h.negative w h.place h.one_sign parts
    ]

-- a word without a handle, by its sign
signed_by
    : (w : List Letter) (s : Sign)
    → HasNoHandle w
    → sign_of w ≡ s
    → (w ≡ []) ⊎ (IsSigmaPositive w ⊎ IsSigmaNegative w)
signed_by w Empty none is = inl (sign_of-Empty w is)
signed_by w (Positive i) none is = inr (inl (i, IsSigmaPositiveAt-sign_of i w is))
signed_by w (Negative i) none is = inr (inr (i, IsSigmaNegativeAt-sign_of i w is))
signed_by w (Mixed i) none is = absurd (HasNoHandle-Mixed i w none is)

-- a word without a handle is empty, sigma-positive or sigma-negative
pub HasNoHandle-signed
    : (w : List Letter)
    → HasNoHandle w
    → (w ≡ []) ⊎ (IsSigmaPositive w ⊎ IsSigmaNegative w)
HasNoHandle-signed w none = signed_by w (sign_of w) none refl
