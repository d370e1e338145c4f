-- What an equation of lists, options or answers tells of their parts, and what is chosen by a test.
--
-- Equal options and equal answers have equal values (`Some-injective`, `Ok-injective`), equal lists equal
-- first elements and rests (`first_is`, `rest_is`). What is chosen by a test, where the other choice is
-- nothing or a refusal, tells how the test went (`Some-cond`, `Ok-cond`, `Ok-cond_not`). The first place
-- where a test passes is in the list; where there is none, the count of places is reached (`position-Some`,
-- `position-None`).
use Rattle.std.proofs.Common.{◌≡◌, ℕ, ◌<◌, ◌≤◌, Bool, true, false, cond, List, [], ◌∷◌, length, Option, Some, None, is_some, Result, Ok, Err, position, refl, sym, inl, inr, true≢false, arith}
use Rattle.std.proofs.lemmas.Bool.{cases_lt, le-ltb, lt-ltb}
use Rattle.std.specs.List.{position_or_len}

-- ---- Lists ----

-- no list with a first element is empty
pub nil_cons : {X : Type 0} {x : X} {xs : List X} → [] ≡ x ∷ xs → ⊥
nil_cons e = cc

-- equal lists have the same first element
pub first_is : {X : Type 0} {x y : X} {xs ys : List X} → x ∷ xs ≡ y ∷ ys → x ≡ y
first_is e = cc

-- and what is after it is the same
pub rest_is : {X : Type 0} {x y : X} {xs ys : List X} → x ∷ xs ≡ y ∷ ys → xs ≡ ys
rest_is e = cc

-- ---- Options and answers ----

-- what is there is one thing
pub Some-injective : {X : Type 0} {x y : X} → Some x ≡ Some y → x ≡ y
Some-injective e = cc

-- one answer is one value
pub Ok-injective : {X E : Type 0} (x y : X) → ◌≡◌ {A = Result X E} (Ok x) (Ok y) → x ≡ y
Ok-injective x y e = cc

-- what isn't there is nothing
pub is_some-None : {X : Type 0} (o : Option X) → is_some o ≡ false → o ≡ None
is_some-None None is = refl
is_some-None (Some x) is = absurd (true≢false is)

-- ---- Choices ----

-- what is found where a test passes
pub Some-cond
    : {X : Type 0} (b : Bool) (o : Option X) (x : X)
    → cond b o None ≡ Some x
    → (b ≡ true) × (o ≡ Some x)
Some-cond true o x is = (refl, is)
Some-cond false o x is = absurd (cc)

-- what is answered where a test passes that refuses otherwise
pub Ok-cond
    : {X E : Type 0} (b : Bool) (r : Result X E) (e : E) (x : X)
    → cond b r (Err e) ≡ Ok x
    → (b ≡ true) × (r ≡ Ok x)
Ok-cond true r e x is = (refl, is)
Ok-cond false r e x is = absurd (cc)

-- what is answered where a test fails that refuses otherwise
pub Ok-cond_not
    : {X E : Type 0} (b : Bool) (e : E) (r : Result X E) (x : X)
    → cond b (Err e) r ≡ Ok x
    → (b ≡ false) × (r ≡ Ok x)
Ok-cond_not true e r x is = absurd (cc)
Ok-cond_not false e r x is = (refl, is)

-- ---- Places ----

-- the place that is found is the first, and in the list
pub position-Some
    : {X : Type 0} (p : X → Bool) (xs : List X) (k : ℕ)
    → position p xs ≡ Some k
    → (k ≡ position_or_len p xs) × (k < length xs)
position-Some p xs k found = elim (cases_lt (position_or_len p xs) (length xs)) [
  | inl within ↦ let test = lt-ltb (position_or_len p xs) (length xs) within in
      let same : Some (position_or_len p xs) ≡ Some k = rw test at found in
      let place : position_or_len p xs ≡ k = Some-injective same in
      (sym place, rw place at within)
  | inr past ↦ let test = le-ltb (position_or_len p xs) (length xs) (omega arith) in
      let never : None ≡ Some k = rw test at found in absurd cc
]

-- where none is found, the first place is past the end
pub position-None
    : {X : Type 0} (p : X → Bool) (xs : List X)
    → position p xs ≡ None
    → length xs ≤ position_or_len p xs
position-None p xs none = elim (cases_lt (position_or_len p xs) (length xs)) [
  | inl within ↦ let test = lt-ltb (position_or_len p xs) (length xs) within in
      let never : Some (position_or_len p xs) ≡ None = rw test at none in absurd cc
  | inr past ↦ omega arith
]
