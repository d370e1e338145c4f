-- Levels of doublings: what they say of a row, and how they grow.
use Rattle.std.proofs.Common.{◌≡◌, ◌≢◌, ℕ, suc, ◌+◌, ◌-◌, ◌*◌, ◌%◌, ◌^◌, ◌<◌, ◌≤◌, List, [], ◌∷◌, ◌++◌, length, get_or, Vec, vec_items, shl_exact, inl, inr, refl, sym, ap, ap₂, ◌∙◌, subst, subst₂, arith, length-append}
use Rattle.std.proofs.Math.Nat.{pow-le-pow_right}
use Rattle.std.proofs.lemmas.Bool.{cases_eq}
use Rattle.std.proofs.lemmas.List.{get_or_append_left, get_or_push}
use Rattle.std.specs.Global.{Global}
use Rattle.laver_table.specs.Product.{product}
use Rattle.laver_table.specs.Table.{IsUpTo}
use Rattle.laver_table.specs.Period.{IsFull, IsPeriod, IsInPeriod}
use Rattle.laver_table.specs.Levels.{IsDoubling, AreDoublings, IsLevel, AreLevels}
use Rattle.laver_table.specs.declared.TheConstants.{MAX_EXPONENT}
use Rattle.laver_table.specs.declared.levels.Doubling.{Doubling}
use Rattle.laver_table.proofs.ProductLemmas.{product-top}
use Rattle.laver_table.proofs.DoublingLemmas.{product-upper, IsFull-pow, pow_double}
use Rattle.laver_table.proofs.PeriodLemmas.{IsPeriod-top}
use Rattle.laver_table.proofs.ThresholdLemmas.{IsPeriod-upper}

-- ---- Sizes ----

-- a size, as it is computed
pub size-shifted : (n : ℕ) → n ≤ MAX_EXPONENT → 1 * 2 ^ n % 2 ^ 32 ≡ 2 ^ n
size-shifted n few = shl_exact {a = 1} 1 n 32 (omega arith) (omega arith) ∙ omega arith

-- no size is above the greatest one
pub size-small : (n : ℕ) → n ≤ MAX_EXPONENT → 2 ^ n ≤ 2 ^ MAX_EXPONENT
size-small n few = pow-le-pow_right {n = 2} (omega arith) few

-- ---- One level ----

-- the doubling of row p
pub IsDoubling-row
    : (M p k : ℕ) (level : List Doubling) (doubling default : Doubling)
    → AreDoublings M level
    → p ≤ M
    → k ≡ M - p
    → k < length level
    → doubling ≡ get_or level k default
    → IsDoubling M p doubling
IsDoubling-row M p k level doubling default doublings row place within is =
    let back : M - k ≡ p = omega arith in
    let found = subst (λ r. IsDoubling M r (get_or level k default)) back (doublings k default within) in
    subst (IsDoubling M p) (sym is) found

-- the same where it is read
pub IsDoubling-read
    : (M p : ℕ) (level : List Doubling) (default : Doubling)
    → AreDoublings M level
    → IsUpTo M p
    → M < p + length level
    → IsDoubling M p (get_or level (M - p) default)
IsDoubling-read M p level default doublings (low, high) known =
    let found = get_or level (M - p) default in
    IsDoubling-row M p (M - p) level found default doublings high refl (omega arith) refl

-- one doubling more
pub AreDoublings-more
    : (M k : ℕ) (level more : List Doubling) (doubling : Doubling)
    → more ≡ level ++ doubling ∷ []
    → length level ≡ k
    → AreDoublings M level
    → IsDoubling M (M - k) doubling
    → AreDoublings M more
AreDoublings-more M k level more doubling pushed count doublings next = λ j default within.
    elim (cases_eq j k) [
      | inl end ↦
          let here : get_or more j default ≡ doubling
          = ap (λ ds. get_or ds j default) pushed ∙ get_or_push level doubling default j (count ∙ sym end) in
          subst (IsDoubling M (M - j)) (sym here) (subst (λ i. IsDoubling M (M - i) doubling) (sym end) next)
      | inr before ↦
          let longer = length-append level (doubling ∷ []) in
          let inside : j < length level = omega (arith, ap length pushed, longer) in
          let here : get_or more j default ≡ get_or level j default
          = ap (λ ds. get_or ds j default) pushed
          ∙ get_or_append_left level (doubling ∷ []) default j inside in
          subst (IsDoubling M (M - j)) (sym here) (doublings j default inside)
    ]

-- ---- All levels ----

-- the levels below the last one
pub AreLevels-lower
    : (levels lower : List (Vec Doubling Global)) (level : Vec Doubling Global)
    → levels ≡ lower ++ level ∷ []
    → AreLevels levels
    → AreLevels lower
AreLevels-lower levels lower level is held = λ k default within.
    let here : get_or levels k default ≡ get_or lower k default
    = ap (λ ls. get_or ls k default) is ∙ get_or_append_left lower (level ∷ []) default k within in
    let inside = held k default (omega (arith, ap length is, length-append lower (level ∷ []))) in
    subst (λ v. IsLevel (2 ^ k) (vec_items v)) here inside

-- the last level
pub IsLevel-last
    : (levels lower : List (Vec Doubling Global)) (level : Vec Doubling Global)
    → levels ≡ lower ++ level ∷ []
    → AreLevels levels
    → IsLevel (2 ^ length lower) (vec_items level)
IsLevel-last levels lower level is held =
    let here : get_or levels (length lower) level ≡ level
    = ap (λ ls. get_or ls (length lower) level) is ∙ get_or_push lower level level (length lower) refl in
    let inside = held (length lower) level (omega (arith, ap length is, length-append lower (level ∷ []))) in
    subst (λ v. IsLevel (2 ^ length lower) (vec_items v)) here inside

-- one level more
pub AreLevels-more
    : (levels more : List (Vec Doubling Global)) (level : Vec Doubling Global)
    → more ≡ levels ++ level ∷ []
    → AreLevels levels
    → IsLevel (2 ^ length levels) (vec_items level)
    → AreLevels more
AreLevels-more levels more level pushed held next = λ k default within.
    elim (cases_eq k (length levels)) [
      | inl end ↦
          let here : get_or more k default ≡ level
          = ap (λ ls. get_or ls k default) pushed ∙ get_or_push levels level default k (sym end) in
          let there = subst (λ i. IsLevel (2 ^ i) (vec_items level)) (sym end) next in
          subst (λ v. IsLevel (2 ^ k) (vec_items v)) (sym here) there
      | inr before ↦
          let longer = length-append levels (level ∷ []) in
          let inside : k < length levels = omega (arith, ap length pushed, longer) in
          let here : get_or more k default ≡ get_or levels k default
          = ap (λ ls. get_or ls k default) pushed ∙ get_or_append_left levels (level ∷ []) default k inside in
          subst (λ v. IsLevel (2 ^ k) (vec_items v)) (sym here) (held k default inside)
    ]

-- ---- Size 1 ----

-- the row of size 1 is the last one
only_row : (n p : ℕ) → n ≡ 0 → IsUpTo (2 ^ n) p → p ≡ 2 ^ n
only_row n p none row =
    let size : 2 ^ n ≡ 1 = ap (λ k. 2 ^ k) none in
    omega (arith, row.0, row.1)

-- in size 1 a product is its second factor
pub product-size_one : (n p q : ℕ) → n ≡ 0 → IsUpTo (2 ^ n) p → q ≡ product (2 ^ n) p q
product-size_one n p q none row =
    sym (ap (λ r. product (2 ^ n) r q) (only_row n p none row) ∙ product-top (2 ^ n) q)

-- in size 1 the period is 1
pub IsPeriod-size_one : (n p : ℕ) → n ≡ 0 → IsUpTo (2 ^ n) p → IsPeriod (2 ^ n) p 1
IsPeriod-size_one n p none row =
    let size : 2 ^ n ≡ 1 = ap (λ k. 2 ^ k) none in
    let here : p ≡ 1 = only_row n p none row ∙ size in
    subst₂ (λ N r. IsPeriod N r 1) (sym size) (sym here) (IsPeriod-top 1 (omega arith))

-- ---- Twice the size of the levels below ----

module _ (n m M : ℕ) (next : m + 1 ≡ n) (half : M ≡ 2 ^ m) where
  -- the size is that of the levels below twice
  pub size-double : 2 ^ n ≡ M + M
  size-double =
      let count : n ≡ suc m = omega arith in
      ap (λ k. 2 ^ k) count ∙ pow_double m ∙ omega arith

  -- that size is full
  full_half : IsFull M
  full_half = subst IsFull (sym half) (IsFull-pow m)

  -- the last row gives each number back
  pub product-last_row : (p q : ℕ) → p ≡ 2 * M → q ≡ product (2 ^ n) p q
  product-last_row p q last =
      let top : p ≡ 2 ^ n = omega (arith, size-double) in
      sym (ap (λ r. product (2 ^ n) r q) top ∙ product-top (2 ^ n) q)

  -- a row above M, but the last one, is a row below M with M added
  pub product-upper_row
      : (p c r : ℕ)
      → M < p
      → p ≢ 2 * M
      → p ≤ 2 ^ n
      → r ≡ product (2 ^ m) (p - M) c
      → r + M ≡ product (2 ^ n) p c
  product-upper_row p c r above other row is =
      let back : p - M + M ≡ p = omega arith in
      ap (λ x. x + M) (is ∙ ap (λ N. product N (p - M) c) (sym half))
      ∙ sym (product-upper M (p - M) c full_half (omega (arith, size-double)))
      ∙ ap₂ (λ N x. product N x c) (sym size-double) back

  -- and has that one's first period
  pub IsInPeriod-upper_row
      : (p c : ℕ)
      → M < p
      → p ≢ 2 * M
      → p ≤ 2 ^ n
      → IsInPeriod (2 ^ n) p c
      → IsInPeriod (2 ^ m) (p - M) c
  IsInPeriod-upper_row p c above other row column = record {
    positive = column.positive;
    within = λ o found.
        let back : p - M + M ≡ p = omega arith in
        let small = subst (λ N. IsPeriod N (p - M) o) (sym half) found in
        let large = IsPeriod-upper M (p - M) o full_half small (omega (arith, size-double)) in
        column.within o (subst₂ (λ N x. IsPeriod N x o) (sym size-double) back large);
  }

  -- a row up to M has the entry of size M, with what is added to it
  pub product-lower_row
      : (p q c x r : ℕ)
      → product (M + M) p q ≡ product M p c + x
      → r ≡ product (2 ^ m) p c
      → r + x ≡ product (2 ^ n) p q
  product-lower_row p q c x r entry is =
      ap (λ y. y + x) (is ∙ ap (λ N. product N p c) (sym half))
      ∙ sym entry
      ∙ ap (λ N. product N p q) (sym size-double)

  -- the period of the last row is the size
  pub IsPeriod-last_row : (p : ℕ) → p ≡ 2 * M → IsPeriod (2 ^ n) p p
  IsPeriod-last_row p last =
      let full = full_half in
      let top : p ≡ 2 ^ n = omega (arith, size-double) in
      let positive : 1 ≤ 2 ^ n = omega (arith, size-double, full.positive) in
      subst (λ r. IsPeriod (2 ^ n) r r) (sym top) (IsPeriod-top (2 ^ n) positive)

  -- a row above M has the period of the row M before it
  pub IsPeriod-upper_row
      : (p k : ℕ) (level : List Doubling) (doubling : Doubling)
      → AreDoublings M level
      → M < p
      → p ≢ 2 * M
      → p ≤ 2 ^ n
      → k ≡ 2 * M - p
      → k < length level
      → doubling ≡ get_or level k doubling
      → IsPeriod (2 ^ n) p doubling.period
  IsPeriod-upper_row p k level doubling doublings above other row place within is =
      let full = full_half in
      let below : p - M < M = omega (arith, size-double) in
      let back : p - M + M ≡ p = omega arith in
      let o = doubling.period in
      let up_to : p - M ≤ M = omega arith in
      let at : k ≡ M - (p - M) = omega arith in
      let found = IsDoubling-row M (p - M) k level doubling doubling doublings up_to at within is in
      subst₂ (λ N x. IsPeriod N x o) (sym size-double) back
      (IsPeriod-upper M (p - M) o full found.periodic below)
