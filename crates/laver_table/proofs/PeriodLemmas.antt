-- Periods: the entries of a row rise up to N, and the row repeats them.
--
-- The period of a row is the first column that has N. Before it the entries rise (`period-rises`), so they
-- are different, and after it they begin again (`repeats-period`): so it is the number of different entries
-- of the row (`distinct_count-row`).
use Rattle.std.proofs.Common.{◌≡◌, ◌≢◌, ℕ, zero, suc, ◌+◌, ◌-◌, ◌<◌, ◌≤◌, ◌⊎◌, inl, inr, Bool, true, false, List, length, map, get_or, AllPairs, refl, sym, ap, ◌∙◌, subst, nat_eq, arith}
use Rattle.std.proofs.lemmas.Bool.{cases_eq, cases_lt}
use Rattle.std.proofs.lemmas.List.Folds.{Any-from_list_any, list_any_at}
use Rattle.std.proofs.lemmas.List.FromFn.{length-map-range_with_len, get_or-map-range_with_len}
use Rattle.std.proofs.lemmas.Map.Made.{IsDistinct-from_AllPairs, length-from_keys}
use Rattle.std.proofs.lemmas.Cmp.{nat_eq_equiv}
use Rattle.std.proofs.lemmas.Grind.{get_or_default_zero}
use Rattle.std.specs.Cmp.{unsigned_Decides}
use Rattle.std.specs.List.{list_any}
use Rattle.std.specs.Set.{distinct_count}
use Rattle.laver_table.specs.Product.{product, product_row}
use Rattle.laver_table.specs.Period.{IsFull, IsPeriod, IsInPeriod}
use Rattle.laver_table.proofs.ProductLemmas.{product-between, product-top, product-zero, product-shift, product-rises}
use Rattle.laver_table.proofs.RowLemmas.{length-product_row, get_or-product_row}
use Rattle.std.specs.List.{range_with_len}

-- ---- One period of a row ----

-- no entry from column 1 to column N is above N
pub product-within : (N p q : ℕ) → p ≤ N → q ≤ N → product N p q ≤ N
product-within N p q row column = elim (cases_eq p N) [
  | inl top ↦ rw top (omega (arith, product-top N q))
  | inr ne ↦ let between = product-between N p q (omega arith) in between.within
]

-- an entry before the period is less than the next
pub period-rises
    : (N p o q : ℕ)
    → IsPeriod N p o
    → p ≤ N
    → 1 ≤ q
    → q < o
    → product N p q < product N p (suc q)
period-rises N p o q period row low below = elim (cases_eq p N) [
  | inl top ↦ rw top (omega (arith, product-top N q, product-top N (suc q)))
  | inr ne ↦ product-rises N p q (omega arith) (period.short q low below)
]

-- of two entries up to the period the earlier one is less
pub period-less
    : (N p o a k : ℕ)
    → IsPeriod N p o
    → p ≤ N
    → 1 ≤ a
    → a + suc k ≤ o
    → product N p a < product N p (a + suc k)
period-less N p o a zero period row low within =
    let next : a + suc zero ≡ suc a = omega arith in
    rw next (period-rises N p o a period row low (omega arith))
period-less N p o a (suc k) period row low within =
    let before = period-less N p o a k period row low (omega arith) in
    let next : a + suc (suc k) ≡ suc (a + suc k) = omega arith in
    let more = period-rises N p o (a + suc k) period row (omega arith) (omega arith) in
    rw next (omega arith)

-- the period of row N is N
pub IsPeriod-top : (N : ℕ) → 1 ≤ N → IsPeriod N N N
IsPeriod-top N positive = record {
  positive = positive;
  within = omega arith;
  full = product-top N N;
  short = λ q low below. omega (arith, product-top N q);
}

-- a row has one period
pub IsPeriod-unique : (N p o c : ℕ) → IsPeriod N p o → IsPeriod N p c → o ≡ c
IsPeriod-unique N p o c first second = elim (cases_lt o c) [
  | inl below ↦ absurd (omega (arith, second.short o first.positive below, first.full))
  | inr above ↦ elim (cases_eq c o) [
    | inl e ↦ sym e
    | inr ne ↦ absurd (omega (arith, first.short c second.positive (omega arith), second.full))
  ]
]

-- a column up to the period is one of the first period
pub IsInPeriod-up_to : (N p o c : ℕ) → IsPeriod N p o → 1 ≤ c → c ≤ o → IsInPeriod N p c
IsInPeriod-up_to N p o c period first last = record {
  positive = first;
  within = λ other found. omega (arith, IsPeriod-unique N p o other period found);
}

-- the columns of a row after its period are as those before
pub repeats-period
    : (N p o q : ℕ)
    → IsPeriod N p o
    → p < N
    → product N p (q + o) ≡ product N p q
repeats-period N p o q period below =
    let turn : product N p o ≡ product N p 0 = period.full ∙ sym (product-zero N p below) in
    ap (product N p) (omega arith) ∙ product-shift N p o 0 q below turn ∙ ap (product N p) (omega arith)

-- ---- Every row of a full size has a period ----

-- among the first columns none has N, or the first of these is the period
period_by
    : (N p k : ℕ)
    → p ≤ N
    → k ≤ N
    → ((q : ℕ) → 1 ≤ q → q ≤ k → product N p q < N) ⊎ ((o : ℕ) × IsPeriod N p o)
period_by N p zero row column = inl (λ q low high. absurd (omega arith))
period_by N p (suc k) row column = elim (period_by N p k row (omega arith)) [
  | inr found ↦ inr found
  | inl none ↦ elim (cases_eq (product N p (suc k)) N) [
    | inl e ↦ inr (
      suc k,
      record {
        positive = omega arith;
        within = column;
        full = e;
        short = λ q low below. none q low (omega arith);
      },
    )
    | inr ne ↦
        let here = product-within N p (suc k) row column in
        inl (λ q low high. elim (cases_eq q (suc k)) [
          | inl last ↦ rw last (omega arith)
          | inr before ↦ none q low (omega arith)
        ])
  ]
]

-- each row of a full size has a period
pub IsPeriod-exists : (N p : ℕ) → IsFull N → p ≤ N → (o : ℕ) × IsPeriod N p o
IsPeriod-exists N p full row = elim (period_by N p N row (omega arith)) [
  | inr found ↦ found
  | inl none ↦ absurd (omega (arith, none N full.positive (omega arith), full.full p row))
]

-- a column of the first period is one of the table
pub IsInPeriod-within : (N p c : ℕ) → IsFull N → p ≤ N → IsInPeriod N p c → c ≤ N
IsInPeriod-within N p c full row column =
    let (o, period) = IsPeriod-exists N p full row in
    omega (arith, column.within o period, period.within)

-- ---- The number of different entries ----

-- The entries of row p up to its period.
abbrev one_period : ℕ → ℕ → ℕ → List ℕ
one_period N p o = map (product N p) (range_with_len 1 o)

-- a column within one period has the entry of each column
column_in_period
    : (N p o k q : ℕ)
    → IsPeriod N p o
    → p < N
    → q ≤ k
    → 1 ≤ q
    → (c : ℕ) × (1 ≤ c) × (c ≤ o) × (product N p q ≡ product N p c)
column_in_period N p o zero q period row enough low = absurd (omega arith)
column_in_period N p o (suc k) q period row enough low = elim (cases_lt o q) [
  | inr within ↦ (q, low, within, refl)
  | inl past ↦
      let positive = period.positive in
      let (c, first, last, same) = column_in_period N p o k (q - o) period row (omega arith) (omega arith) in
      let back : q ≡ q - o + o = omega arith in
      (c, first, last, ap (product N p) back ∙ repeats-period N p o (q - o) period row ∙ same)
]

-- the same for row N, whose period has all columns
column_up_to
    : (N p o q : ℕ)
    → IsPeriod N p o
    → p ≤ N
    → 1 ≤ q
    → q ≤ N
    → (c : ℕ) × (1 ≤ c) × (c ≤ o) × (product N p q ≡ product N p c)
column_up_to N p o q period row low high = elim (cases_eq p N) [
  | inr ne ↦ column_in_period N p o q q period (omega arith) (omega arith) low
  | inl top ↦
      let here = subst (λ r. IsPeriod N r o) top period in
      let whole : o ≡ N = IsPeriod-unique N N o N here (IsPeriod-top N (omega arith)) in
      (q, low, omega arith, refl)
]

-- two tests with the same answer
same_tests : (a b : Bool) → (a ≡ true → b ≡ true) → (b ≡ true → a ≡ true) → a ≡ b
same_tests true b there back = sym (there refl)
same_tests false true there back = back refl
same_tests false false there back = refl

-- a test that some element of a list passes is passed by one of a list that covers it
any_covered
    : (test : ℕ → Bool) (xs ys : List ℕ)
    → ((k : ℕ) → k < length xs → (j : ℕ) × (j < length ys) × (get_or xs k 0 ≡ get_or ys j 0))
    → list_any test xs ≡ true
    → list_any test ys ≡ true
any_covered test xs ys covers some =
    let (k, x, within, is, passes) = Any-from_list_any test xs some in
    let (j, inside, same) = covers k within in
    let here : get_or xs k 0 ≡ x = sym (get_or_default_zero xs k x within) ∙ is in
    list_any_at test ys j 0 inside (ap test (sym same ∙ here) ∙ passes)

-- an entry of one period, found at its place
get_or-one_period
    : (N p o k d : ℕ)
    → k < o
    → get_or (one_period N p o) k d ≡ product N p (k + 1)
get_or-one_period N p o k d within =
    get_or-map-range_with_len (product N p) 1 o k (k + 1) d within (omega arith)

-- they are different
one_period-apart
    : (N p o : ℕ)
    → IsPeriod N p o
    → p ≤ N
    → AllPairs (λ x y. x ≢ y) (one_period N p o)
one_period-apart N p o period row i j d before within =
    let inside : j < o = omega (arith, length-map-range_with_len (product N p) 1 o) in
    let later : j + 1 ≡ i + 1 + suc (j - suc i) = omega arith in
    let first = get_or-one_period N p o i d (omega arith) in
    let second = get_or-one_period N p o j d inside ∙ ap (product N p) later in
    let less = period-less N p o (i + 1) (j - suc i) period row (omega arith) (omega arith) in
    λ e. absurd (omega (arith, first, second, less, e))

-- each of them is in the row
period_in_row
    : (N p o k : ℕ)
    → IsPeriod N p o
    → k < length (one_period N p o)
    → (j : ℕ)
    × (j < length (product_row N p))
    × (get_or (one_period N p o) k 0 ≡ get_or (product_row N p) j 0)
period_in_row N p o k period within =
    let inside : k < o = omega (arith, length-map-range_with_len (product N p) 1 o) in
    let wide : k < N = omega (arith, period.within) in
    let same = get_or-one_period N p o k 0 inside ∙ sym (get_or-product_row N p k 0 wide) in
    (k, omega (arith, length-product_row N p), same)

-- each entry of the row is one of them
row_in_period
    : (N p o k : ℕ)
    → IsPeriod N p o
    → p ≤ N
    → k < length (product_row N p)
    → (j : ℕ)
    × (j < length (one_period N p o))
    × (get_or (product_row N p) k 0 ≡ get_or (one_period N p o) j 0)
row_in_period N p o k period row within =
    let inside : k < N = omega (arith, length-product_row N p) in
    let (c, first, last, same) = column_up_to N p o (k + 1) period row (omega arith) (omega arith) in
    let back : c ≡ c - 1 + 1 = omega arith in
    let there : c - 1 < o = omega arith in (
      c - 1,
      omega (arith, length-map-range_with_len (product N p) 1 o),
      get_or-product_row N p k 0 inside
          ∙ same
          ∙ ap (product N p) back
          ∙ sym (get_or-one_period N p o (c - 1) 0 there),
    )

-- the number of different entries of a row is its period
pub distinct_count-row
    : (N p o : ℕ)
    → IsPeriod N p o
    → p ≤ N
    → distinct_count nat_eq (product_row N p) ≡ o
distinct_count-row N p o period row =
    let ns = one_period N p o in
    let xs = product_row N p in
    let apart = IsDistinct-from_AllPairs unsigned_Decides ns (one_period-apart N p o period row) in
    let alike = λ (q : ℕ). same_tests (list_any (nat_eq q) ns) (list_any (nat_eq q) xs)
    (any_covered (nat_eq q) ns xs (λ k within. period_in_row N p o k period within))
    (any_covered (nat_eq q) xs ns (λ k within. row_in_period N p o k period row within)) in
    sym (length-from_keys nat_eq_equiv ns xs apart alike) ∙ length-map-range_with_len (product N p) 1 o
