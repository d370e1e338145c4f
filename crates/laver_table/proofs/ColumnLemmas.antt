-- Columns of size 2M, found in size M by the period and the threshold of a row.
--
-- A row repeats its entries, so each column is brought into its first period (`product-column`). Row p of
-- size 2M has the period of row p of size M, or twice that (`IsPeriod-doubled`). In a second half its entries
-- are those of the first half of size M, with M added (`entry-second`).
use Rattle.std.proofs.Common.{◌≡◌, ℕ, zero, suc, ◌+◌, ◌-◌, ◌*◌, ◌/◌, ◌%◌, ◌<◌, ◌≤◌, inl, inr, sym, ap, ◌∙◌, subst, subst₂, arith}
use Rattle.std.proofs.Math.Nat.{suc-mul, mod-add-div', mod-eq_of_lt}
use Rattle.std.proofs.lemmas.Bool.{cases_eq, cases_lt}
use Rattle.laver_table.specs.Product.{product}
use Rattle.laver_table.specs.Period.{IsFull, IsPeriod, IsInPeriod, IsThreshold}
use Rattle.laver_table.proofs.ProductLemmas.{product-zero, product-shift}
use Rattle.laver_table.specs.Table.{IsUpTo}
use Rattle.laver_table.proofs.PeriodLemmas.{IsPeriod-top, IsPeriod-unique, IsInPeriod-up_to}
use Rattle.laver_table.proofs.ThresholdLemmas.{IsPeriod-same, IsPeriod-twice, second-half, threshold-last}

-- ---- Repeated columns ----

-- a row that has N in column o is alike after any number of times o columns
product-repeats
    : (N p o q times : ℕ)
    → p < N
    → product N p o ≡ N
    → product N p (q + times * o) ≡ product N p q
product-repeats N p o q zero below full = ap (product N p) (omega arith)
product-repeats N p o q (suc times) below full =
    let turn : product N p o ≡ product N p 0 = full ∙ sym (product-zero N p below) in
    let column : q + suc times * o ≡ o + (q + times * o) = omega (arith, suc-mul times o) in
    ap (product N p) column
    ∙ product-shift N p o 0 (q + times * o) below turn
    ∙ ap (product N p) (omega arith)
    ∙ product-repeats N p o q times below full

-- each column is brought into the first period
pub product-column
    : (N p o q c : ℕ)
    → p ≤ N
    → IsPeriod N p o
    → IsUpTo N q
    → c ≡ (q - 1) % o + 1
    → product N p c ≡ product N p q
product-column N p o q c row period (first, last) is = elim (cases_eq p N) [
  | inr ne ↦
      let whole : c + (q - 1) / o * o ≡ q = omega (arith, mod-add-div' (q - 1) o) in
      sym (product-repeats N p o c ((q - 1) / o) (omega arith) period.full) ∙ ap (product N p) whole
  | inl top ↦
      let here = subst (λ r. IsPeriod N r o) top period in
      let all : o ≡ N = IsPeriod-unique N N o N here (IsPeriod-top N (omega arith)) in
      let short : (q - 1) % o ≡ q - 1 = mod-eq_of_lt (omega arith) in
      ap (product N p) (omega arith)
]

-- ---- By the period and the threshold ----

-- a row whose threshold is its period isn't the last one
below-last
    : (M p o t : ℕ)
    → IsFull M
    → p ≤ M
    → IsPeriod M p o
    → IsThreshold M p o t
    → o ≤ t
    → p < M
below-last M p o t full row period threshold above = elim (cases_eq p M) [
  | inr ne ↦ omega arith
  | inl top ↦
      let none = threshold-last M o t full period.positive (subst (λ r. IsThreshold M r o t) top threshold) in
      absurd (omega (arith, period.positive, none))
]

module _
    (M p o t : ℕ)
    (full : IsFull M) (row : p ≤ M) (period : IsPeriod M p o) (threshold : IsThreshold M p o t) where
  -- where the threshold is the period, it is so by name
  at_period : o ≤ t → IsThreshold M p o o
  at_period above =
      let end : t ≡ o = omega (arith, threshold.within) in
      subst (IsThreshold M p o) end threshold

  -- the period doubles there
  pub IsPeriod-doubled : o ≤ t → IsPeriod (M + M) p (2 * o)
  IsPeriod-doubled above =
      let twice : o + o ≡ 2 * o = omega arith in
      let below = below-last M p o t full row period threshold above in
      subst (IsPeriod (M + M) p) twice (IsPeriod-twice M p o full period below (at_period above))

  module _ (c : ℕ) (column : IsInPeriod (M + M) p c) (past : o < c) where
    -- a column of the first period of size 2M is past that of size M only where the period doubles
    past_period : (o ≤ t) × (c ≤ o + o)
    past_period = elim (cases_lt t o) [
      | inl below ↦
          let same = IsPeriod-same M p o t full period row threshold below in
          absurd (omega (arith, column.within o same))
      | inr above ↦ (above, omega (arith, column.within (2 * o) (IsPeriod-doubled above)))
    ]

    -- it is then a column of the second half
    pub IsInPeriod-second : IsInPeriod M p (c - o)
    IsInPeriod-second = IsInPeriod-up_to M p o (c - o) period (omega arith) (omega (arith, past_period.1))

    -- in which M is added to the entries of the first
    pub entry-second : product (M + M) p c ≡ product M p (c - o) + M
    entry-second =
        let (above, within) = past_period in
        let place : o + suc (c - suc o) ≡ c = omega arith in
        let back : suc (c - suc o) ≡ c - o = omega arith in
        let below = below-last M p o t full row period threshold above in
        subst₂ (λ a b. product (M + M) p a ≡ product M p b + M) place back
        (second-half M p o (c - suc o) full period below (at_period above) (omega arith))
