-- Thresholds: how a row of size 2M comes from the row of the same number of size M.
--
-- Let M be full and o the period of row p in size M. Up to column o the entries of row p of size 2M rise;
-- each is that of size M or that with M added, so from some column on, the threshold, M is added
-- (`IsThreshold-exists`). Below o it leaves the period (`IsPeriod-same`); at o the period doubles, and in its
-- second half M is added (`IsPeriod-twice`, `second-half`).
use Rattle.std.proofs.Common.{◌≡◌, ℕ, zero, suc, ◌+◌, ◌-◌, ◌<◌, ◌≤◌, inl, inr, refl, sym, ap, ◌∙◌, subst, arith}
use Rattle.std.proofs.lemmas.Bool.{cases_eq, cases_lt}
use Rattle.laver_table.specs.Product.{product}
use Rattle.laver_table.specs.Period.{IsFull, IsPeriod, IsThreshold}
use Rattle.laver_table.proofs.ProductLemmas.{product-between, product-top, product-one, product-rises}
use Rattle.laver_table.proofs.DoublingLemmas.{Lifts, product-upper, product-middle, product-lower}
use Rattle.laver_table.proofs.PeriodLemmas.{product-within, repeats-period}

-- ---- Up to the period ----

-- an entry of size 2M is that of size M, maybe with M added, in row M too
lifts
    : (M p q : ℕ)
    → IsFull M
    → p ≤ M
    → 1 ≤ q
    → q ≤ M
    → Lifts M (product M p q) (product (M + M) p q)
lifts M p q full row low high = elim (cases_eq p M) [
  | inr ne ↦ product-lower M p q full (omega arith)
  | inl top ↦ rw top (inr (product-middle M q full low high ∙ ap (λ x. x + M) (sym (product-top M q))))
]

-- no entry from row 0 and column 1 on is 0
pub product-positive : (N p q : ℕ) → p ≤ N → 1 ≤ q → 1 ≤ product N p q
product-positive N p q row low = elim (cases_eq p N) [
  | inl top ↦ rw top (omega (arith, product-top N q))
  | inr ne ↦ let between = product-between N p q (omega arith) in omega (arith, between.above)
]

-- before the period of size M no entry of size 2M is 2M
below-double
    : (M p o q : ℕ)
    → IsFull M
    → IsPeriod M p o
    → p ≤ M
    → 1 ≤ q
    → q < o
    → product (M + M) p q < M + M
below-double M p o q full period row low below =
    let small = period.short q low below in
    elim (lifts M p q full row low (omega (arith, period.within))) [
      | inl e ↦ omega arith
      | inr e ↦ omega arith
    ]

-- one column more of a threshold
threshold-more
    : (M p o k t : ℕ)
    → IsFull M
    → IsPeriod M p o
    → p ≤ M
    → suc k ≤ o
    → IsThreshold M p k t
    → (s : ℕ) × IsThreshold M p (suc k) s
threshold-more M p o k t full period row within threshold =
    elim (lifts M p (suc k) full row (omega arith) (omega (arith, period.within))) [
      | inr more ↦ (
        t,
        record {
          within = omega (arith, threshold.within);
          low = threshold.low;
          high = λ q above last. elim (cases_eq q (suc k)) [
            | inl here ↦ subst (λ c. product (M + M) p c ≡ product M p c + M) (sym here) more
            | inr before ↦ threshold.high q above (omega arith)
          ];
        },
      )
      | inl same ↦ elim (cases_eq t k) [
        | inl whole ↦ (
          suc k,
          record {
            within = omega arith;
            low = λ q first last. elim (cases_eq q (suc k)) [
              | inl here ↦ subst (λ c. product (M + M) p c ≡ product M p c) (sym here) same
              | inr before ↦ threshold.low q first (omega arith)
            ];
            high = λ q above last. absurd (omega arith);
          },
        )
        | inr part ↦
            let first : 1 ≤ k = omega (arith, threshold.within) in
            let here = threshold.high k (omega (arith, threshold.within)) (omega arith) in
            let positive = product-positive M p k row first in
            let small = below-double M p o k full period row first (omega arith) in
            let rises = product-rises (M + M) p k (omega (arith, full.positive)) small in
            let bound = product-within M p (suc k) row (omega (arith, period.within)) in
            absurd (omega (arith, here, positive, rises, bound, same))
      ]
    ]

-- the first columns of a row have a threshold
threshold_by
    : (M p o k : ℕ)
    → IsFull M
    → IsPeriod M p o
    → p ≤ M
    → k ≤ o
    → (t : ℕ) × IsThreshold M p k t
threshold_by M p o zero full period row within = (
  0,
  record {
    within = omega arith;
    low = λ q first last. absurd (omega arith);
    high = λ q above last. absurd (omega arith);
  },
)
threshold_by M p o (suc k) full period row within =
    let (t, threshold) = threshold_by M p o k full period row (omega arith) in
    threshold-more M p o k t full period row within threshold

-- each row up to M has a threshold
pub IsThreshold-exists
    : (M p o : ℕ)
    → IsFull M
    → IsPeriod M p o
    → p ≤ M
    → (t : ℕ) × IsThreshold M p o t
IsThreshold-exists M p o full period row = threshold_by M p o o full period row (omega arith)

-- the threshold is 0 in row M
pub threshold-last
    : (M o t : ℕ)
    → IsFull M
    → 1 ≤ o
    → IsThreshold M M o t
    → t ≡ 0
threshold-last M o zero full positive threshold = refl
threshold-last M o (suc t) full positive threshold =
    let same = threshold.low 1 (omega arith) (omega arith) in
    let large = product-middle M 1 full (omega arith) full.positive in
    absurd (omega (arith, same, large, product-top M 1, full.positive))

-- the threshold is 0 in no row below M
pub threshold-positive
    : (M p o t : ℕ)
    → 1 ≤ o
    → p < M
    → IsThreshold M p o t
    → 1 ≤ t
threshold-positive M p o (suc t) positive below threshold = omega arith
threshold-positive M p o zero positive below threshold =
    let more = threshold.high 1 (omega arith) positive in
    absurd (omega (arith, more, product-one M p below, product-one (M + M) p (omega arith)))

-- ---- A threshold below the period ----

-- the period stays
pub IsPeriod-same
    : (M p o t : ℕ)
    → IsFull M
    → IsPeriod M p o
    → p ≤ M
    → IsThreshold M p o t
    → t < o
    → IsPeriod (M + M) p o
IsPeriod-same M p o t full period row threshold below = record {
  positive = period.positive;
  within = omega (arith, period.within);
  full = threshold.high o below (omega arith) ∙ ap (λ x. x + M) period.full;
  short = λ q low before. below-double M p o q full period row low before;
}

-- ---- A threshold at the period ----

-- in the next column of the second half M is added, where the entry before is from M on and below 2M
second-next
    : (M p o q : ℕ)
    → IsFull M
    → IsPeriod M p o
    → p < M
    → M ≤ product (M + M) p (o + q)
    → product (M + M) p (o + q) < M + M
    → product (M + M) p (o + suc q) ≡ product M p (suc q) + M
second-next M p o q full period below low high =
    let rises = product-rises (M + M) p (o + q) (omega arith) high in
    let column : o + suc q ≡ suc (o + q) = omega arith in
    let back : o + suc q ≡ suc q + o = omega arith in
    let again : product M p (o + suc q) ≡ product M p (suc q)
    = ap (product M p) back ∙ repeats-period M p o (suc q) period below in
    let between = product-between M p (suc q) below in
    let next : product (M + M) p (o + suc q) ≡ product (M + M) p (suc (o + q))
    = ap (product (M + M) p) column in
    elim (product-lower M p (o + suc q) full below) [
      | inl same ↦ absurd (omega (arith, same, again, between.within, next, rises, low))
      | inr more ↦ more ∙ ap (λ x. x + M) again
    ]

-- in the second half M is added
pub second-half
    : (M p o q : ℕ)
    → IsFull M
    → IsPeriod M p o
    → p < M
    → IsThreshold M p o o
    → suc q ≤ o
    → product (M + M) p (o + suc q) ≡ product M p (suc q) + M
second-half M p o zero full period below threshold within =
    let end : product (M + M) p o ≡ M = threshold.low o period.positive (omega arith) ∙ period.full in
    let column : o + zero ≡ o = omega arith in
    let here : product (M + M) p (o + zero) ≡ M = ap (product (M + M) p) column ∙ end in
    second-next M p o 0 full period below (omega arith) (omega (arith, here))
second-half M p o (suc q) full period below threshold within =
    let here = second-half M p o q full period below threshold (omega arith) in
    let small = period.short (suc q) (omega arith) (omega arith) in
    second-next M p o (suc q) full period below (omega arith) (omega (arith, here, small))

-- the period doubles
pub IsPeriod-twice
    : (M p o : ℕ)
    → IsFull M
    → IsPeriod M p o
    → p < M
    → IsThreshold M p o o
    → IsPeriod (M + M) p (o + o)
IsPeriod-twice M p o full period below threshold = record {
  positive = omega (arith, period.positive);
  within = omega (arith, period.within);
  full =
      let last : suc (o - 1) ≡ o = omega (arith, period.positive) in
      let half = second-half M p o (o - 1) full period below threshold (omega (arith, period.positive)) in
      subst (λ c. product (M + M) p (o + c) ≡ product M p c + M) last half
      ∙ ap (λ x. x + M) period.full;
  short = λ q low before. elim (cases_lt o q) [
    | inr first ↦
        let bound = product-within M p q (omega arith) (omega (arith, period.within)) in
        omega (arith, threshold.low q low first, bound, full.positive)
    | inl past ↦
        let column : o + suc (q - suc o) ≡ q = omega arith in
        let half = second-half M p o (q - suc o) full period below threshold (omega arith) in
        let there = subst (λ c. product (M + M) p c ≡ product M p (suc (q - suc o)) + M) column half in
        let small = period.short (suc (q - suc o)) (omega arith) (omega arith) in
        omega (arith, there, small)
  ];
}

-- ---- Rows above M ----

-- row p + M has the period of row p
pub IsPeriod-upper
    : (M p o : ℕ)
    → IsFull M
    → IsPeriod M p o
    → p < M
    → IsPeriod (M + M) (p + M) o
IsPeriod-upper M p o full period below = record {
  positive = period.positive;
  within = omega (arith, period.within);
  full = product-upper M p o full below ∙ ap (λ x. x + M) period.full;
  short = λ q low before. omega (arith, product-upper M p q full below, period.short q low before);
}
