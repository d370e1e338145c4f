-- The walk along row p of size 2M that finds its threshold.
--
-- It begins at column 1, and goes from an entry that is at most M to the next one, in the row of that number
-- (`IsWalked-more`). The entries rise, so it ends, and the threshold is then the column before it
-- (`IsThreshold-walked`).
use Rattle.std.proofs.Common.{◌≡◌, ℕ, suc, ◌+◌, ◌<◌, ◌≤◌, inl, inr, sym, ap, ◌∙◌, subst, arith}
use Rattle.std.proofs.lemmas.Bool.{cases_eq, cases_lt}
use Rattle.laver_table.specs.Product.{product}
use Rattle.laver_table.specs.Period.{IsFull, IsPeriod, IsThreshold}
use Rattle.laver_table.proofs.ProductLemmas.{product-between, product-one, product-suc}
use Rattle.laver_table.proofs.PeriodLemmas.{product-within}
use Rattle.laver_table.proofs.ThresholdLemmas.{product-positive, IsThreshold-exists, second-half, threshold-last}

-- ---- A threshold by the entries around it ----

-- in the first column of a second half M is added
past_period
    : (M p o : ℕ)
    → IsFull M
    → IsPeriod M p o
    → p ≤ M
    → IsThreshold M p o o
    → product (M + M) p (suc o) ≤ M
    → ⊥
past_period M p o full period row threshold here = elim (cases_eq p M) [
  | inl top ↦
      let none = threshold-last M o o full period.positive (subst (λ r. IsThreshold M r o o) top threshold) in
      absurd (omega (arith, period.positive, none))
  | inr ne ↦
      let next : o + 1 ≡ suc o = omega arith in
      let second = second-half M p o 0 full period (omega arith) threshold period.positive in
      let more = subst (λ c. product (M + M) p c ≡ product M p 1 + M) next second in
      let positive = product-positive M p 1 row (omega arith) in
      absurd (omega (arith, more, positive, here))
]

-- Where the entries of row p of size 2M are at most M in the first t columns, and above M in the next one, t
-- is the threshold. Were it less, M would be added in a column up to t, the first of a second half if it is
-- the period; were it more, M wouldn't be added in column t + 1.
IsThreshold-walk
    : (M p o t : ℕ)
    → IsFull M
    → IsPeriod M p o
    → p ≤ M
    → ((q : ℕ) → 1 ≤ q → q ≤ t → product (M + M) p q ≤ M)
    → M < product (M + M) p (suc t)
    → IsThreshold M p o t
IsThreshold-walk M p o t full period row low above =
    let (s, threshold) = IsThreshold-exists M p o full period row in
    elim (cases_eq s t) [
      | inl e ↦ subst (IsThreshold M p o) e threshold
      | inr ne ↦ elim (cases_lt t s) [
        | inl less ↦
            let same = threshold.low (suc t) (omega arith) less in
            let bound = product-within M p (suc t) row (omega (arith, threshold.within, period.within)) in
            absurd (omega (arith, same, bound, above))
        | inr more ↦
            let here = low (suc s) (omega arith) (omega arith) in
            elim (cases_lt s o) [
              | inl inside ↦
                  let positive = product-positive M p (suc s) row (omega arith) in
                  absurd (omega (arith, threshold.high (suc s) (omega arith) inside, positive, here))
              | inr whole ↦
                  let end : s ≡ o = omega (arith, threshold.within) in
                  let at_end = subst (IsThreshold M p o) end threshold in
                  let low_there = subst (λ c. product (M + M) p (suc c) ≤ M) end here in
                  absurd (past_period M p o full period row at_end low_there)
            ]
      ]
    ]

-- ---- The walk ----

-- The entries of row p of size 2M are at most M in the first t columns, and the next one is this.
pub record IsWalked (M p t entry : ℕ) : Type 0 where
  pub is : entry ≡ product (M + M) p (t + 1)
  pub low : (q : ℕ) → 1 ≤ q → q ≤ t → product (M + M) p q ≤ M
  pub risen : p + t < entry
  pub within : entry ≤ M + M

-- it begins at column 1, which has p + 1
pub IsWalked-start : (M p : ℕ) → IsFull M → p ≤ M → IsWalked M p 0 (p + 1)
IsWalked-start M p full row = record {
  is = omega (arith, product-one (M + M) p (omega (arith, full.positive)));
  low = λ q first last. absurd (omega arith);
  risen = omega arith;
  within = omega (arith, full.positive);
}

-- one column more
pub IsWalked-more
    : (M p t entry next : ℕ)
    → IsFull M
    → p ≤ M
    → IsWalked M p t entry
    → entry ≤ M
    → next ≡ product (M + M) entry (p + 1)
    → IsWalked M p (t + 1) next
IsWalked-more M p t entry next full row walked low is =
    let positive = full.positive in
    let here : product (M + M) p (suc (t + 1)) ≡ next
    = product-suc (M + M) p (t + 1) (omega arith)
    ∙ ap (λ x. product (M + M) x (suc p)) (sym walked.is)
    ∙ ap (product (M + M) entry) (omega arith)
    ∙ sym is in
    let between = product-between (M + M) entry (p + 1) (omega arith) in
    record {
      is = sym here ∙ ap (product (M + M) p) (omega arith);
      low = λ q first last. elim (cases_eq q (t + 1)) [
        | inl end ↦ rw end (omega (arith, walked.is))
        | inr before ↦ walked.low q first (omega arith)
      ];
      risen = omega (arith, walked.risen, between.above);
      within = omega (arith, between.within);
    }

-- at the first entry above M the threshold is found
pub IsThreshold-walked
    : (M p t entry : ℕ)
    → IsFull M
    → p ≤ M
    → IsWalked M p t entry
    → M < entry
    → (period : ℕ)
    → IsPeriod M p period
    → IsThreshold M p period t
IsThreshold-walked M p t entry full row walked above period periodic =
    let column : t + 1 ≡ suc t = omega arith in
    let is = walked.is ∙ ap (product (M + M) p) column in
    IsThreshold-walk M p period t full periodic row walked.low (omega (arith, is))
