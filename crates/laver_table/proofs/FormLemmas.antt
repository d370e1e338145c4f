-- Laver tables are periodic, and each comes from its half by thresholds.
use Rattle.std.proofs.Common.{◌≡◌, ◌≢◌, ℕ, suc, ◌+◌, ◌-◌, ◌^◌, ◌<◌, ◌≤◌, inl, inr, List, sym, ap, ◌∙◌, subst, subst₂, nat_eq, arith}
use Rattle.std.proofs.lemmas.Bool.{cases_eq}
use Rattle.std.specs.Set.{distinct_count}
use Rattle.laver_table.specs.Product.{product, product_rows}
use Rattle.laver_table.specs.Table.{IsUpTo, IsLaver}
use Rattle.laver_table.specs.Period.{IsFull, IsPeriod, IsThreshold}
use Rattle.laver_table.specs.Form.{period_of, IsPeriodic, LiftsRow, Doubles}
use Rattle.laver_table.proofs.ProductLemmas.{product-top}
use Rattle.laver_table.proofs.DoublingLemmas.{product-upper, IsFull-double, IsFull-pow, pow_double}
use Rattle.laver_table.proofs.LaverLemmas.{IsLaver-only}
use Rattle.laver_table.proofs.RowLemmas.{row_of-product_rows, entry-product_rows}
use Rattle.laver_table.proofs.PeriodLemmas.{IsPeriod-exists, IsPeriod-top, IsPeriod-unique, period-rises, repeats-period, distinct_count-row}
use Rattle.laver_table.proofs.ThresholdLemmas.{IsThreshold-exists, IsPeriod-same, IsPeriod-twice, IsPeriod-upper, second-half, threshold-last, threshold-positive}

-- the number of different entries of a row, where the row has this period
pub period_of-product_rows
    : (N p o : ℕ)
    → IsUpTo N p
    → IsPeriod N p o
    → period_of (product_rows N) p ≡ o
period_of-product_rows N p o row period =
    ap (distinct_count nat_eq) (row_of-product_rows N p row) ∙ distinct_count-row N p o period row.1

-- the entries of a row, where the row has this period
pub IsPeriodic-at
    : (N p o : ℕ)
    → IsUpTo N p
    → IsPeriod N p o
    → IsPeriodic N (product_rows N) p o
IsPeriodic-at N p o row period = record {
  positive = period.positive;
  within = period.within;
  rises = λ q low below.
      let here = entry-product_rows N p q row (low, omega (arith, period.within)) in
      let next = entry-product_rows N p (q + 1) row (omega arith, omega (arith, period.within)) in
      let column : q + 1 ≡ suc q = omega arith in
      let less = period-rises N p o q period row.1 low below in
      omega (arith, here, next ∙ ap (product N p) column, less);
  full = entry-product_rows N p o row (period.positive, period.within) ∙ period.full;
  repeats = λ q low within.
      let before : p ≢ N = λ top.
      let here = subst (λ r. IsPeriod N r o) top period in
      let whole : o ≡ N = IsPeriod-unique N N o N here (IsPeriod-top N (omega arith)) in
      absurd (omega arith) in
      entry-product_rows N p (q + o) row (omega arith, within)
      ∙ repeats-period N p o q period (omega (arith, row.1, before))
      ∙ sym (entry-product_rows N p q row (low, omega arith));
}

-- the rows of the operation of a full size are periodic
pub IsPeriodic-product_rows
    : (N p : ℕ)
    → IsFull N
    → IsUpTo N p
    → IsPeriodic N (product_rows N) p (period_of (product_rows N) p)
IsPeriodic-product_rows N p full row =
    let (o, period) = IsPeriod-exists N p full row.1 in
    let count = period_of-product_rows N p o row period in
    subst (IsPeriodic N (product_rows N) p) (sym count) (IsPeriodic-at N p o row period)

-- row p of size 2M, where its row in size M has this period and this threshold
lifts_at
    : (M p o t : ℕ)
    → IsFull M
    → IsUpTo M p
    → IsPeriod M p o
    → IsThreshold M p o t
    → LiftsRow M (product_rows M) (product_rows (M + M)) p o t
lifts_at M p o t full row period threshold =
    let wide : IsUpTo (M + M) p = (row.0, omega (arith, row.1)) in
    let small = λ (q : ℕ) (low : 1 ≤ q) (high : q ≤ o).
    entry-product_rows M p q row (low, omega (arith, period.within)) in
    let large = λ (q : ℕ) (low : 1 ≤ q) (high : q ≤ o + o).
    entry-product_rows (M + M) p q wide (low, omega (arith, period.within)) in
    let below : t ≡ o → p < M = λ whole. elim (cases_eq p M) [
      | inr ne ↦ omega (arith, row.1)
      | inl top ↦
          let here = subst (λ r. IsThreshold M r o t) top threshold in
          let none : t ≡ 0 = threshold-last M o t full period.positive here in
          absurd (omega (arith, period.positive))
    ] in
    let at_period : t ≡ o → IsThreshold M p o o = λ whole. subst (IsThreshold M p o) whole threshold in
    record {
      within = threshold.within;
      low = λ q first last.
          let inside : q ≤ o = omega (arith, threshold.within) in
          large q first (omega arith) ∙ threshold.low q first last ∙ sym (small q first inside);
      high = λ q above last.
          large q (omega arith) (omega arith)
          ∙ threshold.high q above last
          ∙ ap (λ x. x + M) (sym (small q (omega arith) last));
      kept = λ part.
          period_of-product_rows (M + M) p o wide (IsPeriod-same M p o t full period row.1 threshold part);
      twice = λ whole.
          let doubled = IsPeriod-twice M p o full period (below whole) (at_period whole) in
          period_of-product_rows (M + M) p (o + o) wide doubled;
      second = λ whole q first last.
          let column : suc (q - 1) ≡ q = omega arith in
          let half = second-half M p o (q - 1) full period (below whole) (at_period whole) (omega arith) in
          large (o + q) (omega arith) (omega arith)
          ∙ subst (λ c. product (M + M) p (o + c) ≡ product M p c + M) column half
          ∙ ap (λ x. x + M) (sym (small q first last));
      zero = (
        λ none. elim (cases_eq p M) [
          | inl top ↦ top
          | inr ne ↦
              let positive = threshold-positive M p o t period.positive (omega (arith, row.1)) threshold in
              absurd (omega (arith, positive))
        ],
        λ top. threshold-last M o t full period.positive (subst (λ r. IsThreshold M r o t) top threshold),
      );
    }

-- the rows of size 2M come from those of size M
pub Doubles-product_rows : (M : ℕ) → IsFull M → Doubles M (product_rows M) (product_rows (M + M))
Doubles-product_rows M full = record {
  lower = λ p row.
      let (o, period) = IsPeriod-exists M p full row.1 in
      let (t, threshold) = IsThreshold-exists M p o full period row.1 in
      let count : period_of (product_rows M) p ≡ o = period_of-product_rows M p o row period in
      let lifted = lifts_at M p o t full row period threshold in
      (t, subst (λ c. LiftsRow M (product_rows M) (product_rows (M + M)) p c t) (sym count) lifted);
  upper = λ p q low below column.
      entry-product_rows (M + M) (p + M) q (omega arith, omega arith) (column.0, omega (arith, column.1))
      ∙ product-upper M p q full below
      ∙ ap (λ x. x + M) (sym (entry-product_rows M p q (low, omega arith) column));
  kept = λ p low below.
      let (o, period) = IsPeriod-exists M p full (omega arith) in
      let upper = IsPeriod-upper M p o full period below in
      period_of-product_rows (M + M) (p + M) o (omega arith, omega arith) upper
      ∙ sym (period_of-product_rows M p o (low, omega arith) period);
  last = λ q column.
      entry-product_rows (M + M) (M + M) q (omega (arith, full.positive), omega arith) column
      ∙ product-top (M + M) q;
  periodic = λ p row. IsPeriodic-product_rows (M + M) p (IsFull-double M full) row;
}

-- the rows of a Laver table are periodic
pub IsPeriodic-laver
    : (n : ℕ) (rows : List (List ℕ)) (p : ℕ)
    → IsLaver n rows
    → IsUpTo (2 ^ n) p
    → IsPeriodic (2 ^ n) rows p (period_of rows p)
IsPeriodic-laver n rows p laver row =
    let periodic = IsPeriodic-product_rows (2 ^ n) p (IsFull-pow n) row in
    subst (λ table. IsPeriodic (2 ^ n) table p (period_of table p)) (sym (IsLaver-only n rows laver)) periodic

-- a Laver table comes from its half
pub Doubles-laver
    : (n : ℕ) (small large : List (List ℕ))
    → IsLaver n small
    → IsLaver (n + 1) large
    → Doubles (2 ^ n) small large
Doubles-laver n small large first second =
    let next : n + 1 ≡ suc n = omega arith in
    let size : 2 ^ (n + 1) ≡ 2 ^ n + 2 ^ n = ap (λ k. 2 ^ k) next ∙ pow_double n in
    let rows : large ≡ product_rows (2 ^ n + 2 ^ n)
    = IsLaver-only (n + 1) large second ∙ ap product_rows size in
    subst₂ (Doubles (2 ^ n)) (sym (IsLaver-only n small first)) (sym rows)
    (Doubles-product_rows (2 ^ n) (IsFull-pow n))
