-- Laver tables by periods and thresholds: how a table comes from the one of half its size.
--
-- The table of size N = 2M comes from that of size M by one number for each row of it, the threshold. The law
-- is that the Laver tables of size 2^n and 2^(n+1) are in this relation.
-- Source: A. Drapal, Homomorphisms of primitive left distributive groupoids, 1994; P. Dehornoy, Braids and
-- Self-Distributivity, 2000, chapter X.
--
--   period_of rows p                   the number of different entries in row p
--   IsPeriodic N rows p period         row p rises to N in its first columns, this many, and repeats these
--   LiftsRow M small large p o t       row p of size 2M by row p of size M, its period o and its threshold t
--   Doubles M small large              the table of size 2M by the table of size M
use Rattle.std.specs.Prelude.{◌≡◌, ℕ, ◌+◌, ◌<◌, ◌≤◌, ◌==◌, ◌↔◌, List}
use Rattle.std.specs.Set.{distinct_count}
use Rattle.laver_table.specs.Table.{row_of, entry, IsUpTo}

-- How many different entries row p has: row 2 of size 4, which is `3 4 3 4`, has 2.
abbrev pub period_of : List (List ℕ) → ℕ → ℕ
period_of rows p = distinct_count (λ x y. x == y) (row_of rows p)

-- The first entries of row p, this many, rise to N, and the row repeats them.
pub record IsPeriodic (N : ℕ) (rows : List (List ℕ)) (p period : ℕ) : Type 0 where
  pub positive : 1 ≤ period
  pub within : period ≤ N
  pub rises : (q : ℕ) → 1 ≤ q → q < period → entry rows p q < entry rows p (q + 1)
  pub full : entry rows p period ≡ N
  pub repeats : (q : ℕ) → 1 ≤ q → q + period ≤ N → entry rows p (q + period) ≡ entry rows p q

-- The entries of row p up to the threshold stay, and M is added to the others of its period. Where none is
-- left for that, the period doubles, and M is added to each entry of its second half. The threshold is 0 in
-- row M alone.
pub record LiftsRow (M : ℕ) (small large : List (List ℕ)) (p period threshold : ℕ) : Type 0 where
  pub within : threshold ≤ period
  pub low : (q : ℕ) → 1 ≤ q → q ≤ threshold → entry large p q ≡ entry small p q
  pub high : (q : ℕ) → threshold < q → q ≤ period → entry large p q ≡ entry small p q + M
  pub kept : threshold < period → period_of large p ≡ period
  pub twice : threshold ≡ period → period_of large p ≡ period + period
  pub second : threshold ≡ period → (q : ℕ) → 1 ≤ q → q ≤ period
      → entry large p (period + q) ≡ entry small p q + M
  pub zero : threshold ≡ 0 ↔ p ≡ M

-- Each row up to M has a threshold. After row M come the rows of size M with M added, up to the last row,
-- which gives each number back. The table is periodic, so its first periods give all of it.
pub record Doubles (M : ℕ) (small large : List (List ℕ)) : Type 0 where
  pub lower : (p : ℕ) → IsUpTo M p → (threshold : ℕ) × LiftsRow M small large p (period_of small p) threshold
  pub upper : (p q : ℕ) → 1 ≤ p → p < M → IsUpTo M q → entry large (p + M) q ≡ entry small p q + M
  pub kept : (p : ℕ) → 1 ≤ p → p < M → period_of large (p + M) ≡ period_of small p
  pub last : (q : ℕ) → IsUpTo (M + M) q → entry large (M + M) q ≡ q
  pub periodic : (p : ℕ) → IsUpTo (M + M) p → IsPeriodic (M + M) large p (period_of large p)
