-- Full sizes, periods and thresholds of the operation of Laver tables. No public clause cites this.
--
-- Source: A. Drapal, Homomorphisms of primitive left distributive groupoids, 1994.
--
--   IsFull N                     column N has N in every row
--   IsPeriod N p period          row p first reaches N at column `period`
--   IsInPeriod N p column        the column is one of the first period of row p
--   IsThreshold M p period t     up to column t, row p of size 2M is that of size M, and up to `period`
--                                that of size M with M added
use Rattle.std.specs.Prelude.{◌≡◌, ℕ, ◌+◌, ◌<◌, ◌≤◌}
use Rattle.laver_table.specs.Product.{product}

-- Column N has N in every row.
pub record IsFull (N : ℕ) : Type 0 where
  pub positive : 1 ≤ N
  pub full : (p : ℕ) → p ≤ N → product N p N ≡ N

-- The first column in which row p has N.
pub record IsPeriod (N p period : ℕ) : Type 0 where
  pub positive : 1 ≤ period
  pub within : period ≤ N
  pub full : product N p period ≡ N
  pub short : (q : ℕ) → 1 ≤ q → q < period → product N p q < N

-- One of the columns of row p up to its period.
pub record IsInPeriod (N p column : ℕ) : Type 0 where
  pub positive : 1 ≤ column
  pub within : (period : ℕ) → IsPeriod N p period → column ≤ period

-- Where the entries of row p begin to be those of size M with M added.
pub record IsThreshold (M p period threshold : ℕ) : Type 0 where
  pub within : threshold ≤ period
  pub low : (q : ℕ) → 1 ≤ q → q ≤ threshold → product (M + M) p q ≡ product M p q
  pub high : (q : ℕ) → threshold < q → q ≤ period → product (M + M) p q ≡ product M p q + M
