-- Levels of periods and thresholds, by which a Laver table is held. No public clause cites this.
--
-- Level k, counted from 0, says of each row of size 2^k how it becomes the row of the same number of size
-- 2^(k+1). Its first doubling is that of row 2^k, and its last one that of row 1.
-- Source: A. Drapal, Homomorphisms of primitive left distributive groupoids, 1994; the order of the rows is
-- this project's own.
--
--   IsDoubling M p doubling    the period and the threshold of row p of size M
--   AreDoublings M level       the doublings of the last rows of size M, that of row M first
--   IsLevel M level            the doublings of all rows of size M
--   AreLevels levels           the levels of sizes 1, 2, 4, ..
use Rattle.std.specs.Prelude.{◌≡◌, ℕ, ◌-◌, ◌^◌, ◌<◌, List, Vec, vec_items, length, slice_index_or}
use Rattle.std.specs.Global.{Global}
use Rattle.laver_table.specs.Period.{IsPeriod, IsThreshold}
use Rattle.laver_table.specs.declared.levels.Doubling.{Doubling}

-- The period of row p of size M, and the threshold after which M is added to its entries in size 2M.
pub record IsDoubling (M p : ℕ) (doubling : Doubling) : Type 0 where
  pub periodic : IsPeriod M p doubling.period
  pub lifted : IsThreshold M p doubling.period doubling.threshold

-- The doublings of rows M, M - 1, and so on.
abbrev pub AreDoublings : ℕ → List Doubling → Type 0
AreDoublings M level = (k : ℕ) (default : Doubling) → k < length level
    → IsDoubling M (M - k) (slice_index_or level k default)

-- The doublings of rows M to 1.
pub record IsLevel (M : ℕ) (level : List Doubling) : Type 0 where
  pub whole : length level ≡ M
  pub doublings : AreDoublings M level

-- The levels of sizes 2^0, 2^1, and so on.
abbrev pub AreLevels : List (Vec Doubling Global) → Type 0
AreLevels levels = (k : ℕ) (default : Vec Doubling Global) → k < length levels
    → IsLevel (2 ^ k) (vec_items (slice_index_or levels k default))
