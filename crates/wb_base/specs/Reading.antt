-- How many bytes a refused reading has taken.
--
-- Source: this project's own.
--
--   Refuses limit old new e   what a reading within a limit that is refused for e has taken
use Rattle.std.specs.Prelude.{ℕ, ◌+◌, ◌≤◌, List, Option}
use Rattle.wb_base.specs.Streams.{Skips}
use Rattle.wb_base.specs.declared.whole.ReadErr.{ReadErr}
use Rattle.wb_base.specs.declared.whole.ReadErr.TheVariants.{Fault, TooLarge, Memory}

-- At most one byte past the limit was taken, and exactly that where there are too many.
abbrev pub Refuses : ℕ → Option (List ℕ) → Option (List ℕ) → ReadErr → Type 0
Refuses limit old new Fault = (n : ℕ) × (n ≤ limit) × Skips old new n
Refuses limit old new TooLarge = Skips old new (limit + 1)
Refuses limit old new Memory = (n : ℕ) × (n ≤ limit + 1) × Skips old new n
