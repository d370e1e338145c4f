-- What a sink in memory keeps of its numbers. No public clause cites this.
use Rattle.std.specs.Prelude.{ℕ, ◌≤◌}

-- How many bytes were passed on, taken, may be taken and have a place, and the most that one call takes.
pub record HasRoom (passed taken room places piece : ℕ) : Type 0 where
  pub passed_on : passed ≤ taken
  pub within : taken ≤ room
  pub reserved : room ≤ places
  pub some : 1 ≤ piece
