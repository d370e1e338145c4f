-- What a reducer keeps of its scan and its steps. No public clause cites this module.
use Rattle.std.specs.Prelude.{◌≡◌, ℕ, ◌<◌, ◌≤◌, List, ◌++◌, length, Some}
use Rattle.braid_word.specs.Words.{Letter}
use Rattle.handle_find.specs.Handles.{leftmost_of}
use Rattle.braid_word.specs.declared.TheConstants.{MAX_LETTERS}
use Rattle.handle_reduce.specs.declared.TheConstants.{MAX_BOUND}
use Rattle.handle_reduce.specs.declared.progress.Progress.{Progress}
use Rattle.handle_reduce.specs.declared.progress.Progress.TheVariants.{Running}

-- While a run goes on its leftmost handle begins at this place and ends at the cursor, there is room for any
-- word that isn't too long and one letter more, and for one step more.
pub record GoesOn (left right : List Letter) (steps : List (ℕ × ℕ)) (start handles limit : ℕ)
    (room steps_room : ℕ) : Type 0 where
  pub leftmost : leftmost_of (left ++ right) ≡ Some (start, length left)
  pub short : length (left ++ right) ≤ limit
  pub fewer : length steps < handles
  pub has_room : limit < room
  pub steps_have_room : handles ≤ steps_room

-- The numbers are small, and what a running reducer keeps.
pub record Keeps (progress : Progress) (left right : List Letter) (steps : List (ℕ × ℕ))
    (start handles limit : ℕ) (room steps_room : ℕ) : Type 0 where
  pub few_handles : handles ≤ MAX_BOUND
  pub small_limit : limit ≤ MAX_BOUND
  pub short_word : length (left ++ right) ≤ MAX_LETTERS
  pub few_steps : length steps ≤ handles
  pub running : progress ≡ Running → GoesOn left right steps start handles limit room steps_room
