-- The present word of a replay, in its room. No public clause cites this module.
--
--   IsPresent g      the buffer holds a word that isn't too long, in room for the longest and one letter more
--   AreAbove w s     the letters of w in the stretch s have indices above the one that is known of them
--   IsKnown w k      so have those in both stretches of k
--   IsPassed Told i from to low high
--                    of the letters between two places those from low up to high are too high for a handle of
--                    index i to raise them, in each word of which this is told
--   Counted w i k n  the letters of w from place k on are higher than i, and n of them have the next index
--   After result w   what a step answered that has left the word w
--   Takes result g h the first letter of right was taken out of g, if there is one, and h is left
use Rattle.std.specs.Prelude.{◌≡◌, ℕ, ◌+◌, ◌<◌, ◌≤◌, ◌==◌, List, [], length, drop, Result, Ok, Err}
use Rattle.std.specs.List.{count_by}
use Rattle.braid_word.specs.Words.{Letter}
use Rattle.braid_word.specs.declared.TheConstants.{MAX_LETTERS}
use Rattle.gap_word.specs.Gap.{Gap, room, PopsRight}
use Rattle.handle_find.specs.Handles.{at}
use Rattle.handle_find.specs.Scans.{whole}
use Rattle.trace_check.specs.declared.checked.Why.{Why}
use Rattle.trace_check.specs.declared.known.Known.{Known}
use Rattle.trace_check.specs.declared.known.Stretch.{Stretch}
use Rattle.trace_check.specs.declared.checked.Why.TheVariants.{Step}

pub record IsPresent (g : Gap Letter) : Type 0 where
  pub room : room g ≡ MAX_LETTERS + 1
  pub short : length (whole g) ≤ MAX_LETTERS

-- Each letter of the stretch, whose places count from 0, has an index above the one that is known.
pub record AreAbove (w : List Letter) (s : Stretch) : Type 0 where
  pub higher : (m : ℕ) → s.from ≤ m → m < s.to → s.above < (at w m).index

-- So have the letters of both stretches that are known.
pub record IsKnown (w : List Letter) (k : Known) : Type 0 where
  pub inside : AreAbove w k.inside
  pub other : AreAbove w k.other

-- In each word of which this is told, the letters from low up to high have indices above the next one to i.
pub record IsPassed (Told : List Letter → Type 0) (i from to low high : ℕ) : Type 0 where
  pub begins : from ≤ low
  pub ordered : low ≤ high
  pub ends : high ≤ to
  pub higher : (w : List Letter) → Told w → (m : ℕ) → low ≤ m → m < high → i + 1 < (at w m).index

-- The letters from a place on are higher than i, and so many of them have the next index.
pub record Counted (w : List Letter) (i k n : ℕ) : Type 0 where
  pub higher : (m : ℕ) → k ≤ m → m < length w → i < (at w m).index
  pub count : n ≡ count_by (λ x. x.index == i + 1) (drop k w)
  pub few : n + k ≤ length w

abbrev pub After : {X : Type 0} → Result X Why → List Letter → Result (List Letter) Why
After (Ok done) w = Ok w
After (Err why) w = Err why

abbrev pub Takes : Result Letter Why → Gap Letter → Gap Letter → Type 0
Takes (Ok x) old new = PopsRight old x new
Takes (Err why) old new = (old.right ≡ []) × (why ≡ Step)
