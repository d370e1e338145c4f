-- What a scan keeps beside its letters. No public clause cites this module.
--
-- The run of a letter is a number of letters right before it of which none is lower. It needn't be the
-- greatest such number, and 0 always is one. A search for the nearest lower letter passes it at one blow.
use Rattle.std.specs.Prelude.{◌≡◌, ℕ, ◌+◌, ◌-◌, ◌<◌, ◌≤◌, ◌==◌, ◌⊎◌, List, [], length, drop, slice_index_or}
use Rattle.std.specs.List.{count_by}
use Rattle.braid_word.specs.Words.{Letter}
use Rattle.gap_word.specs.Gap.{Gap, room}
use Rattle.handle_find.specs.Handles.{at, HasNoHandle}

-- None of the n letters before place k has an index below i.
pub record IsRun (w : List Letter) (i k n : ℕ) : Type 0 where
  pub within : n ≤ k
  pub none_lower : (m : ℕ) → k ≤ m + n → m < k → i ≤ (at w m).index

-- The number beside each letter is a run of it.
pub record HasRuns (ns : List ℕ) (w : List Letter) : Type 0 where
  pub alike : length ns ≡ length w
  pub run : (k : ℕ) → k < length w → IsRun w (at w k).index k (slice_index_or ns k 0)

-- The letters and their runs. The second buffer's own right is never used.
pub record IsScan (letters : Gap Letter) (runs : Gap ℕ) : Type 0 where
  pub has_runs : HasRuns runs.left letters.left
  pub alone : runs.right ≡ []
  pub same_room : room runs ≡ room letters
  pub none : HasNoHandle letters.left

-- From place k on all letters are higher than i, and the one before isn't.
pub record IsHigherFrom (w : List Letter) (i k : ℕ) : Type 0 where
  pub within : k ≤ length w
  pub higher : (m : ℕ) → k ≤ m → m < length w → i < (at w m).index
  pub barred : 0 < k → (at w (k - 1)).index ≤ i

-- From place k on no letter is lower than i, those of index i are counted, and all of these stand from a
-- place on before which no letter from k on is lower than `low`.
pub record Surveyed (w : List Letter) (k i raised from low : ℕ) : Type 0 where
  pub below : k ≤ from
  pub within : from ≤ length w
  pub count : raised ≡ count_by (λ (x : Letter). x.index == i) (drop k w)
  pub least : (m : ℕ) → k ≤ m → m < from → (low ≤ (at w m).index) × (i < (at w m).index)

-- The letters after a place are no lower than `low` and higher than the one there, and the letter before it,
-- if there is one, is lower than `low`.
pub record IsBarred (w : List Letter) (place low : ℕ) : Type 0 where
  pub within : place < length w
  pub before : (place ≡ 0) ⊎ ((at w (place - 1)).index < low)
  pub after : (m : ℕ) → place < m → m < length w → (low ≤ (at w m).index)
      × ((at w place).index < (at w m).index)
