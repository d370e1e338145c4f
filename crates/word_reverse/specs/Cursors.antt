-- The word of a reverser, with a cursor that goes on to the leftmost corner. No public clause cites this
-- module.
--
--   whole g               the word: left, and then right
--   MeetAt g x y          x is the last letter of left, and y the first of right
--   IsBetween g           there are two such letters
--   turned_at_cursor g    the word with them turned
--   AtCorner g            they are the leftmost corner
--   GoesOn, Keeps         what a reverser keeps of its word and its steps
use Rattle.std.specs.Prelude.{◌≡◌, ℕ, ◌-◌, ◌<◌, ◌≤◌, List, [], ◌∷◌, ◌++◌, length, Some, None}
use Rattle.braid_word.specs.Words.{Letter}
use Rattle.braid_word.specs.declared.TheConstants.{MAX_LETTERS}
use Rattle.gap_word.specs.Gap.{Gap, room}
use Rattle.word_reverse.specs.Corners.{corner_of, turned_at}
use Rattle.word_reverse.specs.declared.TheConstants.{MAX_BOUND}
use Rattle.word_reverse.specs.declared.progress.RevProgress.{RevProgress}
use Rattle.word_reverse.specs.declared.progress.RevProgress.TheVariants.{Running, Done}

-- The whole word.
abbrev pub whole : Gap Letter → List Letter
whole g = g.left ++ g.right

-- The cursor stands between these two letters.
pub record MeetAt (g : Gap Letter) (x y : Letter) : Type 0 where
  pub front : List Letter
  pub back : List Letter
  pub left : g.left ≡ front ++ x ∷ []
  pub right : g.right ≡ y ∷ back

-- The cursor stands between two letters.
pub record IsBetween (g : Gap Letter) : Type 0 where
  pub before : 0 < length g.left
  pub behind : 0 < length g.right

-- The word with those two turned as a corner.
abbrev pub turned_at_cursor : Gap Letter → List Letter
turned_at_cursor g = turned_at (whole g) (length g.left - 1)

-- The cursor stands between the two letters of the leftmost corner: left has none.
pub record AtCorner (g : Gap Letter) : Type 0 where
  pub passed : corner_of g.left ≡ None
  pub between : IsBetween g
  pub corner : corner_of (whole g) ≡ Some (length g.left - 1)

-- While a run goes on, the cursor stands at the leftmost corner, there is room for any word that isn't too
-- long, and for one step more.
pub record GoesOn (word : Gap Letter) (places : List ℕ) (steps limit places_room : ℕ) : Type 0 where
  pub corner : AtCorner word
  pub short : length (whole word) ≤ limit
  pub fewer : length places < steps
  pub has_room : limit ≤ room word
  pub places_have_room : steps ≤ places_room

-- The numbers are small, a word that is done has no corner, and what a running reverser keeps.
pub record Keeps (progress : RevProgress) (word : Gap Letter) (places : List ℕ)
    (steps limit places_room : ℕ) : Type 0 where
  pub few_steps : steps ≤ MAX_BOUND
  pub small_limit : limit ≤ MAX_BOUND
  pub short_word : length (whole word) ≤ MAX_LETTERS
  pub few_places : length places ≤ steps
  pub done : progress ≡ Done → corner_of (whole word) ≡ None
  pub running : progress ≡ Running → GoesOn word places steps limit places_room
