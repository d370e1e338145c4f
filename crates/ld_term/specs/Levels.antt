-- Heights of which some aren't there, as a list of marks and a list of those that are. No public clause cites
-- it.
use Rattle.std.specs.Prelude.{ℕ, ◌+◌, Bool, true, false, List, [], ◌∷◌, Option, Some, None}

-- How many marks say that a height is there.
abbrev pub how_many : List Bool → ℕ
how_many [] = 0
how_many (false ∷ marks) = how_many marks
how_many (true ∷ marks) = how_many marks + 1

-- The heights at their marks: of `true false` and `7` they are 7, and none.
abbrev pub levels_of : List Bool → List ℕ → List (Option ℕ)
levels_of [] heights = []
levels_of (false ∷ marks) heights = None ∷ levels_of marks heights
levels_of (true ∷ marks) [] = None ∷ levels_of marks []
levels_of (true ∷ marks) (height ∷ heights) = Some height ∷ levels_of marks heights
