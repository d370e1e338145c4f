-- Worked rows of corners and of runs, at their limits, and the greatest limit.
use Rattle.std.proofs.Common.{◌≡◌, true, false, List, [], ◌∷◌, Some, None, refl}
use Rattle.braid_word.specs.Words.{Letter, letter}
use Rattle.word_reverse.specs.Corners.{corner_of, turned_at}
use Rattle.word_reverse.specs.Fractions.{positive_front, behind_front}
use Rattle.word_reverse.specs.RevRuns.{rev_after, turn_of}
use Rattle.word_reverse.specs.declared.TheConstants.{MAX_BOUND}
use Rattle.word_reverse.specs.declared.progress.RevProgress.TheVariants.{Running, Done, StepsMet, LengthMet}

-- `-1 2`, whose turned word `2 1 -2 -1` has four letters
abbrev short : List Letter
short = letter 1 true ∷ letter 2 false ∷ []

abbrev short_turned : List Letter
short_turned = letter 2 false ∷ letter 1 false ∷ letter 2 true ∷ letter 1 true ∷ []

-- `-2 -1 2 1`
abbrev longer : List Letter
longer = letter 2 true ∷ letter 1 true ∷ letter 2 false ∷ letter 1 false ∷ []

-- neighbours in either order
near_row : turned_at short 0 ≡ short_turned
near_row = refl

near_row_down
    : turned_at (letter 2 true ∷ letter 1 false ∷ []) 0
    ≡ letter 1 false ∷ letter 2 false ∷ letter 1 true ∷ letter 2 true ∷ []
near_row_down = refl

-- indices 2 apart
far_row : turned_at (letter 1 true ∷ letter 3 false ∷ []) 0 ≡ letter 3 false ∷ letter 1 true ∷ []
far_row = refl

-- equal indices
equal_row : turned_at (letter 1 true ∷ letter 1 false ∷ []) 0 ≡ []
equal_row = refl

-- the leftmost corner of `-2 -1 2 1 -1 2` is at 1, and `1 -2 -1` has none
leftmost_row : corner_of (letter 2 true ∷ letter 1 true ∷ letter 2 false ∷ letter 1 false ∷ short) ≡ Some 1
leftmost_row = refl

none_row : corner_of (letter 1 false ∷ letter 2 true ∷ letter 1 true ∷ []) ≡ None
none_row = refl

-- the fraction of `2 1 -2 -1`
front_row : positive_front short_turned ≡ letter 2 false ∷ letter 1 false ∷ []
front_row = refl

behind_row : behind_front short_turned ≡ letter 2 true ∷ letter 1 true ∷ []
behind_row = refl

-- one step leads from `-1 2` to `2 1 -2 -1`
short_row
    : rev_after short 9 9 1 ≡ record { progress = Done; places = 1 ∷ []; present = short_turned }
unfolding rev_after turn_of
short_row = refl

-- three steps lead from `-2 -1 2 1` to `1 -2`
longer_row
    : rev_after longer 9 9 3
    ≡ record {
      progress = Done;
      places = 2 ∷ 1 ∷ 3 ∷ [];
      present = letter 1 false ∷ letter 2 true ∷ [];
    }
unfolding rev_after turn_of
longer_row = refl

-- where none is allowed, the steps are met before the first turn, and a next word that is too long isn't seen
no_steps_row : rev_after short 0 3 0 ≡ record { progress = StepsMet; places = []; present = short }
unfolding rev_after turn_of
no_steps_row = refl

-- a next word that is too long is seen one turn later, and isn't taken
before_long_row : rev_after short 9 3 0 ≡ record { progress = Running; places = []; present = short }
unfolding rev_after turn_of
before_long_row = refl

long_row : rev_after short 9 3 1 ≡ record { progress = LengthMet; places = []; present = short }
unfolding rev_after turn_of
long_row = refl

-- a word that is too long is seen before the first turn, and before the steps
long_word_row : rev_after short 0 1 0 ≡ record { progress = LengthMet; places = []; present = short }
unfolding rev_after turn_of
long_word_row = refl

-- the empty word is done at once, whatever the limits
empty_row : rev_after [] 0 0 0 ≡ record { progress = Done; places = []; present = [] }
unfolding rev_after turn_of
empty_row = refl

-- a run may be limited to 100,000 steps and letters, and to no more
bound_row : MAX_BOUND ≡ 100000
bound_row = refl
