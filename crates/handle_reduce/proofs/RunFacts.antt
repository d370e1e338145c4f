-- Worked rows of runs, at their limits, and the greatest limit.
use Rattle.std.proofs.Common.{◌≡◌, true, false, List, [], ◌∷◌, refl}
use mathlib.Core.Bool.{xor}
use Rattle.braid_word.specs.Words.{Letter, letter}
use Rattle.braid_word.specs.declared.sign.Sign.TheVariants.{Empty, Positive}
use Rattle.handle_find.specs.Handles.{leftmost_of, reduct}
use Rattle.handle_reduce.specs.Runs.{run_after, turn_of}
use Rattle.handle_reduce.specs.declared.TheConstants.{MAX_BOUND}
use Rattle.handle_reduce.specs.declared.progress.Progress.TheVariants.{Running, Done, HandlesMet, LengthMet}

-- `-2 -1 2 1`
abbrev short : List Letter
short = letter 2 true ∷ letter 1 true ∷ letter 2 false ∷ letter 1 false ∷ []

-- `-1 2 2 1`, whose reduct `2 1 -2 2 1 -2` has six letters
abbrev longer : List Letter
longer = letter 1 true ∷ letter 2 false ∷ letter 2 false ∷ letter 1 false ∷ []

-- two reductions lead to `1 -2`, and no handle is left though two are allowed
done_row
    : run_after short 2 100 2
    ≡ record {
      progress = Done (Positive 1);
      steps = (2, 4) ∷ (1, 2) ∷ [];
      present = letter 1 false ∷ letter 2 true ∷ [];
    }
unfolding run_after turn_of leftmost_of reduct xor
done_row = refl

-- where one is allowed, the handles are met at `-2 2 1 -2`
handles_row
    : run_after short 1 100 1
    ≡ record {
      progress = HandlesMet;
      steps = (2, 4) ∷ [];
      present = letter 2 true ∷ letter 2 false ∷ letter 1 false ∷ letter 2 true ∷ [];
    }
unfolding run_after turn_of leftmost_of reduct xor
handles_row = refl

-- where none is allowed, they are met before the first turn, and a reduct that is too long isn't seen
no_handles_row
    : run_after longer 0 5 0 ≡ record { progress = HandlesMet; steps = []; present = longer }
unfolding run_after turn_of leftmost_of reduct xor
no_handles_row = refl

-- a word that is too long is seen before the first turn, and before the handles
long_word_row
    : run_after longer 0 3 0 ≡ record { progress = LengthMet; steps = []; present = longer }
unfolding run_after turn_of leftmost_of reduct xor
long_word_row = refl

-- a reduct that is too long is seen one turn later, and isn't taken
before_long_reduct_row
    : run_after longer 9 5 0 ≡ record { progress = Running; steps = []; present = longer }
unfolding run_after turn_of leftmost_of reduct xor
before_long_reduct_row = refl

long_reduct_row
    : run_after longer 9 5 1 ≡ record { progress = LengthMet; steps = []; present = longer }
unfolding run_after turn_of leftmost_of reduct xor
long_reduct_row = refl

-- the empty word is done at once, whatever the limits
empty_row : run_after [] 0 0 0 ≡ record { progress = Done Empty; steps = []; present = [] }
unfolding run_after turn_of leftmost_of reduct xor
empty_row = refl

-- a run may be limited to 100,000 reductions and letters, and to no more
bound_row : MAX_BOUND ≡ 100000
bound_row = refl
