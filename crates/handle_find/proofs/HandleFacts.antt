-- Worked rows of handles and reducts.
use Rattle.std.proofs.Common.{◌≡◌, true, false, [], ◌∷◌, Some, None, refl}
use mathlib.Core.Bool.{xor}
use Rattle.braid_word.specs.Words.{letter}
use Rattle.handle_find.specs.Handles.{leftmost_of, reduct}

-- the leftmost handle of `-2 -1 2 1` is at 1 and 3
leftmost_row
    : leftmost_of (letter 2 true ∷ letter 1 true ∷ letter 2 false ∷ letter 1 false ∷ [])
    ≡ Some (1, 3)
unfolding leftmost_of xor
leftmost_row = refl

-- that of `1 2 -2 -1` ends first, at 1 and 2, and doesn't start first
leftmost_inner_row
    : leftmost_of (letter 1 false ∷ letter 2 false ∷ letter 2 true ∷ letter 1 true ∷ [])
    ≡ Some (1, 2)
unfolding leftmost_of xor
leftmost_inner_row = refl

-- `2 1 -2` has none, since 1 is below 2
leftmost_lower_row
    : leftmost_of (letter 2 false ∷ letter 1 false ∷ letter 2 true ∷ []) ≡ None
unfolding leftmost_of xor
leftmost_lower_row = refl

-- the empty word has none
leftmost_empty_row : leftmost_of [] ≡ None
unfolding leftmost_of
leftmost_empty_row = refl

-- the reduct of `-2 -1 2 1` at 1 and 3 is `-2 2 1 -2`
reduct_row
    : reduct (letter 2 true ∷ letter 1 true ∷ letter 2 false ∷ letter 1 false ∷ []) 1 3
    ≡ letter 2 true ∷ letter 2 false ∷ letter 1 false ∷ letter 2 true ∷ []
unfolding reduct
reduct_row = refl

-- that of `1 2 -2 -1` at 0 and 3 is `-2 1 2 -2 -1 2`
reduct_two_row
    : reduct (letter 1 false ∷ letter 2 false ∷ letter 2 true ∷ letter 1 true ∷ []) 0 3
    ≡ letter 2 true ∷ letter 1 false ∷ letter 2 false ∷ letter 2 true ∷ letter 1 true ∷ letter 2 false ∷ []
unfolding reduct
reduct_two_row = refl

-- a letter two above stays: that of `1 3 -1 1` at 0 and 2 is `3 1`
reduct_higher_row
    : reduct (letter 1 false ∷ letter 3 false ∷ letter 1 true ∷ letter 1 false ∷ []) 0 2
    ≡ letter 3 false ∷ letter 1 false ∷ []
unfolding reduct
reduct_higher_row = refl

-- that of `1 -1` at 0 and 1 is empty
reduct_neighbours_row : reduct (letter 1 false ∷ letter 1 true ∷ []) 0 1 ≡ []
unfolding reduct
reduct_neighbours_row = refl
