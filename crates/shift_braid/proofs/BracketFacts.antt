-- Worked rows of brackets.
use Rattle.std.proofs.Common.{◌≡◌, true, false, [], ◌∷◌, refl}
use Rattle.braid_word.specs.Words.{letter}
use Rattle.shift_braid.specs.Bracket.{bracket}

-- the bracket of two empty words is `1`
empty_row : bracket [] [] ≡ letter 1 false ∷ []
empty_row = refl

-- that of `1` and the empty word is `1 1 -2`
first_row : bracket (letter 1 false ∷ []) [] ≡ letter 1 false ∷ letter 1 false ∷ letter 2 true ∷ []
first_row = refl

-- that of the empty word and `1` is `2 1`
second_row : bracket [] (letter 1 false ∷ []) ≡ letter 2 false ∷ letter 1 false ∷ []
second_row = refl

-- that of `1 -2` and `1 1` is `1 -2 2 2 1 3 -2`
both_row
    : bracket (letter 1 false ∷ letter 2 true ∷ []) (letter 1 false ∷ letter 1 false ∷ [])
    ≡ letter 1 false ∷ letter 2 true ∷ letter 2 false ∷ letter 2 false ∷ letter 1 false ∷ letter 3 false ∷
    letter 2 true ∷ []
both_row = refl
