-- Worked rows of the braids of terms and of their values in tables, by computation.
use Rattle.std.proofs.Common.{◌≡◌, ℕ, true, false, List, [], ◌∷◌, refl}
use Rattle.braid_word.specs.Words.{letter}
use Rattle.ld_term.specs.Terms.{Term, variable, multiply}
use Rattle.term_eval.specs.Braids.{braid, placed}
use Rattle.term_eval.specs.Values.{value_of}

-- xx
abbrev square : Term
square = multiply variable variable

-- the word of xx is `1`, that of x(xx) is `2 1`, that of (xx)x is `1 1 -2`
braid_square : braid square ≡ letter 1 false ∷ []
braid_square = refl

braid_right : braid (multiply variable square) ≡ letter 2 false ∷ letter 1 false ∷ []
braid_right = refl

braid_left : braid (multiply square variable) ≡ letter 1 false ∷ letter 1 false ∷ letter 2 true ∷ []
braid_left = refl

-- the word of (xx)(xx) is `1 2 1 -2`
braid_both
    : braid (multiply square square) ≡ letter 1 false ∷ letter 2 false ∷ letter 1 false ∷ letter 2 true ∷ []
braid_both = refl

-- `1 -2` shifted once and inverted is `3 -2`
placed_row : placed 1 true (letter 1 false ∷ letter 2 true ∷ []) ≡ letter 3 false ∷ letter 2 true ∷ []
placed_row = refl

-- the table of size 4
abbrev four : List (List ℕ)
four = (2 ∷ 4 ∷ 2 ∷ 4 ∷ []) ∷ (3 ∷ 4 ∷ 3 ∷ 4 ∷ []) ∷ (4 ∷ 4 ∷ 4 ∷ 4 ∷ []) ∷ (1 ∷ 2 ∷ 3 ∷ 4 ∷ []) ∷ []

-- in it the value of x is 1, that of (xx)x is 3, and that of x(xx) is 4
value_variable : value_of four variable ≡ 1
value_variable = refl

value_left : value_of four (multiply square variable) ≡ 3
value_left = refl

value_right : value_of four (multiply variable square) ≡ 4
value_right = refl

-- in the table of size 1 each value is 1
value_of_size_1 : value_of ((1 ∷ []) ∷ []) (multiply square square) ≡ 1
value_of_size_1 = refl
