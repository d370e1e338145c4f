-- Worked rows of arrangements, by computation.
use Rattle.std.proofs.Common.{◌≡◌, [], ◌∷◌, refl, arith}
use Rattle.perm_braid.specs.Arrangements.{entry, place_of, places_of, swapped, values_swapped, flip, half_turn, IsLeftDescent, IsRightDescent}
use Rattle.perm_braid.specs.SimpleWords.{generator, arranged, delta_word, IsWordOf, nothing, least}

-- the arrangements on 3 strands of `1`, `2`, `1 2`, `2 1` and `1 2 1`
one : arranged 3 (generator 1 ∷ []) ≡ 2 ∷ 1 ∷ 3 ∷ []
one = refl

two : arranged 3 (generator 2 ∷ []) ≡ 1 ∷ 3 ∷ 2 ∷ []
two = refl

one_two : arranged 3 (generator 1 ∷ generator 2 ∷ []) ≡ 2 ∷ 3 ∷ 1 ∷ []
one_two = refl

two_one : arranged 3 (generator 2 ∷ generator 1 ∷ []) ≡ 3 ∷ 1 ∷ 2 ∷ []
two_one = refl

one_two_one : arranged 3 (generator 1 ∷ generator 2 ∷ generator 1 ∷ []) ≡ 3 ∷ 2 ∷ 1 ∷ []
one_two_one = refl

-- the half turn and its word
turned : arranged 4 (delta_word 4) ≡ half_turn 4
turned = refl

delta_four
    : delta_word 4 ≡ generator 1 ∷ generator 2 ∷ generator 3 ∷ generator 1 ∷ generator 2 ∷ generator 1 ∷ []
delta_four = refl

-- `2 3 1` turned by half a turn, and its places
flipped : flip (2 ∷ 3 ∷ 1 ∷ []) ≡ 3 ∷ 1 ∷ 2 ∷ []
flipped = refl

placed : places_of (2 ∷ 3 ∷ 1 ∷ []) ≡ 3 ∷ 1 ∷ 2 ∷ []
placed = refl

-- 3 strands turned twice, and 2 strands, which have one place and one generator
flipped_back : flip (flip (2 ∷ 3 ∷ 1 ∷ [])) ≡ 2 ∷ 3 ∷ 1 ∷ []
flipped_back = refl

two_strands : half_turn 2 ≡ arranged 2 (delta_word 2)
two_strands = refl

-- entries and places count from 1, and beside them there are none
around : entry (3 ∷ 1 ∷ 2 ∷ []) 0 ∷ entry (3 ∷ 1 ∷ 2 ∷ []) 3 ∷ entry (3 ∷ 1 ∷ 2 ∷ []) 4 ∷ [] ≡ 0 ∷ 2 ∷ 0 ∷ []
around = refl

absent : place_of (3 ∷ 1 ∷ 2 ∷ []) 3 ∷ place_of (3 ∷ 1 ∷ 2 ∷ []) 4 ∷ [] ≡ 1 ∷ 4 ∷ []
absent = refl

-- the last two places are exchanged, behind them none are, and values are exchanged wherever they stand
last_places : swapped 2 (3 ∷ 1 ∷ 2 ∷ []) ≡ 3 ∷ 2 ∷ 1 ∷ []
last_places = refl

no_places : swapped 3 (3 ∷ 1 ∷ 2 ∷ []) ≡ 3 ∷ 1 ∷ 2 ∷ []
no_places = refl

values : values_swapped 1 (2 ∷ 3 ∷ 1 ∷ []) ≡ 1 ∷ 3 ∷ 2 ∷ []
values = refl

-- `2 3 1` has the left descent 1 and the right descent 2, and no others
left_descent : IsLeftDescent (2 ∷ 3 ∷ 1 ∷ []) 1 × (IsLeftDescent (2 ∷ 3 ∷ 1 ∷ []) 2 → ⊥)
left_descent = (omega arith, λ descent. absurd (omega arith))

right_descent : IsRightDescent (2 ∷ 3 ∷ 1 ∷ []) 2 × (IsRightDescent (2 ∷ 3 ∷ 1 ∷ []) 1 → ⊥)
right_descent = (omega arith, λ descent. absurd (omega arith))

-- the word of `2 1` is that of the half turn of 2 strands
word : IsWordOf 2 (half_turn 2) (delta_word 2)
word = least 1 (omega arith) (omega arith) (omega arith) (λ j low below descent. absurd (omega arith))
    (nothing refl)
