-- Worked rows of words, of their notations and of their signs.
use Rattle.std.proofs.Common.{◌≡◌, true, false, [], ◌∷◌, Some, None, Ok, Err, codes, refl}
use Rattle.braid_word.specs.Words.{letter, quotient, shift, first_outside, first_negative}
use Rattle.braid_word.specs.Sign.{sign_of}
use Rattle.braid_word.specs.Notation.{number_word_of, letters_word_of, word_of, strict_word_of}
use Rattle.braid_word.specs.declared.reader.WordErr.TheVariants.{BadLetter, BadIndex}
use Rattle.braid_word.specs.declared.sign.Sign.TheVariants.{Mixed, Negative}

-- the quotient of `1 2` and `2 1` is `-2 -1 2 1`
quotient_row
    : quotient (letter 1 false ∷ letter 2 false ∷ []) (letter 2 false ∷ letter 1 false ∷ [])
    ≡ letter 2 true ∷ letter 1 true ∷ letter 2 false ∷ letter 1 false ∷ []
quotient_row = refl

-- `1 -2` shifted is `2 -3`
shift_row : shift (letter 1 false ∷ letter 2 true ∷ []) ≡ letter 2 false ∷ letter 3 true ∷ []
shift_row = refl

-- on 3 strands the second letter of `1 3 4` is the first outside, and `1 2` has none
outside_row
    : first_outside 3 (letter 1 false ∷ letter 3 false ∷ letter 4 false ∷ []) ∷
    (first_outside 3 (letter 1 false ∷ letter 2 false ∷ []) ∷ [])
    ≡ Some 1 ∷ (None ∷ [])
outside_row = refl

-- the second letter of `1 -2` is the first inverse one, and `1 2` has none
inverse_row
    : first_negative (letter 1 false ∷ letter 2 true ∷ []) ∷
    (first_negative (letter 1 false ∷ letter 2 false ∷ []) ∷ [])
    ≡ Some 1 ∷ (None ∷ [])
inverse_row = refl

-- `-2 3` is negative at 2
negative_row : sign_of (letter 2 true ∷ letter 3 false ∷ []) ≡ Negative 2
negative_row = refl

-- `3 2 -2` is mixed at 2
mixed_row : sign_of (letter 3 false ∷ letter 2 false ∷ letter 2 true ∷ []) ≡ Mixed 2
mixed_row = refl

-- ` aY` is `1 -25`
letters_row : word_of (codes " aY") ≡ Ok (letter 1 false ∷ letter 25 true ∷ [])
unfolding word_of letters_word_of
letters_row = refl

-- `255  -1` is a word of two letters
numbers_row : word_of (codes "255  -1") ≡ Ok (letter 255 false ∷ letter 1 true ∷ [])
unfolding word_of number_word_of
numbers_row = refl

-- `1 -0 x` has an index out of range at byte 3
index_row : word_of (codes "1 -0 x") ≡ Err (BadIndex 3)
unfolding word_of number_word_of
index_row = refl

-- `z` is no letter
letter_row : word_of (codes "z") ≡ Err (BadLetter 1)
unfolding word_of letters_word_of
letter_row = refl

-- a space at the end of a strict line is followed by an empty part
strict_row : strict_word_of (codes "1 ") ≡ Err (BadLetter 3)
unfolding strict_word_of
strict_row = refl
