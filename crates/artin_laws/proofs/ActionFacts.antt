-- Worked rows of Artin's action.
use Rattle.std.proofs.Common.{◌≡◌, true, false, [], ◌∷◌, refl}
use Rattle.braid_word.specs.Words.{letter}
use Rattle.free_word.specs.FreeWords.{gen, cancels}
use Rattle.artin_laws.specs.Action.{image, act}

-- the image of `1` under `1` is `1 2 -1`
image_own_row
    : image (letter 1 false) (gen 1 false) ≡ gen 1 false ∷ gen 2 false ∷ gen 1 true ∷ []
image_own_row = refl

-- the image of `1` under `-1` is `2`
image_own_inverse_row : image (letter 1 true) (gen 1 false) ≡ gen 2 false ∷ []
image_own_inverse_row = refl

-- the image of `2` under `1` is `1`
image_next_row : image (letter 1 false) (gen 2 false) ≡ gen 1 false ∷ []
image_next_row = refl

-- the image of `2` under `-1` is `-2 1 2`
image_next_inverse_row
    : image (letter 1 true) (gen 2 false) ≡ gen 2 true ∷ gen 1 false ∷ gen 2 false ∷ []
image_next_inverse_row = refl

-- the image of an inverse: that of `-2` under `1` is `-1`
image_inverse_row : image (letter 1 false) (gen 2 true) ≡ gen 1 true ∷ []
image_inverse_row = refl

-- another generator stays: the image of `3` under `-1` is `3`
image_other_row : image (letter 1 true) (gen 3 false) ≡ gen 3 false ∷ []
image_other_row = refl

-- the image of `1` under `1 -1` is `1`
act_back_row
    : act (letter 1 false ∷ letter 1 true ∷ []) (gen 1 false ∷ []) ≡ gen 1 false ∷ []
act_back_row = refl

-- the image of `1` under `1 1` is `1 2 1 -2 -1`
act_square_row
    : act (letter 1 false ∷ letter 1 false ∷ []) (gen 1 false ∷ [])
    ≡ gen 1 false ∷ gen 2 false ∷ gen 1 false ∷ gen 2 true ∷ gen 1 true ∷ []
unfolding cancels
act_square_row = refl

-- the image of `1` under `2 1`, of which `1` acts first, is `1 2 3 -2 -1`
act_order_row
    : act (letter 2 false ∷ letter 1 false ∷ []) (gen 1 false ∷ [])
    ≡ gen 1 false ∷ gen 2 false ∷ gen 3 false ∷ gen 2 true ∷ gen 1 true ∷ []
unfolding cancels
act_order_row = refl
