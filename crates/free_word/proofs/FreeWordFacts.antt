-- Worked rows of free words.
use Rattle.std.proofs.Common.{◌≡◌, true, false, [], ◌∷◌, refl}
use Rattle.free_word.specs.FreeWords.{gen, inverse, cancels, put, product}
use Rattle.free_word.specs.FreeText.{free_text}

-- the inverse of `1 2 -3` is `3 -2 -1`
inverse_row
    : inverse (gen 1 false ∷ gen 2 false ∷ gen 3 true ∷ [])
    ≡ gen 3 false ∷ gen 2 true ∷ gen 1 true ∷ []
inverse_row = refl

-- `1` in front of `-1 3` is `3`
put_row : put (gen 1 false) (gen 1 true ∷ gen 3 false ∷ []) ≡ gen 3 false ∷ []
unfolding cancels
put_row = refl

-- `1 2` times `-2 3` is `1 3`
product_row
    : product (gen 1 false ∷ gen 2 false ∷ []) (gen 2 true ∷ gen 3 false ∷ [])
    ≡ gen 1 false ∷ gen 3 false ∷ []
unfolding cancels
product_row = refl

-- equal neighbours stay: `1` times `1` is `1 1`
product_equal_row
    : product (gen 1 false ∷ []) (gen 1 false ∷ []) ≡ gen 1 false ∷ gen 1 false ∷ []
unfolding cancels
product_equal_row = refl

-- what is left cancels too: `1 2` times `-2 -1` is empty
product_empty_row
    : product (gen 1 false ∷ gen 2 false ∷ []) (gen 2 true ∷ gen 1 true ∷ []) ≡ []
unfolding cancels
product_empty_row = refl

-- the text of the empty word has no bytes
text_empty_row : free_text [] ≡ []
unfolding free_text
text_empty_row = refl
