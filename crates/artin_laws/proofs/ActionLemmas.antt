-- Laws of Artin's action: every braid word acts as an endomorphism of the free group.
--
-- The image of an inverse is the inverse of the image. So a letter respects one generator in front
-- of a word, also where the two cancel (`act_letter-put`), and from there products (`act-product`)
-- and inverses (`act-inverse`). Images of reduced words are reduced.
use Rattle.std.proofs.Common.{ℕ, ◌≡◌, inl, inr, ◌+◌, Bool, true, false, not, List, [], ◌∷◌, ◌++◌, refl, sym, ap, eqb, eq-eqb, arith}
use Rattle.std.proofs.lemmas.Bool.{ne_eqb}
use mathlib.Core.Path.{◌≡⟨◌⟩◌, ◌∎}
use Rattle.braid_word.specs.Words.{Letter}
use Rattle.free_word.specs.FreeWords.{Gen, gen, opposite, inverse, IsReduced, put, product}
use Rattle.free_word.proofs.FreeWordLemmas.{cases_opposite, put-cancel, put-keep, inverse-inverse, IsReduced-product, IsReduced-inverse, product-nil, product-product, product-inverse, product-inverse_left, product-inverse_right}
use Rattle.artin_laws.specs.Action.{image_of, image, act_letter, act}

-- ---- Tests of indices ----

-- an index is itself
pub eqb-self : (i : ℕ) → eqb i i ≡ true
eqb-self i = eq-eqb i i refl

-- an index isn't the next one
pub eqb-next : (i : ℕ) → eqb i (i + 1) ≡ false
eqb-next i = ne_eqb i (i + 1) (λ e. absurd (omega arith))

-- nor is the next one the index
pub eqb-next_left : (i : ℕ) → eqb (i + 1) i ≡ false
eqb-next_left i = ne_eqb (i + 1) i (λ e. absurd (omega arith))

-- an index isn't the next but one
pub eqb-second : (i : ℕ) → eqb i (i + 1 + 1) ≡ false
eqb-second i = ne_eqb i (i + 1 + 1) (λ e. absurd (omega arith))

-- nor is the next but one the index
pub eqb-second_left : (i : ℕ) → eqb (i + 1 + 1) i ≡ false
eqb-second_left i = ne_eqb (i + 1 + 1) i (λ e. absurd (omega arith))

-- what `simp` needs to compute images of generators near a letter
pub ruleset index_tests = (eqb-self, eqb-next, eqb-next_left, eqb-second, eqb-second_left)

-- ---- Images of generators ----

-- the image of an inverse is the inverse of the image
pub image-opposite : (x : Letter) (y : Gen) → image x (opposite y) ≡ inverse (image x y)
image-opposite x y = turned y.negative
  where
    turned : (e : Bool) → image x (gen y.index (not e)) ≡ inverse (image x (gen y.index e))
    turned true = sym (inverse-inverse (image_of x y.index))
    turned false = refl

-- ---- A letter ----

-- the image of a word is reduced
pub IsReduced-act_letter : (x : Letter) (f : List Gen) → IsReduced (act_letter x f)
IsReduced-act_letter x [] = tt
IsReduced-act_letter x (y ∷ f) =
    IsReduced-product (image x y) (act_letter x f) (IsReduced-act_letter x f)

-- the image of a word with one generator in front
pub act_letter-put
    : (x : Letter) (y : Gen) (f : List Gen)
    → act_letter x (put y f) ≡ product (image x y) (act_letter x f)
act_letter-put x y [] = refl
act_letter-put x y (z ∷ f) = elim (cases_opposite y z) [
  | inl e ↦ rw (put-cancel y z f e, e, image-opposite x y)
      (sym (product-inverse_right (image x y) (act_letter x f) (IsReduced-act_letter x f)))
  | inr ne ↦ ap (act_letter x) (put-keep y z f ne)
]

-- the image of a product
pub act_letter-product
    : (x : Letter) (a f : List Gen)
    → act_letter x (product a f) ≡ product (act_letter x a) (act_letter x f)
act_letter-product x [] f = refl
act_letter-product x (y ∷ a) f =
    act_letter x (put y (product a f))
    ≡⟨ act_letter-put x y (product a f) ⟩
    product (image x y) (act_letter x (product a f))
    ≡⟨ ap (product (image x y)) (act_letter-product x a f) ⟩
    product (image x y) (product (act_letter x a) (act_letter x f))
    ≡⟨ sym (product-product (image x y) _ _ (IsReduced-act_letter x f)) ⟩
    product (product (image x y) (act_letter x a)) (act_letter x f)
    ∎

-- ---- A word ----

-- words one behind the other act one after the other
pub act-append : (u v : List Letter) (f : List Gen) → act (u ++ v) f ≡ act u (act v f)
act-append [] v f = refl
act-append (x ∷ u) v f = ap (act_letter x) (act-append u v f)

-- the image of a reduced word is reduced
pub IsReduced-act : (w : List Letter) (f : List Gen) → IsReduced f → IsReduced (act w f)
IsReduced-act [] f reduced = reduced
IsReduced-act (x ∷ w) f reduced = IsReduced-act_letter x (act w f)

-- the image of the empty word
pub act-nil : (w : List Letter) → act w [] ≡ []
act-nil [] = refl
act-nil (x ∷ w) = ap (act_letter x) (act-nil w)

-- the image of a product is the product of the images
pub act-product
    : (w : List Letter) (a f : List Gen)
    → act w (product a f) ≡ product (act w a) (act w f)
act-product [] a f = refl
act-product (x ∷ w) a f =
    act_letter x (act w (product a f))
    ≡⟨ ap (act_letter x) (act-product w a f) ⟩
    act_letter x (product (act w a) (act w f))
    ≡⟨ act_letter-product x (act w a) (act w f) ⟩
    product (act_letter x (act w a)) (act_letter x (act w f))
    ∎

-- the image of the inverse of a reduced word is the inverse of the image
pub act-inverse
    : (w : List Letter) (f : List Gen)
    → IsReduced f
    → act w (inverse f) ≡ inverse (act w f)
act-inverse w f reduced =
    act w (inverse f)
    ≡⟨ sym (product-inverse_left (act w f) (act w (inverse f)) inverted) ⟩
    product (inverse (act w f)) (product (act w f) (act w (inverse f)))
    ≡⟨ ap (product (inverse (act w f))) (sym (act-product w f (inverse f))) ⟩
    product (inverse (act w f)) (act w (product f (inverse f)))
    ≡⟨ ap (λ g. product (inverse (act w f)) (act w g)) (product-inverse f reduced) ⟩
    product (inverse (act w f)) (act w [])
    ≡⟨ ap (product (inverse (act w f))) (act-nil w) ⟩
    product (inverse (act w f)) []
    ≡⟨ product-nil (inverse (act w f)) (IsReduced-inverse (act w f) (IsReduced-act w f reduced)) ⟩
    inverse (act w f)
    ∎
  where
    inverted : IsReduced (act w (inverse f))
    inverted = IsReduced-act w (inverse f) (IsReduced-inverse f reduced)
