-- Artin's action: braid words act on a free group by automorphisms, from the left.
--
-- The generator s_i of the braid groups sends x_i to x_i x_(i+1) x_i^-1 and x_(i+1) to x_i, and
-- leaves the other generators of the free group; s_i^-1 sends x_i to x_(i+1) and x_(i+1) to
-- x_(i+1)^-1 x_i x_(i+1). A braid word acts with its last letter first, so u ++ v acts as v and then u.
-- Source: E. Artin, Theory of braids, 1947; the side is this project's. What images end in is after
-- D. M. Larue, On braid words and irreflexivity, 1994.
--
--   image x y              the image of the generator y, or of an inverse, under the letter x
--   act_letter x f         the image of the free word f under the letter x
--   act w f                the image of f under the word w
--   ActAlike u v           u and v send every reduced word to the same one
--   EndsIn g f             the last generator of f is g
--   ImagesFit limit w f    every image of f after a suffix of w is at most `limit` long
--
-- The laws stand in `proofs/ActionLemmas.antt` and `proofs/RelationLemmas.antt`, what follows of
-- the order on braids in `proofs/LarueLemmas.antt` and `proofs/ExclusionLemmas.antt`.
use Rattle.std.specs.Prelude.{◌≡◌, ℕ, ◌+◌, ◌≤◌, Bool, true, false, ◌==◌, if◌then◌else◌, List, [], ◌∷◌, ◌++◌, length}
use Rattle.braid_word.specs.Words.{Letter}
use Rattle.free_word.specs.FreeWords.{Gen, gen, inverse, IsReduced, product}

-- ---- Images ----

-- The image of x_i under s_i, or under s_i^-1 where the last argument is true.
abbrev pub image_of_own : ℕ → Bool → List Gen
image_of_own i negative =
    if negative then gen (i + 1) false ∷ []
    else gen i false ∷ gen (i + 1) false ∷ gen i true ∷ []

-- The image of x_(i+1) under s_i, or under s_i^-1 where the last argument is true.
abbrev pub image_of_next : ℕ → Bool → List Gen
image_of_next i negative =
    if negative then gen (i + 1) true ∷ gen i false ∷ gen (i + 1) false ∷ []
    else gen i false ∷ []

-- The image of x_j under a letter.
abbrev pub image_of : Letter → ℕ → List Gen
image_of x j =
    if j == x.index then image_of_own x.index x.negative
    else (if j == x.index + 1 then image_of_next x.index x.negative else gen j false ∷ [])

-- The image of a generator, or of an inverse: of `1` under `1` it is `1 2 -1`, of `-2` it is `-1`.
abbrev pub image : Letter → Gen → List Gen
image x y = if y.negative then inverse (image_of x y.index) else image_of x y.index

-- ---- The action ----

-- The image of a word under a letter: the reduced product of the images of its generators and inverses.
abbrev pub act_letter : Letter → List Gen → List Gen
act_letter x [] = []
act_letter x (y ∷ f) = product (image x y) (act_letter x f)

-- The image under a word, whose last letter acts first: of `1` under `2 1` it is `1 2 3 -2 -1`.
abbrev pub act : List Letter → List Gen → List Gen
act [] f = f
act (x ∷ w) f = act_letter x (act w f)

-- The words have the same action on reduced words.
abbrev pub ActAlike : List Letter → List Letter → Type 0
ActAlike u v = (f : List Gen) → IsReduced f → act u f ≡ act v f

-- ---- Facts about images ----

-- The last generator of the word is this one.
abbrev pub EndsIn : Gen → List Gen → Type 0
EndsIn g f = (h : List Gen) × (f ≡ h ++ (g ∷ []))

-- The image after each suffix, the empty and the whole one too, is at most `limit` long.
abbrev pub ImagesFit : ℕ → List Letter → List Gen → Type 0
ImagesFit limit w f = (u v : List Letter) → w ≡ u ++ v → length (act v f) ≤ limit
