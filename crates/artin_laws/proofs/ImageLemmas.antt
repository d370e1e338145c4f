-- Images made one generator after the other, and images after the suffixes of a word.
--
-- The image of a generator is reduced, so a word is multiplied by it one generator after the other
-- (`product-image_heavy`), and the image of a word is made from those of its generators, the first
-- one first (`act_letter-next`). Images after suffixes are made from the end of the braid word
-- (`act-back`), and all fit where each that is made fits (`ImagesFit-back`).
use Rattle.std.proofs.Common.{ℕ, ◌≡◌, inl, inr, ◌+◌, ◌-◌, ◌<◌, ◌≤◌, ◌∙◌, Bool, not, List, [], ◌∷◌, ◌++◌, length, get_or, take, drop, refl, sym, ap, subst, arith}
use Rattle.std.proofs.lemmas.Bool.{cases_eq}
use Rattle.std.proofs.lemmas.List.{take_more, drop_more, take-append-drop}
use Rattle.std.proofs.Math.Seq.{drop-length}
use mathlib.Core.Path.{◌≡⟨◌⟩◌, ◌∎}
use Rattle.braid_word.specs.Words.{Letter, letter}
use Rattle.free_word.specs.FreeWords.{Gen, gen, IsReduced, product}
use Rattle.free_word.proofs.FreeWordLemmas.{product-nil, product-reduced, product-product}
use Rattle.artin_laws.specs.Action.{image, act_letter, act, ImagesFit}
use Rattle.artin_laws.proofs.ActionLemmas.{IsReduced-act_letter}
use Rattle.artin_laws.proofs.FrontLemmas.{heavy, light, heavy-light, image-heavy, image-light, image-other, other_index}

-- ---- The image of a generator ----

-- the image of the heavy generator is reduced
reduced_heavy
    : (x : Letter) (e d b : Bool)
    → IsReduced (gen (heavy x) e ∷ gen (light x) d ∷ gen (heavy x) b ∷ [])
reduced_heavy x e d b = (
  other_index (gen (light x) d) (gen (heavy x) (not e)) (λ same. heavy-light x (sym same)),
  (other_index (gen (heavy x) b) (gen (light x) (not d)) (heavy-light x), tt),
)

-- the image of a generator is reduced
IsReduced-image : (x : Letter) (y : Gen) → IsReduced (image x y)
IsReduced-image x y = go y.index y.negative
  where
    go : (j : ℕ) (d : Bool) → IsReduced (image x (gen j d))
    go j d = elim (cases_eq j (heavy x)) [
      | inl same ↦
          rw (same, image-heavy x.index x.negative d x refl)
          (reduced_heavy x x.negative d (not x.negative))
      | inr other_p ↦ elim (cases_eq j (light x)) [
        | inl same ↦ rw (same, image-light x.index x.negative d x refl) tt
        | inr other_q ↦ rw (image-other x.index x.negative d j other_p other_q) tt
      ]
    ]

-- a word of three generators is multiplied to one generator after the other
product-three
    : (f : List Gen) (a b d : Gen)
    → IsReduced (a ∷ b ∷ d ∷ [])
    → product (product (product f (a ∷ [])) (b ∷ [])) (d ∷ []) ≡ product f (a ∷ b ∷ d ∷ [])
product-three f a b d reduced =
    product (product (product f (a ∷ [])) (b ∷ [])) (d ∷ [])
    ≡⟨ product-product (product f (a ∷ [])) (b ∷ []) (d ∷ []) tt ⟩
    product (product f (a ∷ [])) (product (b ∷ []) (d ∷ []))
    ≡⟨ ap (product (product f (a ∷ []))) (product-reduced (b ∷ []) (d ∷ []) reduced.1) ⟩
    product (product f (a ∷ [])) (b ∷ d ∷ [])
    ≡⟨ product-product f (a ∷ []) (b ∷ d ∷ []) reduced.1 ⟩
    product f (product (a ∷ []) (b ∷ d ∷ []))
    ≡⟨ ap (product f) (product-reduced (a ∷ []) (b ∷ d ∷ []) reduced) ⟩
    product f (a ∷ b ∷ d ∷ [])
    ∎

-- so is the image of the heavy generator
pub product-image_heavy
    : (x : Letter) (y : Gen) (i j p q : ℕ) (e d : Bool) (f g h : List Gen) (a b c : Gen)
    → letter i e ≡ x
    → gen j d ≡ y
    → p ≡ heavy x
    → q ≡ light x
    → j ≡ p
    → a ≡ gen p e
    → b ≡ gen q d
    → c ≡ gen p (not e)
    → g ≡ product f (a ∷ [])
    → h ≡ product g (b ∷ [])
    → product h (c ∷ []) ≡ product f (image x y)
product-image_heavy x y i j p q e d f g h a b c is_x is_y is_p is_q own is_a is_b is_c first then =
    let long : IsReduced (a ∷ b ∷ c ∷ []) =
    rw (is_a, is_b, is_c, is_p, is_q) (reduced_heavy x e d (not e)) in
    let whole : a ∷ b ∷ c ∷ [] ≡ image x y =
    rw (is_a, is_b, is_c, is_p, is_q, ← is_y, own, is_p) (sym (image-heavy i e d x (sym is_x))) in
    product h (c ∷ [])
    ≡⟨ ap (λ w. product w (c ∷ [])) (then ∙ ap (λ w. product w (b ∷ [])) first) ⟩
    product (product (product f (a ∷ [])) (b ∷ [])) (c ∷ [])
    ≡⟨ product-three f a b c long ∙ ap (product f) whole ⟩
    product f (image x y)
    ∎

-- ---- The image of a word ----

-- the image of two words behind each other is the product of the images
act_letter-append
    : (x : Letter) (a b : List Gen)
    → act_letter x (a ++ b) ≡ product (act_letter x a) (act_letter x b)
act_letter-append x [] b = refl
act_letter-append x (y ∷ a) b =
    ap (product (image x y)) (act_letter-append x a b)
    ∙ sym (product-product (image x y) (act_letter x a) (act_letter x b) (IsReduced-act_letter x b))

-- the image of one generator is its image as a word
act_letter-single : (x : Letter) (y : Gen) → act_letter x (y ∷ []) ≡ image x y
act_letter-single x y = product-nil (image x y) (IsReduced-image x y)

-- one more generator of a word
pub act_letter-next
    : (x : Letter) (f g h : List Gen) (k : ℕ) (y : Gen)
    → k < length f
    → y ≡ get_or f k y
    → g ≡ act_letter x (take k f)
    → h ≡ product g (image x y)
    → h ≡ act_letter x (take (k + 1) f)
act_letter-next x f g h k y within is before pushed =
    h
    ≡⟨ pushed ∙ ap (λ w. product w (image x y)) before ⟩
    product (act_letter x (take k f)) (image x y)
    ≡⟨ ap (product (act_letter x (take k f))) (sym (act_letter-single x y)) ⟩
    product (act_letter x (take k f)) (act_letter x (y ∷ []))
    ≡⟨ sym (act_letter-append x (take k f) (y ∷ [])) ⟩
    act_letter x (take k f ++ y ∷ [])
    ≡⟨ ap (act_letter x) (sym (take_more f k y within ∙ ap (λ z. take k f ++ z ∷ []) (sym is))) ⟩
    act_letter x (take (k + 1) f)
    ∎

-- ---- Images after suffixes ----

-- no letter has acted yet
pub act-start
    : (w : List Letter) (f g : List Gen)
    → g ≡ f
    → g ≡ act (drop (length w) w) f
act-start w f g same = rw drop-length same

-- a suffix with one more letter
drop-back
    : (w : List Letter) (k : ℕ) (x : Letter)
    → 0 < k
    → k ≤ length w
    → x ≡ get_or w (k - 1) x
    → drop (k - 1) w ≡ x ∷ drop k w
drop-back w k x some within is =
    let back : k - 1 + 1 ≡ k = omega arith in
    drop_more w (k - 1) x (omega arith)
    ∙ (ap (λ y. y ∷ drop (k - 1 + 1) w) (sym is) ∙ ap (λ j. x ∷ drop j w) back)

-- the next letter from the end acts
pub act-back
    : (w : List Letter) (k : ℕ) (x : Letter) (f g s h : List Gen)
    → 0 < k
    → k ≤ length w
    → x ≡ get_or w (k - 1) x
    → g ≡ act (drop k w) f
    → s ≡ g
    → h ≡ act_letter x s
    → h ≡ act (drop (k - 1) w) f
act-back w k x f g s h some within is before same after =
    h
    ≡⟨ after ∙ ap (act_letter x) (same ∙ before) ⟩
    act (x ∷ drop k w) f
    ≡⟨ ap (λ v. act v f) (sym (drop-back w k x some within is)) ⟩
    act (drop (k - 1) w) f
    ∎

-- the image of nothing done fits
pub ImagesFit-start
    : (limit : ℕ) (w : List Letter) (f : List Gen)
    → length f ≤ limit
    → ImagesFit limit (drop (length w) w) f
ImagesFit-start limit w f fits = subst (λ v. ImagesFit limit v f) (sym (drop-length w)) empty
  where
    empty : ImagesFit limit [] f
    empty [] [] cut = fits
    empty [] (x ∷ v) cut = absurd (cc)
    empty (x ∷ u) v cut = absurd (cc)

-- one more image that fits
ImagesFit-cons
    : (limit : ℕ) (x : Letter) (w : List Letter) (f : List Gen)
    → ImagesFit limit w f
    → length (act (x ∷ w) f) ≤ limit
    → ImagesFit limit (x ∷ w) f
ImagesFit-cons limit x w f fit long [] v cut = rw (← cut) long
ImagesFit-cons limit x w f fit long (y ∷ u) v cut = fit u v (cc)

-- one more image that fits, by places
pub ImagesFit-back
    : (limit : ℕ) (w : List Letter) (k : ℕ) (x : Letter) (f s h : List Gen)
    → 0 < k
    → k ≤ length w
    → x ≡ get_or w (k - 1) x
    → ImagesFit limit (drop k w) f
    → h ≡ act (drop (k - 1) w) f
    → s ≡ h
    → length s ≤ limit
    → ImagesFit limit (drop (k - 1) w) f
ImagesFit-back limit w k x f s h some within is fit image same long =
    let cut = drop-back w k x some within is in
    let fits : length (act (x ∷ drop k w) f) ≤ limit =
    subst (λ v. length (act v f) ≤ limit) cut (subst (λ g. length g ≤ limit) (same ∙ image) long) in
    subst (λ v. ImagesFit limit v f) (sym cut) (ImagesFit-cons limit x (drop k w) f fit fits)

-- where an image is too long, not all fit
pub ImagesFit-exceeded
    : (limit : ℕ) (w : List Letter) (j : ℕ) (f s h : List Gen)
    → h ≡ act (drop j w) f
    → s ≡ h
    → limit < length s
    → ImagesFit limit w f
    → ⊥
ImagesFit-exceeded limit w j f s h image same long fit =
    let fits = fit (take j w) (drop j w) (sym (take-append-drop j w)) in
    let size : length s ≡ length (act (drop j w) f) = ap length (same ∙ image) in
    omega arith
