-- What the image of a reduced word begins with.
--
-- A letter sends one of its two generators to the other's image between itself and its inverse: s_i
-- does so with x_i, and s_i^-1 with x_(i+1). Call that one heavy and the other light, so that with
-- heavy index p, light index q and sign e the images of p^d and q^d are p^e q^d p^-e and p^d, for
-- both signs d. What the image r of a reduced word f begins with is told by what f begins with:
--
--   f is empty           r is empty
--   f begins with p^d    r begins with p^e q^d
--   f begins with q^e    r begins with p^e, and no q and no q^-1 follows
--   f begins with q^-e   r begins with p^-e, with q or with q^-1
--   f begins with y      r begins with y, where y is of another index
--
-- The main lemma, `HasFront-act`, goes by induction on f: each kind of first generator in front of
-- each kind of rest.
use Rattle.std.proofs.Common.{ℕ, ◌≡◌, ◌≢◌, ◌⊎◌, inl, inr, ◌+◌, ◌<◌, ◌∙◌, Bool, true, false, not, List, [], ◌∷◌, refl, sym, ap, subst, cond, arith}
use Rattle.std.proofs.lemmas.Bool.{true≢false, false≢true, cases_eq, ne_eqb}
use Rattle.std.proofs.Math.Bool.{not-not}
use Rattle.braid_word.specs.Words.{Letter, letter}
use Rattle.braid_word.proofs.WordLemmas.{same_or_opposite}
use Rattle.free_word.specs.FreeWords.{Gen, gen, opposite, IsReduced, put, product}
use Rattle.free_word.proofs.FreeWordLemmas.{put-cancel, put-keep, reduced_rest}
use Rattle.artin_laws.specs.Action.{image, act_letter}
use Rattle.artin_laws.proofs.ActionLemmas.{index_tests}

-- ---- The heavy and the light generator ----

-- The index of the generator whose image is the longer one.
abbrev pub heavy : Letter → ℕ
heavy x = cond x.negative (x.index + 1) x.index

-- The index of the generator whose image is the shorter one.
abbrev pub light : Letter → ℕ
light x = cond x.negative x.index (x.index + 1)

-- they differ
pub heavy-light : (x : Letter) → heavy x ≢ light x
heavy-light x = go x.negative
  where
    go : (e : Bool) → heavy (letter x.index e) ≢ light (letter x.index e)
    go true e = absurd (omega arith)
    go false e = absurd (omega arith)

-- both are above the indices below the letter's
pub heavy-above : (x : Letter) (i : ℕ) → i < x.index → (i ≢ heavy x) × (i ≢ light x)
heavy-above x i below = go x.negative
  where
    go : (e : Bool) → (i ≢ heavy (letter x.index e)) × (i ≢ light (letter x.index e))
    go true = (λ e. absurd (omega arith), λ e. absurd (omega arith))
    go false = (λ e. absurd (omega arith), λ e. absurd (omega arith))

-- the image of the heavy generator, or of its inverse
pub image-heavy
    : (i : ℕ) (e d : Bool) (x : Letter)
    → x ≡ letter i e
    → image x (gen (heavy x) d) ≡ gen (heavy x) e ∷ gen (light x) d ∷ gen (heavy x) (not e) ∷ []
image-heavy i true true x same = rw same (simp index_tests)
image-heavy i true false x same = rw same (simp index_tests)
image-heavy i false true x same = rw same (simp index_tests)
image-heavy i false false x same = rw same (simp index_tests)

-- the image of the light generator, or of its inverse
pub image-light
    : (i : ℕ) (e d : Bool) (x : Letter)
    → x ≡ letter i e
    → image x (gen (light x) d) ≡ gen (heavy x) d ∷ []
image-light i true true x same = rw same (simp index_tests)
image-light i true false x same = rw same (simp index_tests)
image-light i false true x same = rw same (simp index_tests)
image-light i false false x same = rw same (simp index_tests)

-- the image of another generator, or of its inverse
pub image-other
    : (i : ℕ) (e d : Bool) (j : ℕ)
    → j ≢ heavy (letter i e)
    → j ≢ light (letter i e)
    → image (letter i e) (gen j d) ≡ gen j d ∷ []
image-other i true true j next own = simp (ne_eqb j i own, ne_eqb j (i + 1) next)
image-other i true false j next own = simp (ne_eqb j i own, ne_eqb j (i + 1) next)
image-other i false true j own next = simp (ne_eqb j i own, ne_eqb j (i + 1) next)
image-other i false false j own next = simp (ne_eqb j i own, ne_eqb j (i + 1) next)

-- ---- Generators that differ ----

-- no sign is its opposite
sign_turned : (e : Bool) → e ≢ not e
sign_turned true = true≢false
sign_turned false = false≢true

-- generators of different indices differ
pub other_index : (x y : Gen) → x.index ≢ y.index → x ≢ y
other_index x y ne e = ne (ap (λ z. z.index) e)

-- generators of different signs differ
other_sign : (x y : Gen) → x.negative ≢ y.negative → x ≢ y
other_sign x y ne e = ne (ap (λ z. z.negative) e)

-- the second generator of a reduced word isn't the inverse of the first
reduced_next
    : (x : Gen) (f : List Gen) {y : Gen} {g : List Gen}
    → IsReduced (x ∷ f)
    → f ≡ y ∷ g
    → y ≢ opposite x
reduced_next x f {y} {g} reduced e =
    let two : IsReduced (x ∷ (y ∷ g)) = subst (λ w. IsReduced (x ∷ w)) e reduced in two.0

-- ---- Fronts ----

-- The word doesn't begin with this generator.
abbrev pub Avoids : Gen → List Gen → Type 0
Avoids x [] = Unit {0}
Avoids x (y ∷ f) = y ≢ x

-- in front of a word that doesn't begin with its inverse, a generator stays
put-avoids : (x : Gen) (f : List Gen) → Avoids (opposite x) f → put x f ≡ x ∷ f
put-avoids x [] avoids = refl
put-avoids x (y ∷ f) avoids = put-keep x y f avoids

-- What r begins with, by what f begins with.
pub data HasFront (p q : ℕ) (e : Bool) (f r : List Gen) : Type 0 where
  of_nothing : f ≡ [] → r ≡ [] → HasFront p q e f r
  of_heavy : (d : Bool) (g h : List Gen) → f ≡ gen p d ∷ g → r ≡ gen p e ∷ (gen q d ∷ h)
      → HasFront p q e f r
  of_along : (g h : List Gen) → f ≡ gen q e ∷ g → r ≡ gen p e ∷ h
      → ((d : Bool) → Avoids (gen q d) h) → HasFront p q e f r
  of_against : (y : Gen) (g h : List Gen) → f ≡ gen q (not e) ∷ g → r ≡ y ∷ h
      → (y ≡ gen p (not e)) ⊎ (y.index ≡ q) → HasFront p q e f r
  of_other : (y : Gen) (g h : List Gen) → y.index ≢ p → y.index ≢ q → f ≡ y ∷ g → r ≡ y ∷ h
      → HasFront p q e f r

module _ (p q : ℕ) (e : Bool) (apart : p ≢ q) where
  -- p^-e in front of p^e: both go
  cancel_heavy : (h : List Gen) → put (gen p (not e)) (gen p e ∷ h) ≡ h
  cancel_heavy h = put-cancel (gen p (not e)) (gen p e) h (ap (gen p) (sym (not-not e)))

  -- p^-e in front of itself or of another index stays
  keep_heavy
      : (y : Gen) (h : List Gen)
      → (y ≡ gen p (not e)) ⊎ (y.index ≢ p)
      → put (gen p (not e)) (y ∷ h) ≡ gen p (not e) ∷ (y ∷ h)
  keep_heavy y h (inl same) =
      put-keep (gen p (not e)) y h
      (λ b. sign_turned (not e) (ap (λ z. z.negative) (sym same ∙ b)))
  keep_heavy y h (inr other) =
      put-keep (gen p (not e)) y h (other_index y (gen p (not (not e))) other)

  -- p^-e isn't a q, nor is p^e
  heavy_isnt_light : (a d : Bool) → gen p a ≢ gen q d
  heavy_isnt_light a d = other_index (gen p a) (gen q d) apart

  -- p^e isn't its inverse
  heavy_isnt_turned : gen p e ≢ gen p (not e)
  heavy_isnt_turned = other_sign (gen p e) (gen p (not e)) (sign_turned e)

  -- an index that is q isn't p
  light_isnt_heavy : (y : Gen) → y.index ≡ q → y.index ≢ p
  light_isnt_heavy y light b = apart (sym b ∙ light)

  -- where f begins with p^d: p^-e in front of the rest's image leaves no q^-d in front
  heavy_next
      : (d : Bool) (g r : List Gen)
      → IsReduced (gen p d ∷ g)
      → HasFront p q e g r
      → Avoids (gen q (not d)) (put (gen p (not e)) r)
  heavy_next d g r reduced (of_nothing first last) = rw last (heavy_isnt_light (not e) (not d))
  heavy_next d g r reduced (of_heavy b k h first last) =
      rw (last, cancel_heavy (gen q b ∷ h))
      (other_sign (gen q b) (gen q (not d))
      (λ same. reduced_next (gen p d) g reduced first (ap (gen p) same)))
  heavy_next d g r reduced (of_along k h first last avoids) =
      rw (last, cancel_heavy h) (avoids (not d))
  heavy_next d g r reduced (of_against y k h first last (inl same)) =
      rw (last, keep_heavy y h (inl same)) (heavy_isnt_light (not e) (not d))
  heavy_next d g r reduced (of_against y k h first last (inr light)) =
      rw (last, keep_heavy y h (inr (light_isnt_heavy y light))) (heavy_isnt_light (not e) (not d))
  heavy_next d g r reduced (of_other y k h not_p not_q first last) =
      rw (last, keep_heavy y h (inr not_p)) (heavy_isnt_light (not e) (not d))

  -- where f begins with q^e: the rest's image begins neither with p^-e nor with q or q^-1
  along_next
      : (g r : List Gen)
      → IsReduced (gen q e ∷ g)
      → HasFront p q e g r
      → Avoids (gen p (not e)) r × ((d : Bool) → Avoids (gen q d) r)
  along_next g r reduced (of_nothing first last) = rw last (tt, λ d. tt)
  along_next g r reduced (of_heavy b k h first last) =
      rw last (heavy_isnt_turned, heavy_isnt_light e)
  along_next g r reduced (of_along k h first last avoids) =
      rw last (heavy_isnt_turned, heavy_isnt_light e)
  along_next g r reduced (of_against y k h first last begins) =
      absurd (reduced_next (gen q e) g reduced first refl)
  along_next g r reduced (of_other y k h not_p not_q first last) =
      rw last (other_index y (gen p (not e)) not_p, λ d. other_index y (gen q d) not_q)

  -- where f begins with q^-e: its image begins with p^-e, with q or with q^-1
  against_next
      : (g r : List Gen)
      → IsReduced (gen q (not e) ∷ g)
      → HasFront p q e g r
      → HasFront p q e (gen q (not e) ∷ g) (put (gen p (not e)) r)
  against_next g r reduced (of_nothing first last) =
      of_against (gen p (not e)) g [] refl (rw last refl) (inl refl)
  against_next g r reduced (of_heavy b k h first last) =
      of_against (gen q b) g h refl (rw last (cancel_heavy (gen q b ∷ h))) (inr refl)
  against_next g r reduced (of_along k h first last avoids) =
      absurd (reduced_next (gen q (not e)) g reduced first (ap (gen q) (sym (not-not e))))
  against_next g r reduced (of_against y k h first last (inl same)) =
      of_against (gen p (not e)) g (y ∷ h) refl (rw last (keep_heavy y h (inl same))) (inl refl)
  against_next g r reduced (of_against y k h first last (inr light)) =
      of_against (gen p (not e)) g (y ∷ h) refl
      (rw last (keep_heavy y h (inr (light_isnt_heavy y light)))) (inl refl)
  against_next g r reduced (of_other y k h not_p not_q first last) =
      of_against (gen p (not e)) g (y ∷ h) refl (rw last (keep_heavy y h (inr not_p))) (inl refl)

  -- where f begins with another z: the rest's image doesn't begin with the inverse of z
  other_next
      : (z : Gen) (g r : List Gen)
      → z.index ≢ p
      → z.index ≢ q
      → IsReduced (z ∷ g)
      → HasFront p q e g r
      → Avoids (opposite z) r
  other_next z g r other_p other_q reduced (of_nothing first last) = rw last tt
  other_next z g r other_p other_q reduced (of_heavy b k h first last) =
      rw last (other_index (gen p e) (opposite z) (λ same. other_p (sym same)))
  other_next z g r other_p other_q reduced (of_along k h first last avoids) =
      rw last (other_index (gen p e) (opposite z) (λ same. other_p (sym same)))
  other_next z g r other_p other_q reduced (of_against y k h first last (inl same)) =
      rw (last, same) (other_index (gen p (not e)) (opposite z) (λ b. other_p (sym b)))
  other_next z g r other_p other_q reduced (of_against y k h first last (inr light)) =
      rw last (other_index y (opposite z) (λ b. other_q (sym b ∙ light)))
  other_next z g r other_p other_q reduced (of_other y k h not_p not_q first last) =
      rw last (reduced_next z g reduced first)

  -- the front of a word that begins with p^d
  HasFront-heavy
      : (d : Bool) (g r : List Gen)
      → IsReduced (gen p d ∷ g)
      → HasFront p q e g r
      → HasFront p q e (gen p d ∷ g) (product (gen p e ∷ gen q d ∷ gen p (not e) ∷ []) r)
  HasFront-heavy d g r reduced front =
      of_heavy d g (put (gen p (not e)) r) refl
      (rw (put-avoids (gen q d) (put (gen p (not e)) r) (heavy_next d g r reduced front))
      (put-keep (gen p e) (gen q d) (put (gen p (not e)) r)
      (λ b. heavy_isnt_light (not e) d (sym b))))

  -- the front of a word that begins with q^d
  HasFront-light
      : (d : Bool) (g r : List Gen)
      → IsReduced (gen q d ∷ g)
      → HasFront p q e g r
      → HasFront p q e (gen q d ∷ g) (product (gen p d ∷ []) r)
  HasFront-light d g r reduced front = elim (same_or_opposite d e) [
    | inl same ↦
        let next = along_next g r (subst (λ b. IsReduced (gen q b ∷ g)) same reduced) front in
        rw same (of_along g r refl (put-avoids (gen p e) r next.0) next.1)
    | inr same ↦
        rw same (against_next g r (subst (λ b. IsReduced (gen q b ∷ g)) same reduced) front)
  ]

  -- the front of a word that begins with a generator of another index
  HasFront-other
      : (z : Gen) (g r : List Gen)
      → z.index ≢ p
      → z.index ≢ q
      → IsReduced (z ∷ g)
      → HasFront p q e g r
      → HasFront p q e (z ∷ g) (product (z ∷ []) r)
  HasFront-other z g r other_p other_q reduced front =
      of_other z g r other_p other_q refl
      (put-avoids z r (other_next z g r other_p other_q reduced front))

-- ---- Images of reduced words ----

-- The letter x sends f to r, as far as their fronts show.
abbrev pub HasFrontUnder : Letter → List Gen → List Gen → Type 0
HasFrontUnder x = HasFront (heavy x) (light x) x.negative

-- one more generator in front of a word whose image has its front
HasFront-cons
    : (x : Letter) (j : ℕ) (d : Bool) (f r : List Gen)
    → IsReduced (gen j d ∷ f)
    → HasFrontUnder x f r
    → HasFrontUnder x (gen j d ∷ f) (product (image x (gen j d)) r)
HasFront-cons x j d f r reduced front = elim (cases_eq j (heavy x)) [
  | inl same ↦
      rw (same, image-heavy x.index x.negative d x refl)
      (HasFront-heavy (heavy x) (light x) x.negative (heavy-light x) d f r
      (subst (λ k. IsReduced (gen k d ∷ f)) same reduced) front)
  | inr other_p ↦ elim (cases_eq j (light x)) [
    | inl same ↦
        rw (same, image-light x.index x.negative d x refl)
        (HasFront-light (heavy x) (light x) x.negative (heavy-light x) d f r
        (subst (λ k. IsReduced (gen k d ∷ f)) same reduced) front)
    | inr other_q ↦
        rw (image-other x.index x.negative d j other_p other_q)
        (HasFront-other (heavy x) (light x) x.negative (heavy-light x) (gen j d) f r other_p other_q
        reduced front)
  ]
]

-- the image of a reduced word has its front
pub HasFront-act
    : (x : Letter) (f : List Gen)
    → IsReduced f
    → HasFrontUnder x f (act_letter x f)
HasFront-act x [] reduced = of_nothing refl refl
HasFront-act x (y ∷ f) reduced =
    HasFront-cons x y.index y.negative f (act_letter x f) reduced
    (HasFront-act x f (reduced_rest y f reduced))
