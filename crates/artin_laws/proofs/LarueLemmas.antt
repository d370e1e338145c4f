-- Larue's lemma: a word that is sigma-positive at i sends x_i to a word that ends in x_i^-1.
--
-- What images begin with is known from the fronts of words. So s_i sends a word that begins with
-- x_i or x_i^-1 to one that begins with x_i, and a letter of greater index leaves such a beginning.
-- Then a word without s_i^-1 and without lower letters sends x_i^-1 to a word that begins with x_i
-- or x_i^-1, and with x_i if it has s_i. Inverting gives the lemma (`EndsIn-positive`).
use Rattle.std.proofs.Common.{ℕ, ◌≡◌, ◌≢◌, ◌⊎◌, inl, inr, ◌+◌, ◌<◌, ◌≤◌, ◌∙◌, Bool, true, false, List, [], ◌∷◌, refl, ap, arith}
use Rattle.std.proofs.lemmas.Bool.{cases_eq, cases_Bool}
use Rattle.braid_word.specs.Words.{Letter, letter, EachLetter, SomeLetter}
use Rattle.braid_word.specs.Order.{IsSigmaPositiveAt}
use Rattle.free_word.specs.FreeWords.{Gen, gen, inverse, IsReduced}
use Rattle.artin_laws.specs.Action.{act_letter, act, EndsIn}
use Rattle.artin_laws.proofs.ActionLemmas.{IsReduced-act_letter, act-inverse}
use Rattle.artin_laws.proofs.FrontLemmas.{heavy, light, heavy-above, HasFront, of_nothing, of_heavy, of_along, of_against, of_other, HasFront-act}

-- ---- Beginnings ----

-- The word begins with this generator.
abbrev pub BeginsWith : Gen → List Gen → Type 0
BeginsWith x f = (g : List Gen) × (f ≡ x ∷ g)

-- a word has one first generator
pub first_unique : {x y : Gen} {f g h : List Gen} → f ≡ x ∷ g → f ≡ y ∷ h → x ≡ y
first_unique one two = cc

-- its index is determined
first_index : {x y : Gen} {f g h : List Gen} → f ≡ x ∷ g → f ≡ y ∷ h → x.index ≡ y.index
first_index one two = ap (λ z. z.index) (first_unique one two)

-- s_i makes of a first x_i or x_i^-1 a first x_i
begins_own
    : (i : ℕ) (d : Bool) (f r : List Gen)
    → BeginsWith (gen i d) f
    → HasFront i (i + 1) false f r
    → BeginsWith (gen i false) r
begins_own i d f r (g, begins) (of_nothing first last) = absurd (cc)
begins_own i d f r (g, begins) (of_heavy b k h first last) = (gen (i + 1) b ∷ h, last)
begins_own i d f r (g, begins) (of_along k h first last avoids) = (h, last)
begins_own i d f r (g, begins) (of_against y k h first last case) =
    let same : i ≡ i + 1 = first_index begins first in absurd (omega arith)
begins_own i d f r (g, begins) (of_other y k h not_p not_q first last) =
    absurd (not_p (first_index first begins))

-- a letter whose generators have other indices leaves the beginning
begins_other
    : (p q : ℕ) (e : Bool) (i : ℕ) (d : Bool) (f r : List Gen)
    → (i ≢ p) × (i ≢ q)
    → BeginsWith (gen i d) f
    → HasFront p q e f r
    → BeginsWith (gen i d) r
begins_other p q e i d f r other (g, begins) (of_nothing first last) = absurd (cc)
begins_other p q e i d f r other (g, begins) (of_heavy b k h first last) =
    absurd (other.0 (first_index begins first))
begins_other p q e i d f r other (g, begins) (of_along k h first last avoids) =
    absurd (other.1 (first_index begins first))
begins_other p q e i d f r other (g, begins) (of_against y k h first last case) =
    absurd (other.1 (first_index begins first))
begins_other p q e i d f r other (g, begins) (of_other y k h not_p not_q first last) =
    (h, last ∙ ap (λ z. z ∷ h) (first_unique first begins))

-- ---- Letters of positive words ----

-- The word is reduced and begins with this generator.
pub record StartsWith (x : Gen) (f : List Gen) : Type 0 where
  pub reduced : IsReduced f
  pub begins : BeginsWith x f

-- s_i makes of a first x_i or x_i^-1 a first x_i, and the image is reduced
StartsWith-own
    : (i : ℕ) (d : Bool) (f : List Gen)
    → StartsWith (gen i d) f
    → StartsWith (gen i false) (act_letter (letter i false) f)
StartsWith-own i d f starts =
    let front = HasFront-act (letter i false) f starts.reduced in
    record {
      reduced = IsReduced-act_letter (letter i false) f;
      begins = begins_own i d f (act_letter (letter i false) f) starts.begins front;
    }

-- a letter of greater index leaves it, and the image is reduced
StartsWith-higher
    : (x : Letter) (i : ℕ) (d : Bool) (f : List Gen)
    → i < x.index
    → StartsWith (gen i d) f
    → StartsWith (gen i d) (act_letter x f)
StartsWith-higher x i d f below starts =
    let front = HasFront-act x f starts.reduced in
    let other = heavy-above x i below in
    record {
      reduced = IsReduced-act_letter x f;
      begins = begins_other (heavy x) (light x) x.negative i d f (act_letter x f) other
          starts.begins front;
    }

-- A letter that may stand in a word that is sigma-positive at i: not s_i^-1, and no lower one.
abbrev pub MayStand : ℕ → Letter → Type 0
MayStand i x = (i ≤ x.index) × (x ≢ letter i true)

-- it is s_i or has a greater index
cases_letter
    : (i : ℕ) (x : Letter)
    → MayStand i x
    → (x ≡ letter i false) ⊎ (i < x.index)
cases_letter i x may = elim (cases_eq x.index i) [
  | inl own ↦ elim (cases_Bool x.negative) [
    | inl negative ↦
        absurd (may.1 (ap (λ j. letter j x.negative) own ∙ ap (letter i) negative))
    | inr positive ↦ inl (ap (λ j. letter j x.negative) own ∙ ap (letter i) positive)
  ]
  | inr other ↦ inr (omega arith)
]

-- ---- Larue's lemma ----

-- a word of letters that may stand makes of x_i^-1 a word that starts with x_i or x_i^-1
StartsWith-signed
    : (i : ℕ) (w : List Letter)
    → EachLetter (MayStand i) w
    → (d : Bool) × StartsWith (gen i d) (act w (gen i true ∷ []))
StartsWith-signed i [] each = (true, record { reduced = tt; begins = ([], refl) })
StartsWith-signed i (x ∷ w) each =
    let (d, starts) = StartsWith-signed i w each.1 in
    elim (cases_letter i x each.0) [
      | inl own ↦ (false, rw own (StartsWith-own i d (act w (gen i true ∷ [])) starts))
      | inr below ↦ (d, StartsWith-higher x i d (act w (gen i true ∷ [])) below starts)
    ]

-- a word that is sigma-positive at i makes of x_i^-1 a word that starts with x_i
StartsWith-positive
    : (i : ℕ) (w : List Letter)
    → SomeLetter (λ x. x ≡ letter i false) w
    → EachLetter (MayStand i) w
    → StartsWith (gen i false) (act w (gen i true ∷ []))
StartsWith-positive i [] some each = absurd some
StartsWith-positive i (x ∷ w) (inl own) each =
    let (d, starts) = StartsWith-signed i w each.1 in
    rw own (StartsWith-own i d (act w (gen i true ∷ [])) starts)
StartsWith-positive i (x ∷ w) (inr some) each =
    let starts = StartsWith-positive i w some each.1 in
    elim (cases_letter i x each.0) [
      | inl own ↦ rw own (StartsWith-own i false (act w (gen i true ∷ [])) starts)
      | inr below ↦ StartsWith-higher x i false (act w (gen i true ∷ [])) below starts
    ]

-- a word that is sigma-positive at i sends x_i to a word that ends in x_i^-1
pub EndsIn-positive
    : (i : ℕ) (w : List Letter)
    → IsSigmaPositiveAt i w
    → EndsIn (gen i true) (act w (gen i false ∷ []))
EndsIn-positive i w (some, each) =
    let starts = StartsWith-positive i w some each in
    let (h, begins) = starts.begins in
    (inverse h, act-inverse w (gen i true ∷ []) tt ∙ ap inverse begins)
