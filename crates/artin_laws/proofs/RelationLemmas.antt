-- Equivalent braid words act alike.
--
-- Words that send every generator to the same free word act alike, since images respect products
-- and inverses. So each relation is tried on each generator, by cases on which indices are equal;
-- it then holds between two words and along chains (`ActAlike-equivalent`).
use Rattle.std.proofs.Common.{ℕ, ◌≡◌, inl, inr, ◌+◌, ◌≤◌, ◌∙◌, Bool, true, false, not, List, [], ◌∷◌, ◌++◌, refl, sym, ap, eqb, arith}
use Rattle.std.proofs.lemmas.Bool.{cases_eq, ne_eqb}
use mathlib.Core.Path.{◌≡⟨◌⟩◌, ◌∎}
use Rattle.braid_word.specs.Words.{Letter, letter}
use Rattle.braid_word.specs.Equivalence.{Relation, commutation, braiding, cancellation, left_side, right_side, DifferByOne, forward, backward, EquivalentOn, stay, move, Equivalent}
use Rattle.free_word.specs.FreeWords.{Gen, gen, inverse, cancels, product}
use Rattle.free_word.proofs.FreeWordLemmas.{put-reduced, reduced_rest}
use Rattle.artin_laws.specs.Action.{act, ActAlike}
use Rattle.artin_laws.proofs.ActionLemmas.{index_tests, act-append, act-nil, act-product, act-inverse, IsReduced-act}

-- ---- From generators to words ----

-- The words send every generator to the same free word.
abbrev pub AlikeOnGenerators : List Letter → List Letter → Type 0
AlikeOnGenerators u v = (j : ℕ) → act u (gen j false ∷ []) ≡ act v (gen j false ∷ [])

-- then they do so for inverses of generators too
alike_on_signed
    : (u v : List Letter)
    → AlikeOnGenerators u v
    → (y : Gen)
    → act u (y ∷ []) ≡ act v (y ∷ [])
alike_on_signed u v alike y = go y.index y.negative
  where
    go : (j : ℕ) (e : Bool) → act u (gen j e ∷ []) ≡ act v (gen j e ∷ [])
    go j false = alike j
    go j true =
        act-inverse u (gen j false ∷ []) tt
        ∙ (ap inverse (alike j) ∙ sym (act-inverse v (gen j false ∷ []) tt))

-- then they act alike
pub ActAlike-generators : (u v : List Letter) → AlikeOnGenerators u v → ActAlike u v
ActAlike-generators u v alike [] reduced = act-nil u ∙ sym (act-nil v)
ActAlike-generators u v alike (y ∷ f) reduced =
    act u (y ∷ f)
    ≡⟨ ap (act u) (sym (put-reduced y f reduced)) ⟩
    act u (product (y ∷ []) f)
    ≡⟨ act-product u (y ∷ []) f ⟩
    product (act u (y ∷ [])) (act u f)
    ≡⟨ ap (λ g. product g (act u f)) (alike_on_signed u v alike y) ⟩
    product (act v (y ∷ [])) (act u f)
    ≡⟨ ap (product (act v (y ∷ []))) (ActAlike-generators u v alike f (reduced_rest y f reduced)) ⟩
    product (act v (y ∷ [])) (act v f)
    ≡⟨ sym (act-product v (y ∷ []) f) ⟩
    act v (product (y ∷ []) f)
    ≡⟨ ap (act v) (put-reduced y f reduced) ⟩
    act v (y ∷ f)
    ∎

-- ---- Relations on one generator ----

-- a letter beside its inverse leaves a generator
cancelled
    : (i : ℕ) (e : Bool) (k : ℕ)
    → act (letter i e ∷ letter i (not e) ∷ []) (gen k false ∷ []) ≡ gen k false ∷ []
unfolding cancels
cancelled i false k = elim (cases_eq k i) [
  | inl own ↦ rw own (simp index_tests)
  | inr other ↦ elim (cases_eq k (i + 1)) [
    | inl next ↦ rw next (simp index_tests)
    | inr far ↦ simp (ne_eqb k i other, ne_eqb k (i + 1) far)
  ]
]
cancelled i true k = elim (cases_eq k i) [
  | inl own ↦ rw own (simp index_tests)
  | inr other ↦ elim (cases_eq k (i + 1)) [
    | inl next ↦ rw next (simp index_tests)
    | inr far ↦ simp (ne_eqb k i other, ne_eqb k (i + 1) far)
  ]
]

-- the braid relation
braided
    : (i k : ℕ)
    → act (letter i false ∷ letter (i + 1) false ∷ letter i false ∷ []) (gen k false ∷ [])
    ≡ act (letter (i + 1) false ∷ letter i false ∷ letter (i + 1) false ∷ []) (gen k false ∷ [])
unfolding cancels
braided i k = elim (cases_eq k i) [
  | inl own ↦ rw own (simp index_tests)
  | inr other ↦ elim (cases_eq k (i + 1)) [
    | inl next ↦ rw next (simp index_tests)
    | inr far ↦ elim (cases_eq k (i + 1 + 1)) [
      | inl second ↦ rw second (simp index_tests)
      | inr away ↦ simp (ne_eqb k i other, ne_eqb k (i + 1) far, ne_eqb k (i + 1 + 1) away)
    ]
  ]
]

-- letters whose indices are 2 or more apart
commuted
    : (i j : ℕ)
    → i + 2 ≤ j
    → (k : ℕ)
    → act (letter i false ∷ letter j false ∷ []) (gen k false ∷ [])
    ≡ act (letter j false ∷ letter i false ∷ []) (gen k false ∷ [])
unfolding cancels
commuted i j apart k =
    let a : eqb i j ≡ false = ne_eqb i j (λ e. absurd (omega arith)) in
    let b : eqb (i + 1) j ≡ false = ne_eqb (i + 1) j (λ e. absurd (omega arith)) in
    let c : eqb i (j + 1) ≡ false = ne_eqb i (j + 1) (λ e. absurd (omega arith)) in
    let d : eqb (i + 1) (j + 1) ≡ false = ne_eqb (i + 1) (j + 1) (λ e. absurd (omega arith)) in
    let f : eqb j i ≡ false = ne_eqb j i (λ e. absurd (omega arith)) in
    let g : eqb j (i + 1) ≡ false = ne_eqb j (i + 1) (λ e. absurd (omega arith)) in
    let h : eqb (j + 1) i ≡ false = ne_eqb (j + 1) i (λ e. absurd (omega arith)) in
    let l : eqb (j + 1) (i + 1) ≡ false = ne_eqb (j + 1) (i + 1) (λ e. absurd (omega arith)) in
    elim (cases_eq k i) [
      | inl own ↦ rw own (simp (index_tests, a, b, c, d))
      | inr ki ↦ elim (cases_eq k (i + 1)) [
        | inl next ↦ rw next (simp (index_tests, a, b, c, d))
        | inr kn ↦ elim (cases_eq k j) [
          | inl own ↦ rw own (simp (index_tests, f, g, h, l))
          | inr kj ↦ elim (cases_eq k (j + 1)) [
            | inl next ↦ rw next (simp (index_tests, f, g, h, l))
            | inr km ↦
                simp (ne_eqb k i ki, ne_eqb k (i + 1) kn, ne_eqb k j kj, ne_eqb k (j + 1) km)
          ]
        ]
      ]
    ]

-- ---- Relations, steps and chains ----

-- the two sides of a relation act alike
pub ActAlike-relation : (r : Relation) → ActAlike (left_side r) (right_side r)
ActAlike-relation r = ActAlike-generators (left_side r) (right_side r) (on_generators r)
  where
    on_generators : (r : Relation) → AlikeOnGenerators (left_side r) (right_side r)
    on_generators (commutation i j apart) = commuted i j apart
    on_generators (braiding i) = braided i
    on_generators (cancellation i e) = cancelled i e

-- words that act alike do so between two words
pub ActAlike-between
    : (a u v c : List Letter)
    → ActAlike u v
    → ActAlike (a ++ (u ++ c)) (a ++ (v ++ c))
ActAlike-between a u v c alike f reduced =
    act (a ++ (u ++ c)) f
    ≡⟨ act-append a (u ++ c) f ∙ ap (act a) (act-append u c f) ⟩
    act a (act u (act c f))
    ≡⟨ ap (act a) (alike (act c f) (IsReduced-act c f reduced)) ⟩
    act a (act v (act c f))
    ≡⟨ sym (act-append a (v ++ c) f ∙ ap (act a) (act-append v c f)) ⟩
    act (a ++ (v ++ c)) f
    ∎

-- two words one step apart act alike
pub ActAlike-step : {u v : List Letter} → DifferByOne u v → ActAlike u v
ActAlike-step (forward before after r first last) =
    rw (first, last)
    (ActAlike-between before (left_side r) (right_side r) after (ActAlike-relation r))
ActAlike-step (backward before after r first last) =
    rw (first, last)
    (ActAlike-between before (right_side r) (left_side r) after
    (λ f reduced. sym (ActAlike-relation r f reduced)))

-- words equivalent on n strands act alike
pub ActAlike-chain : {n : ℕ} {u v : List Letter} → EquivalentOn n u v → ActAlike u v
ActAlike-chain (stay on) f reduced = refl
ActAlike-chain (move on step chain) f reduced =
    ActAlike-step step f reduced ∙ ActAlike-chain chain f reduced

-- equivalent words act alike
pub ActAlike-equivalent : {u v : List Letter} → Equivalent u v → ActAlike u v
ActAlike-equivalent (n, chain) = ActAlike-chain chain
