-- Laws of the reduct of a word at a handle.
--
-- The first letter of a handle passes each letter inside, which is replaced, and meets the last
-- letter, its inverse. So a word and its reduct are equivalent on every number of strands that the
-- word is on (`EquivalentOn-reduct`). What holds of each index of the word holds of each of the
-- reduct (`each_index-reduct`), so the reduct has no new index (`HasIndicesOf-reduct`).
use Rattle.std.proofs.Common.{◌≡◌, ℕ, ◌+◌, ◌-◌, ◌<◌, ◌≤◌, suc, ◌==◌, Bool, false, not, List, [], ◌∷◌, ◌++◌, length, take, drop, flat_map, refl, sym, ap, ap₂, subst, ◌∙◌, inl, inr, arith, append_assoc}
use Rattle.std.proofs.lemmas.Bool.{eqb-true, eqb-false, cond_both}
use Rattle.std.proofs.lemmas.List.{take-append-drop, drop-drop, drop_more}
use Rattle.braid_word.specs.Words.{Letter, letter, opposite, EachLetter, SomeLetter, IsOn}
use Rattle.braid_word.specs.Equivalence.{EquivalentOn}
use Rattle.braid_word.proofs.WordLemmas.{each_append, each_left, each_right, each_weaker, on_right}
use Rattle.braid_word.proofs.RewritingLemmas.{Alike, alike_left, Alike-refl, Alike-sym, Alike-trans, Alike-append, Alike-cons, drop_letter, drop_opposite, swap_far, turn}
use Rattle.handle_find.specs.Handles.{at, IsHandle, inside, replaced, reduct, HasIndicesOf}
use Rattle.handle_find.proofs.HandleLemmas.{higher-inside}

-- ---- A word, cut at a handle ----

-- a word is what stands before a handle, the handle, which begins with a letter and ends with its
-- inverse, and what stands behind it
cut-IsHandle
    : (w : List Letter) (p q : ℕ)
    → IsHandle w p q
    → w ≡ take p w ++ (at w p ∷ (inside w p q ++ (opposite (at w p) ∷ drop (q + 1) w)))
cut-IsHandle w p q h =
    let ordered : p < q = h.ordered in
    let within : q < length w = h.within in
    let last : at w q ≡ opposite (at w p) = ap₂ letter h.one_index h.opposite_signs in
    let place : (p + 1) + (q - (p + 1)) ≡ q = omega arith in
    let end : drop (q - (p + 1)) (drop (p + 1) w) ≡ opposite (at w p) ∷ drop (q + 1) w
    = drop-drop (q - (p + 1)) (p + 1) w ∙ ap (λ k. drop k w) place
    ∙ drop_more w q (letter 0 false) within ∙ ap (λ x. x ∷ drop (q + 1) w) last in
    let behind : drop (p + 1) w ≡ inside w p q ++ (opposite (at w p) ∷ drop (q + 1) w)
    = sym (take-append-drop (q - (p + 1)) (drop (p + 1) w)) ∙ ap (λ c. inside w p q ++ c) end in
    sym (take-append-drop p w) ∙ ap (λ c. take p w ++ c)
    (drop_more w p (letter 0 false) (omega arith) ∙ ap (λ c. at w p ∷ c) behind)

-- what holds of the letter at each place holds of each letter
each_at
    : (P : Letter → Type 0) (w : List Letter)
    → ((k : ℕ) → k < length w → P (at w k))
    → EachLetter P w
each_at P [] holds = tt
each_at P (x ∷ w) holds =
    (holds 0 (omega arith), each_at P w (λ k below. holds (suc k) (omega arith)))

-- each letter inside a handle has a higher index
each_inside
    : (w : List Letter) (p q : ℕ)
    → IsHandle w p q
    → EachLetter (λ x. (at w p).index < x.index) (inside w p q)
each_inside w p q h = each_at _ (inside w p q) (higher-inside w p q h)

-- ---- Equivalence ----

-- s_j^e passes a letter of the next index: s_j^-e s_j^e is put behind that, and three letters turn
alike_raised
    : (n j : ℕ) (e : Bool) (x : Letter)
    → (1 ≤ j) × (j < n)
    → x.index ≡ j + 1
    → (c : List Letter)
    → Alike n (letter j e ∷ x ∷ c)
    (letter (j + 1) (not e) ∷ letter j x.negative ∷ letter (j + 1) e ∷ letter j e ∷ c)
alike_raised n j e x on next c =
    let is : x ≡ letter (j + 1) x.negative = ap (λ i. letter i x.negative) next in
    Alike-trans (Alike-cons (letter j e)
    (Alike-cons x (Alike-sym (drop_opposite n (letter j e) on c))))
    (subst (λ y. Alike n (letter j e ∷ y ∷ letter j (not e) ∷ letter j e ∷ c)
    (letter (j + 1) (not e) ∷ letter j x.negative ∷ letter (j + 1) e ∷ letter j e ∷ c)) (sym is)
    (turn n j (j + 1) (inl refl) e x.negative (letter j e ∷ c)))

-- s_j^e passes a letter of higher index, which is replaced
alike_replaced
    : (n j : ℕ) (e : Bool) (x : Letter)
    → (1 ≤ j) × (j < n)
    → j < x.index
    → (c : List Letter)
    → Alike n (letter j e ∷ x ∷ c) (replaced j e x ++ (letter j e ∷ c))
alike_replaced n j e x on above c =
    cond_both (x.index == j + 1) _ _
    (λ (r : List Letter). Alike n (letter j e ∷ x ∷ c) (r ++ (letter j e ∷ c)))
    (λ next. alike_raised n j e x on (eqb-true _ _ next) c)
    (λ other.
    let apart = eqb-false x.index (j + 1) other in
    swap_far n (letter j e) x (inl (omega arith)) c)

-- s_j^e passes letters of higher index, which are replaced
alike_replaced_each
    : (n j : ℕ) (e : Bool) (w : List Letter)
    → (1 ≤ j) × (j < n)
    → EachLetter (λ x. j < x.index) w
    → (c : List Letter)
    → Alike n (letter j e ∷ (w ++ c)) (flat_map (replaced j e) w ++ (letter j e ∷ c))
alike_replaced_each n j e [] on above c = Alike-refl (letter j e ∷ c)
alike_replaced_each n j e (x ∷ w) on above c =
    rw append_assoc (Alike-trans (alike_replaced n j e x on above.0 (w ++ c))
    (Alike-append (Alike-refl (replaced j e x)) (alike_replaced_each n j e w on above.1 c)))

-- so both letters of a handle go
alike_handle
    : (n : ℕ) (x : Letter) (w : List Letter)
    → (1 ≤ x.index) × (x.index < n)
    → EachLetter (λ y. x.index < y.index) w
    → (c : List Letter)
    → Alike n (x ∷ (w ++ (opposite x ∷ c))) (flat_map (replaced x.index x.negative) w ++ c)
alike_handle n x w on above c =
    Alike-trans (alike_replaced_each n x.index x.negative w on above (opposite x ∷ c))
    (Alike-append (Alike-refl (flat_map (replaced x.index x.negative) w)) (drop_letter n x on c))

-- a word and its reduct are equivalent on every number of strands that the word is on
pub EquivalentOn-reduct
    : (n : ℕ) (w : List Letter) (p q : ℕ)
    → IsHandle w p q
    → IsOn n w
    → EquivalentOn n w (reduct w p q)
unfolding reduct
EquivalentOn-reduct n w p q h on =
    let cut = cut-IsHandle w p q h in
    let on_cut = subst (IsOn n) cut on in
    let first = (on_right n (take p w) _ on_cut).0 in
    let above = each_inside w p q h in
    let step = alike_handle n (at w p) (inside w p q) first above (drop (q + 1) w) in
    subst (λ v. EquivalentOn n v (reduct w p q)) (sym cut)
    (alike_left (Alike-append (Alike-refl (take p w)) step) on_cut)

-- ---- Indices ----

module _ (P : ℕ → Type 0) where
  -- what stands for a letter inside has its index and that of the handle alone
  each_index-replaced
      : (j : ℕ) (e : Bool) (x : Letter)
      → P j
      → P x.index
      → EachLetter (λ y. P y.index) (replaced j e x)
  each_index-replaced j e x low own =
      cond_both (x.index == j + 1) _ _ (λ (r : List Letter). EachLetter (λ y. P y.index) r)
      (λ next. let raised = subst P (eqb-true _ _ next) own in (raised, (low, (raised, tt))))
      (λ other. (own, tt))

  -- the same for all letters inside
  each_index-flat_map
      : (j : ℕ) (e : Bool) (w : List Letter)
      → P j
      → EachLetter (λ y. P y.index) w
      → EachLetter (λ y. P y.index) (flat_map (replaced j e) w)
  each_index-flat_map j e [] low own = tt
  each_index-flat_map j e (x ∷ w) low own =
      each_append _ (replaced j e x) (flat_map (replaced j e) w)
      (each_index-replaced j e x low own.0) (each_index-flat_map j e w low own.1)

  -- what holds of each index of a word holds of each index of its reduct
  pub each_index-reduct
      : (w : List Letter) (p q : ℕ)
      → IsHandle w p q
      → EachLetter (λ y. P y.index) w
      → EachLetter (λ y. P y.index) (reduct w p q)
  unfolding reduct
  each_index-reduct w p q h own =
      let Q : Letter → Type 0 = λ y. P y.index in
      let own_cut = subst (EachLetter Q) (cut-IsHandle w p q h) own in
      let front = each_left Q (take p w) _ own_cut in
      let handle = each_right Q (take p w) _ own_cut in
      let middle = each_left Q (inside w p q) _ handle.1 in
      let end = each_right Q (inside w p q) _ handle.1 in
      each_append Q (take p w) _ front
      (each_append Q (flat_map (replaced (at w p).index (at w p).negative) (inside w p q)) _
      (each_index-flat_map (at w p).index (at w p).negative (inside w p q) handle.0 middle) end.1)

-- a word has its own indices
pub HasIndicesOf-refl : (w : List Letter) → HasIndicesOf w w
HasIndicesOf-refl [] = tt
HasIndicesOf-refl (x ∷ w) = (inl refl, each_weaker _ _ (λ y some. inr some) w (HasIndicesOf-refl w))

-- the reduct of a word has no index that the word hasn't
pub HasIndicesOf-reduct
    : (w : List Letter) (p q : ℕ)
    → IsHandle w p q
    → HasIndicesOf w (reduct w p q)
HasIndicesOf-reduct w p q h =
    each_index-reduct (λ i. SomeLetter (λ y. y.index ≡ i) w) w p q h (HasIndicesOf-refl w)
