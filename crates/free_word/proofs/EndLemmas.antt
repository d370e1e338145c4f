-- Generators at the end of a reduced word.
--
-- A word is multiplied from the right by one generator: where the last one is its inverse, that one
-- goes (`product-popped`), and else the generator stays behind it (`product-pushed`). A word that
-- is multiplied by each generator of another, the first one first, is multiplied by that word
-- (`product-next`, `IsReducedForm-whole`).
use Rattle.std.proofs.Common.{ℕ, ◌≡◌, ◌≢◌, ◌+◌, ◌-◌, ◌<◌, ◌≤◌, ◌∙◌, Bool, true, false, ◌&&◌, List, [], ◌∷◌, ◌++◌, length, get_or, take, drop, refl, sym, ap, subst, eqb, eq-eqb, arith}
use Rattle.std.proofs.Math.Bool.{beq}
use Rattle.std.proofs.lemmas.Bool.{both_ways}
use Rattle.std.proofs.lemmas.List.{take_more, take_all, take-append-drop}
use mathlib.Core.Path.{◌≡⟨◌⟩◌, ◌∎}
use Rattle.free_word.specs.FreeWords.{Gen, opposite, IsReduced, put, product, IsReducedForm}
use Rattle.free_word.proofs.DeletionLemmas.{IsReducedForm-product}
use Rattle.free_word.proofs.FreeWordLemmas.{opposite-opposite, reduced_end, put-cancel, product-append, product-nil, product-reduced, product-product}

-- ---- Parts of a reduced word ----

-- the first part of a reduced word is reduced
reduced_left : (f g : List Gen) → IsReduced (f ++ g) → IsReduced f
reduced_left [] g reduced = tt
reduced_left (x ∷ []) g reduced = tt
reduced_left (x ∷ (y ∷ f)) g reduced = (reduced.0, reduced_left (y ∷ f) g reduced.1)

-- a word is its last generator behind the others
last_behind
    : (f : List Gen) (y : Gen)
    → 0 < length f
    → y ≡ get_or f (length f - 1) y
    → f ≡ take (length f - 1) f ++ (y ∷ [])
last_behind f y some is =
    f
    ≡⟨ sym (take_all (length f - 1 + 1) f (omega arith)) ⟩
    take (length f - 1 + 1) f
    ≡⟨ take_more f (length f - 1) y (omega arith) ⟩
    take (length f - 1) f ++ (get_or f (length f - 1) y ∷ [])
    ≡⟨ ap (λ z. take (length f - 1) f ++ (z ∷ [])) (sym is) ⟩
    take (length f - 1) f ++ (y ∷ [])
    ∎

-- ---- The test of the last generator ----

-- the test of two generators says yes of equal ones
test-self : (z : Gen) → (eqb z.index z.index && beq z.negative z.negative) ≡ true
test-self z = rw (eq-eqb z.index z.index refl) (go z.negative)
  where
    go : (e : Bool) → beq e e ≡ true
    go true = refl
    go false = refl

-- generators that the test tells apart differ
pub test_differs
    : (y z : Gen)
    → (eqb y.index z.index && beq y.negative z.negative) ≡ false
    → y ≢ z
test_differs y z test e =
    let test_z = λ (w : Gen). (eqb y.index w.index && beq y.negative w.negative) ≡ true in
    both_ways _ test (subst test_z e (test-self y))

-- behind a last generator that isn't its inverse a generator keeps the word reduced
pub IsReduced-end
    : (f : List Gen) (x y : Gen)
    → 0 < length f
    → y ≡ get_or f (length f - 1) y
    → y ≢ opposite x
    → IsReduced f
    → IsReduced (f ++ x ∷ [])
IsReduced-end f x y some is ne reduced =
    let cut = last_behind f y some is in
    rw cut (reduced_end (take (length f - 1) f) y x (subst IsReduced cut reduced)
    (λ e. ne (sym (ap opposite e ∙ opposite-opposite y))))

-- ---- One generator from the right ----

-- a word h whose last generator, the inverse of x, was taken away
pub popped
    : (f g h : List Gen) (n : ℕ) (x : Gen)
    → h ≡ f
    → length h ≡ n
    → h ≡ take (length h - 1) h ++ opposite x ∷ []
    → g ≡ take (n - 1) f
    → f ≡ g ++ opposite x ∷ []
popped f g h n x same long cut rest = cc

-- a generator behind its inverse takes that away
pub product-popped
    : (f g : List Gen) (x : Gen)
    → f ≡ g ++ opposite x ∷ []
    → IsReduced f
    → g ≡ product f (x ∷ [])
product-popped f g x cut reduced =
    sym (product f (x ∷ [])
    ≡⟨ ap (λ w. product w (x ∷ [])) cut ⟩
    product (g ++ opposite x ∷ []) (x ∷ [])
    ≡⟨ product-append g (opposite x ∷ []) (x ∷ []) ⟩
    product g (put (opposite x) (x ∷ []))
    ≡⟨ ap (product g) (put-cancel (opposite x) x [] (sym (opposite-opposite x))) ⟩
    product g []
    ≡⟨ product-nil g (reduced_left g (opposite x ∷ []) (subst IsReduced cut reduced)) ⟩
    g
    ∎)

-- what is left is reduced
pub IsReduced-popped
    : (f g : List Gen) (x : Gen)
    → f ≡ g ++ opposite x ∷ []
    → IsReduced f
    → IsReduced g
IsReduced-popped f g x cut reduced = reduced_left g (opposite x ∷ []) (subst IsReduced cut reduced)

-- any other generator stays behind the word
pub product-pushed
    : (f g h : List Gen) (x : Gen)
    → h ≡ f
    → (IsReduced h → IsReduced (h ++ x ∷ []))
    → IsReduced f
    → g ≡ f ++ x ∷ []
    → g ≡ product f (x ∷ [])
product-pushed f g h x same kept reduced pushed =
    let longer : IsReduced (f ++ x ∷ []) =
    subst (λ w. IsReduced (w ++ x ∷ [])) same (kept (subst IsReduced (sym same) reduced)) in
    pushed ∙ sym (product-reduced f (x ∷ []) longer)

-- ---- A word from the right ----

-- one more generator of the second factor
product-take_more
    : (a b : List Gen) (k : ℕ) (x : Gen)
    → IsReduced b
    → k < length b
    → x ≡ get_or b k x
    → product a (take (k + 1) b) ≡ product (product a (take k b)) (x ∷ [])
product-take_more a b k x reduced within is =
    let parts : take (k + 1) b ≡ take k b ++ x ∷ [] =
    take_more b k x within ∙ ap (λ z. take k b ++ z ∷ []) (sym is) in
    let front = reduced_left (take (k + 1) b) (drop (k + 1) b) (rw take-append-drop reduced) in
    let whole = product-reduced (take k b) (x ∷ []) (subst IsReduced parts front) in
    product a (take (k + 1) b)
    ≡⟨ ap (product a) (parts ∙ sym whole) ⟩
    product a (product (take k b) (x ∷ []))
    ≡⟨ sym (product-product a (take k b) (x ∷ []) tt) ⟩
    product (product a (take k b)) (x ∷ [])
    ∎

-- no generator yet
pub product-first : (a f : List Gen) → f ≡ a → IsReduced f → f ≡ product a []
product-first a f same reduced = same ∙ sym (product-nil a (subst IsReduced same reduced))

-- one more generator of the second factor, which is known as a slice s
pub product-next
    : (a b s f g : List Gen) (k : ℕ) (x : Gen)
    → s ≡ b
    → IsReduced s
    → k < length s
    → x ≡ get_or s k x
    → f ≡ product a (take k b)
    → g ≡ product f (x ∷ [])
    → g ≡ product a (take (k + 1) b)
product-next a b s f g k x same reduced within is before pushed =
    let long : k < length b = subst (λ w. k < length w) same within in
    let item : x ≡ get_or b k x = subst (λ w. x ≡ get_or w k x) same is in
    pushed
    ∙ (ap (λ w. product w (x ∷ [])) before
    ∙ sym (product-take_more a b k x (subst IsReduced same reduced) long item))

-- all generators
pub IsReducedForm-whole
    : (a b s f : List Gen) (k : ℕ)
    → s ≡ b
    → IsReduced s
    → length s ≤ k
    → f ≡ product a (take k b)
    → IsReducedForm (a ++ b) f
IsReducedForm-whole a b s f k same reduced done before =
    let long : length b ≤ k = subst (λ w. length w ≤ k) same done in
    rw (before, take_all k b long) (IsReducedForm-product a b (subst IsReduced same reduced))
