-- Laws of free words: reduced words with `product` and `inverse` are a group.
--
-- Generators act on reduced words by `put`, and the inverse of a generator undoes what the
-- generator does (`put-opposite`). A product acts as its factors do, one after the other
-- (`product-product`), so the product of reduced words is associative with no look at deletions:
-- this is van der Waerden's argument.
use Rattle.std.proofs.Common.{◌≡◌, ◌≢◌, ◌⊎◌, inl, inr, ◌∙◌, Bool, true, false, not, cond, List, [], ◌∷◌, ◌++◌, refl, sym, ap, append_assoc, append-nil, eq-eqb}
use Rattle.std.proofs.lemmas.Bool.{eqb-true, and_parts, cases_Bool, false_from_ne_true}
use Rattle.std.proofs.Math.Bool.{not-not}
use mathlib.Core.Path.{◌≡⟨◌⟩◌, ◌∎}
use Rattle.free_word.specs.FreeWords.{Gen, gen, opposite, inverse, IsReduced, cancels, put, product}

-- ---- Generators that cancel ----

-- a generator is the inverse of its inverse
pub opposite-opposite : (x : Gen) → opposite (opposite x) ≡ x
opposite-opposite x = ap (gen x.index) (not-not x.negative)

-- the sign that is tested by `cancels` is the turned sign
turned_sign : (e d : Bool) → cond e (not d) d ≡ true → d ≡ not e
turned_sign true false test = refl
turned_sign false true test = refl
turned_sign true true test = cc
turned_sign false false test = cc

-- what cancels with a generator is its inverse
pub cancels-true : (x y : Gen) → cancels x y ≡ true → y ≡ opposite x
unfolding cancels
cancels-true x y test =
    let (index, sign) = and_parts _ _ test in
    ap (λ i. gen i y.negative) (sym (eqb-true x.index y.index index))
    ∙ ap (gen x.index) (turned_sign x.negative y.negative sign)

-- a generator cancels with its inverse
pub cancels-opposite : (x : Gen) → cancels x (opposite x) ≡ true
unfolding cancels
cancels-opposite x = rw (eq-eqb x.index x.index refl) (signs x.negative)
  where
    signs : (e : Bool) → cond e (not (not e)) (not e) ≡ true
    signs true = refl
    signs false = refl

-- a generator is the inverse of another, or it isn't
pub cases_opposite : (x y : Gen) → (y ≡ opposite x) ⊎ (y ≢ opposite x)
cases_opposite x y = elim (cases_Bool (cancels x y)) [
  | inl test ↦ inl (cancels-true x y test)
  | inr test ↦ inr (λ e. let on : cancels x y ≡ true = rw e (cancels-opposite x) in cc)
]

-- ---- One generator in front ----

-- a generator in front of its inverse: both go
pub put-cancel : (x y : Gen) (f : List Gen) → y ≡ opposite x → put x (y ∷ f) ≡ f
put-cancel x y f e = rw (e, cancels-opposite x)

-- a generator in front of another one stays
pub put-keep : (x y : Gen) (f : List Gen) → y ≢ opposite x → put x (y ∷ f) ≡ x ∷ (y ∷ f)
put-keep x y f ne = rw (false_from_ne_true (cancels x y) (λ test. ne (cancels-true x y test)))

-- the rest of a reduced word is reduced
pub reduced_rest : (x : Gen) (f : List Gen) → IsReduced (x ∷ f) → IsReduced f
reduced_rest x [] reduced = tt
reduced_rest x (y ∷ f) reduced = reduced.1

-- a generator in front of a reduced word gives a reduced word
pub IsReduced-put : (x : Gen) (f : List Gen) → IsReduced f → IsReduced (put x f)
IsReduced-put x [] reduced = tt
IsReduced-put x (y ∷ f) reduced = elim (cases_opposite x y) [
  | inl e ↦ rw (put-cancel x y f e) (reduced_rest y f reduced)
  | inr ne ↦ rw (put-keep x y f ne) (ne, reduced)
]

-- in front of a word that stays reduced with it, a generator stays
pub put-reduced : (x : Gen) (f : List Gen) → IsReduced (x ∷ f) → put x f ≡ x ∷ f
put-reduced x [] reduced = refl
put-reduced x (y ∷ f) reduced = put-keep x y f reduced.0

-- a generator and then its inverse leave a reduced word as it was
pub put-opposite : (x : Gen) (f : List Gen) → IsReduced f → put (opposite x) (put x f) ≡ f
put-opposite x [] reduced = put-cancel (opposite x) x [] (sym (opposite-opposite x))
put-opposite x (y ∷ f) reduced = elim (cases_opposite x y) [
  | inl e ↦ rw (put-cancel x y f e, ← e) (put-reduced y f reduced)
  | inr ne ↦ rw (put-keep x y f ne) (put-cancel (opposite x) x (y ∷ f) (sym (opposite-opposite x)))
]

-- the inverse of a generator and then the generator leave a reduced word as it was
pub put-put_opposite : (x : Gen) (f : List Gen) → IsReduced f → put x (put (opposite x) f) ≡ f
put-put_opposite x f reduced = rw opposite-opposite at (put-opposite (opposite x) f reduced)

-- ---- Products ----

-- a product with a reduced word is reduced
pub IsReduced-product : (a f : List Gen) → IsReduced f → IsReduced (product a f)
IsReduced-product [] f reduced = reduced
IsReduced-product (x ∷ a) f reduced = IsReduced-put x (product a f) (IsReduced-product a f reduced)

-- a word of two parts acts as its parts do, the second one first
pub product-append
    : (a b f : List Gen)
    → product (a ++ b) f ≡ product a (product b f)
product-append [] b f = refl
product-append (x ∷ a) b f = ap (put x) (product-append a b f)

-- words that stay reduced beside each other stay as they are
pub product-reduced : (a f : List Gen) → IsReduced (a ++ f) → product a f ≡ a ++ f
product-reduced [] f reduced = refl
product-reduced (x ∷ a) f reduced =
    rw (product-reduced a f (reduced_rest x (a ++ f) reduced)) (put-reduced x (a ++ f) reduced)

-- a reduced word times the empty word
pub product-nil : (f : List Gen) → IsReduced f → product f [] ≡ f
product-nil f reduced =
    product-reduced f [] (rw append-nil reduced) ∙ append-nil f

-- a generator in front of the first factor is one in front of the product
product-put
    : (x : Gen) (a f : List Gen)
    → IsReduced f
    → product (put x a) f ≡ put x (product a f)
product-put x [] f reduced = refl
product-put x (y ∷ a) f reduced = elim (cases_opposite x y) [
  | inl e ↦ rw (put-cancel x y a e, e)
      (sym (put-put_opposite x (product a f) (IsReduced-product a f reduced)))
  | inr ne ↦ ap (λ b. product b f) (put-keep x y a ne)
]

-- a product acts as its factors do, one after the other
pub product-product
    : (a b f : List Gen)
    → IsReduced f
    → product (product a b) f ≡ product a (product b f)
product-product [] b f reduced = refl
product-product (x ∷ a) b f reduced =
    product (put x (product a b)) f
    ≡⟨ product-put x (product a b) f reduced ⟩
    put x (product (product a b) f)
    ≡⟨ ap (put x) (product-product a b f reduced) ⟩
    put x (product a (product b f))
    ∎

-- ---- Inverses ----

-- the inverse of a word of two parts
pub inverse-append : (a b : List Gen) → inverse (a ++ b) ≡ inverse b ++ inverse a
inverse-append [] b = sym (append-nil (inverse b))
inverse-append (x ∷ a) b =
    inverse (a ++ b) ++ opposite x ∷ []
    ≡⟨ ap (λ w. w ++ opposite x ∷ []) (inverse-append a b) ⟩
    (inverse b ++ inverse a) ++ opposite x ∷ []
    ≡⟨ append_assoc (inverse b) (inverse a) (opposite x ∷ []) ⟩
    inverse b ++ (inverse a ++ opposite x ∷ [])
    ∎

-- inverting a word twice changes nothing
pub inverse-inverse : (f : List Gen) → inverse (inverse f) ≡ f
inverse-inverse [] = refl
inverse-inverse (x ∷ f) =
    inverse (inverse f ++ opposite x ∷ [])
    ≡⟨ inverse-append (inverse f) (opposite x ∷ []) ⟩
    opposite (opposite x) ∷ inverse (inverse f)
    ≡⟨ ap (λ y. y ∷ inverse (inverse f)) (opposite-opposite x) ⟩
    x ∷ inverse (inverse f)
    ≡⟨ ap (λ w. x ∷ w) (inverse-inverse f) ⟩
    x ∷ f
    ∎

-- one more generator at the end of a reduced word
pub reduced_end
    : (f : List Gen) (y z : Gen)
    → IsReduced (f ++ (y ∷ []))
    → z ≢ opposite y
    → IsReduced ((f ++ (y ∷ [])) ++ (z ∷ []))
reduced_end [] y z reduced ne = (ne, tt)
reduced_end (x ∷ []) y z reduced ne = (reduced.0, (ne, tt))
reduced_end (x ∷ (w ∷ f)) y z reduced ne = (reduced.0, reduced_end (w ∷ f) y z reduced.1 ne)

-- the inverse of a reduced word is reduced
pub IsReduced-inverse : (f : List Gen) → IsReduced f → IsReduced (inverse f)
IsReduced-inverse [] reduced = tt
IsReduced-inverse (x ∷ []) reduced = tt
IsReduced-inverse (x ∷ (y ∷ f)) reduced =
    reduced_end (inverse f) (opposite y) (opposite x) (IsReduced-inverse (y ∷ f) reduced.1)
    (λ e. reduced.0 (sym (e ∙ opposite-opposite y)))

-- a word in front of a reduced word is undone by its inverse
pub product-inverse_left
    : (a f : List Gen)
    → IsReduced f
    → product (inverse a) (product a f) ≡ f
product-inverse_left [] f reduced = refl
product-inverse_left (x ∷ a) f reduced =
    product (inverse a ++ opposite x ∷ []) (put x (product a f))
    ≡⟨ product-append (inverse a) (opposite x ∷ []) (put x (product a f)) ⟩
    product (inverse a) (put (opposite x) (put x (product a f)))
    ≡⟨ ap (product (inverse a)) (put-opposite x (product a f) (IsReduced-product a f reduced)) ⟩
    product (inverse a) (product a f)
    ≡⟨ product-inverse_left a f reduced ⟩
    f
    ∎

-- the inverse in front of a reduced word is undone by the word
pub product-inverse_right
    : (a f : List Gen)
    → IsReduced f
    → product a (product (inverse a) f) ≡ f
product-inverse_right a f reduced =
    rw inverse-inverse at (product-inverse_left (inverse a) f reduced)

-- a reduced word times its inverse is the empty word
pub product-inverse : (f : List Gen) → IsReduced f → product f (inverse f) ≡ []
product-inverse f reduced =
    ap (product f) (sym (product-nil (inverse f) (IsReduced-inverse f reduced)))
    ∙ product-inverse_right f [] tt
