-- Deletions of neighbours that are inverse to each other, and the product of free words.
--
-- Deletions lead from a ++ b to the product of a and b (`Deletes-product`). A deletion doesn't
-- change what a word does in front of reduced words, and a reduced word in front of nothing is
-- itself. So the product is the only reduced word to which deletions lead
-- (`IsReducedForm-product`).
use Rattle.std.proofs.Common.{◌≡◌, inl, inr, ◌∙◌, List, [], ◌∷◌, ◌++◌, refl, sym, ap}
use mathlib.Core.Path.{◌≡⟨◌⟩◌, ◌∎}
use Rattle.free_word.specs.FreeWords.{Gen, IsReduced, put, product, DeletesOne, at_pair, Deletes, no_more, one_more, IsReducedForm}
use Rattle.free_word.proofs.FreeWordLemmas.{cases_opposite, put-cancel, put-keep, put-put_opposite, IsReduced-product, product-append, product-nil}

-- ---- Chains of deletions ----

-- two chains, one after the other
Deletes-trans : {u v w : List Gen} → Deletes u v → Deletes v w → Deletes u w
Deletes-trans no_more second = second
Deletes-trans (one_more step first) second = one_more step (Deletes-trans first second)

-- a deletion behind one more generator
DeletesOne-cons : (x : Gen) {u v : List Gen} → DeletesOne u v → DeletesOne (x ∷ u) (x ∷ v)
DeletesOne-cons x (at_pair before after y first last) =
    at_pair (x ∷ before) after y (ap (λ w. x ∷ w) first) (ap (λ w. x ∷ w) last)

-- a chain behind one more generator
Deletes-cons : (x : Gen) {u v : List Gen} → Deletes u v → Deletes (x ∷ u) (x ∷ v)
Deletes-cons x no_more = no_more
Deletes-cons x (one_more step chain) = one_more (DeletesOne-cons x step) (Deletes-cons x chain)

-- ---- The product is reached ----

-- a generator in front of a word, and what is left of them
Deletes-put : (x : Gen) (f : List Gen) → Deletes (x ∷ f) (put x f)
Deletes-put x [] = no_more
Deletes-put x (y ∷ f) = elim (cases_opposite x y) [
  | inl e ↦ one_more (at_pair [] f x (rw e refl) (put-cancel x y f e)) no_more
  | inr ne ↦ rw (put-keep x y f ne) no_more
]

-- deletions lead from a word in front of another to their product
pub Deletes-product : (a b : List Gen) → Deletes (a ++ b) (product a b)
Deletes-product [] b = no_more
Deletes-product (x ∷ a) b =
    Deletes-trans (Deletes-cons x (Deletes-product a b)) (Deletes-put x (product a b))

-- ---- Nothing else is reached ----

-- a deletion doesn't change what the word does in front of a reduced word
product-DeletesOne
    : {u v : List Gen}
    → DeletesOne u v
    → (f : List Gen)
    → IsReduced f
    → product u f ≡ product v f
product-DeletesOne (at_pair before after x first last) f reduced =
    rw (first, last, product-append, product-append)
    (ap (product before)
    (put-put_opposite x (product after f) (IsReduced-product after f reduced)))

-- neither does a chain
product-Deletes
    : {u v : List Gen}
    → Deletes u v
    → (f : List Gen)
    → IsReduced f
    → product u f ≡ product v f
product-Deletes no_more f reduced = refl
product-Deletes (one_more step chain) f reduced =
    product-DeletesOne step f reduced ∙ product-Deletes chain f reduced

-- a reduced word to which deletions lead is the product
Deletes-unique
    : (a b f : List Gen)
    → IsReduced b
    → Deletes (a ++ b) f
    → IsReduced f
    → f ≡ product a b
Deletes-unique a b f reduced_b chain reduced_f =
    f
    ≡⟨ sym (product-nil f reduced_f) ⟩
    product f []
    ≡⟨ sym (product-Deletes chain [] tt) ⟩
    product (a ++ b) []
    ≡⟨ product-append a b [] ⟩
    product a (product b [])
    ≡⟨ ap (product a) (product-nil b reduced_b) ⟩
    product a b
    ∎

-- the product is the reduced form of one word in front of the other
pub IsReducedForm-product : (a b : List Gen) → IsReduced b → IsReducedForm (a ++ b) (product a b)
IsReducedForm-product a b reduced = record {
  reduced = IsReduced-product a b reduced;
  reached = Deletes-product a b;
  only = λ f chain reduced_f. Deletes-unique a b f reduced chain reduced_f;
}
