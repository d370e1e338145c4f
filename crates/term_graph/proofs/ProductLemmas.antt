-- The products of a term of a graph are terms of it.
--
-- The parts of each number come before it (`products-there`), so a term has no more different products than
-- the graph (`distinct_products-few`).
use Rattle.std.proofs.Common.{◌≡◌, ℕ, zero, suc, ◌<◌, ◌≤◌, inl, inr, true, false, List, [], ◌∷◌, ◌++◌, length, length-append, sym, ◌∙◌, subst, true≢false, arith}
use Rattle.std.proofs.lemmas.Bool.{cases_Bool}
use Rattle.std.proofs.lemmas.Map.Keys.{IsDistinct-push}
use Rattle.std.proofs.lemmas.Map.Made.{length-le_from_is_member}
use Rattle.ld_term.specs.Terms.{Term, variable, multiply}
use Rattle.term_graph.specs.TermLists.{term_at, product_count, IsGraph}
use Rattle.term_graph.specs.Asks.{has_term}
use Rattle.term_graph.specs.Listings.{products, distinct_products}
use Rattle.term_graph.proofs.AskLemmas.{has_term-at}
use Rattle.term_graph.proofs.ListingLemmas.{has_term-one, has_term-either, products-either, products-variable, distinct_products-from, same_term-IsEquivalence, IsDistinct-distinct_products}

module _ (made : List Term) (graph : IsGraph made) where
  -- the products of a number up to a bound are there
  products-below
      : (most n : ℕ) (s : Term)
      → n ≤ most
      → n < length made
      → has_term s (products (term_at made n)) ≡ true
      → has_term s made ≡ true
  products-below most zero s low within among =
      absurd (true≢false (sym (rw graph.first at among)))
  products-below zero (suc n) s low within among = absurd (omega (arith, low))
  products-below (suc most) (suc n) s low within among =
      let parts = graph.parts (suc n) (omega arith) within in
      let left = term_at made parts.left in
      let right = term_at made parts.right in
      let one : has_term s (products (multiply left right)) ≡ true =
      subst (λ z. has_term s (products z) ≡ true) parts.product among in
      elim (products-either s left right one) [
        | inl before ↦
            products-below most parts.left s (omega (arith, parts.left_before, low))
            (omega (arith, parts.left_before, within)) before
        | inr later ↦ elim later [
          | inl after ↦
              products-below most parts.right s (omega (arith, parts.right_before, low))
              (omega (arith, parts.right_before, within)) after
          | inr self ↦
              subst (λ z. has_term z made ≡ true) (parts.product ∙ sym self) (has_term-at made (suc n) within)
        ]
      ]

  -- the products of a term of the graph are there
  pub products-there
      : (n : ℕ) (s : Term)
      → n < length made
      → has_term s (products (term_at made n)) ≡ true
      → has_term s made ≡ true
  products-there n s within among = products-below n n s (omega arith) within among

  -- so are the variable and the different products
  listed-there
      : (n : ℕ) (s : Term)
      → n < length made
      → has_term s (distinct_products (term_at made n) ++ variable ∷ []) ≡ true
      → has_term s made ≡ true
  listed-there n s within among =
      elim (has_term-either s (distinct_products (term_at made n)) (variable ∷ []) among) [
        | inl listed ↦ products-there n s within (distinct_products-from s (term_at made n) listed)
        | inr one ↦ subst (λ z. has_term z made ≡ true) (graph.first ∙ sym (has_term-one s variable one))
            (has_term-at made 0 graph.some)
      ]

  -- the variable is none of the different products
  variable-apart : (t : Term) → has_term variable (distinct_products t) ≡ false
  variable-apart t = elim (cases_Bool (has_term variable (distinct_products t))) [
    | inl there ↦ absurd (products-variable t (distinct_products-from variable t there))
    | inr absent ↦ absent
  ]

  -- a term has no more different products than the graph
  pub distinct_products-few
      : (n : ℕ)
      → n < length made
      → length (distinct_products (term_at made n)) ≤ product_count made
  distinct_products-few n within =
      let t = term_at made n in
      let distinct =
      IsDistinct-push same_term-IsEquivalence (distinct_products t) variable
      (IsDistinct-distinct_products t) (variable-apart t) in
      let few = length-le_from_is_member same_term-IsEquivalence (distinct_products t ++ variable ∷ []) made
      distinct
      (λ s among. listed-there n s within among) in
      omega (arith, few, length-append (distinct_products t) (variable ∷ []))
