-- The different products of a term, in the order in which they are listed.
--
-- Each of them is new, no higher than the term, and a product of parts that are x or listed before it
-- (`Follows-distinct`). The last one is the term itself (`term_at-distinct`).
use Rattle.std.proofs.Common.{◌≡◌, ℕ, ◌+◌, ◌≤◌, inl, inr, true, false, List, [], ◌∷◌, ◌++◌, length, refl, sym, ◌∙◌, subst, append_assoc, append-nil, length-append, arith}
use Rattle.std.proofs.lemmas.Bool.{cases_Bool}
use Rattle.std.proofs.lemmas.List.{get_or_push}
use Rattle.ld_term.specs.Terms.{Term, variable, multiply, height}
use Rattle.term_graph.specs.TermLists.{term_at}
use Rattle.term_graph.specs.Asks.{has_term}
use Rattle.term_graph.specs.Listings.{products, add_new, distinct_products}
use Rattle.term_graph.proofs.AskLemmas.{has_term-push, Extends, Extends-self, Extends-trans, Extends-has_term}
use Rattle.term_graph.proofs.ListingLemmas.{add_new-append, add_new-product}

-- ---- Lists in which each product follows its parts ----

-- A term is x or listed.
abbrev pub IsThere : List Term → Term → Type 0
IsThere listed variable = Unit {0}
IsThere listed (multiply l r) = has_term (multiply l r) listed ≡ true

-- A product isn't listed and is no higher than a limit, and its parts are there.
pub record IsNew (limit : ℕ) (listed : List Term) (l r : Term) : Type 0 where
  pub absent : has_term (multiply l r) listed ≡ false
  pub low : height (multiply l r) ≤ limit
  pub left : IsThere listed l
  pub right : IsThere listed r

-- The term that is listed next is such a product.
abbrev pub IsNext : ℕ → List Term → Term → Type 0
IsNext limit listed variable = ⊥
IsNext limit listed (multiply l r) = IsNew limit listed l r

-- So is each of these, listed one after the other.
abbrev pub Follows : ℕ → List Term → List Term → Type 0
Follows limit listed [] = Unit {0}
Follows limit listed (t ∷ ts) = IsNext limit listed t × Follows limit (listed ++ (t ∷ [])) ts

-- one term more
Follows-push
    : (limit : ℕ) (listed ts : List Term) (t : Term)
    → Follows limit listed ts
    → IsNext limit (listed ++ ts) t
    → Follows limit listed (ts ++ (t ∷ []))
Follows-push limit listed [] t follows next = (subst (λ z. IsNext limit z t) (append-nil listed) next, tt)
Follows-push limit listed (u ∷ ts) t follows next = (
  follows.0,
  Follows-push limit (listed ++ (u ∷ [])) ts t follows.1
      (subst (λ z. IsNext limit z t) (sym (append_assoc listed (u ∷ []) ts)) next),
)

-- what is there stays there
IsThere-more : {old new : List Term} → Extends old new → (t : Term) → IsThere old t → IsThere new t
IsThere-more more variable there = tt
IsThere-more more (multiply l r) there = Extends-has_term more (multiply l r) there

-- ---- The products of a term ----

-- What it brings to a list to add the products of a term to it.
record IsAdded (limit : ℕ) (old new : List Term) (t : Term) : Type 0 where
  more : Extends old new
  follows : Follows limit [] new
  there : IsThere new t

-- a product is added behind its parts
IsAdded-product
    : (limit : ℕ) (old mid new : List Term) (l r : Term)
    → height (multiply l r) ≤ limit
    → IsAdded limit old mid l
    → IsAdded limit mid new r
    → IsAdded limit old (add_new new (multiply l r ∷ [])) (multiply l r)
IsAdded-product limit old mid new l r low left right = elim (cases_Bool (has_term (multiply l r) new)) [
  | inl listed ↦
      rw listed record { more = Extends-trans left.more right.more; follows = right.follows; there = listed }
  | inr absent ↦ rw absent record {
    more = Extends-trans (Extends-trans left.more right.more) record { added = multiply l r ∷ []; is = refl };
    follows =
        Follows-push limit [] new (multiply l r) right.follows record {
          absent = absent;
          low = low;
          left = IsThere-more right.more l left.there;
          right = right.there;
        };
    there = has_term-push (multiply l r) new;
  }
]

-- the products of a term are added
IsAdded-products
    : (limit : ℕ) (listed : List Term) (t : Term)
    → height t ≤ limit
    → Follows limit [] listed
    → IsAdded limit listed (add_new listed (products t)) t
IsAdded-products limit listed variable low follows =
    record { more = Extends-self listed; follows = follows; there = tt }
IsAdded-products limit listed (multiply l r) low follows =
    let left = IsAdded-products limit listed l (omega arith) follows in
    let right = IsAdded-products limit (add_new listed (products l)) r (omega arith) left.follows in
    let parts =
    add_new-append listed (products l) (products r ++ (multiply l r ∷ []))
    ∙ add_new-append (add_new listed (products l)) (products r) (multiply l r ∷ []) in
    subst (λ z. IsAdded limit listed z (multiply l r)) (sym parts)
    (IsAdded-product limit listed (add_new listed (products l)) _ l r low left right)

-- ---- The different products ----

-- the different products of a term follow their parts
pub Follows-distinct : (limit : ℕ) (t : Term) → height t ≤ limit → Follows limit [] (distinct_products t)
unfolding distinct_products
Follows-distinct limit t low = (IsAdded-products limit [] t low tt).follows

-- the term is among them
pub IsThere-distinct : (t : Term) → IsThere (distinct_products t) t
unfolding distinct_products
IsThere-distinct t = (IsAdded-products (height t) [] t (omega arith) tt).there

-- The different products of the parts of a product.
abbrev part_products : Term → Term → List Term
part_products l r = add_new (add_new [] (products l)) (products r)

-- a product is the last of its different products
distinct-product : (l r : Term) → distinct_products (multiply l r) ≡ part_products l r ++ (multiply l r ∷ [])
unfolding distinct_products
distinct-product l r = add_new-product [] l r refl

-- x has none
distinct-variable : distinct_products variable ≡ []
unfolding distinct_products
distinct-variable = refl

-- behind x they have the term at the last place
pub term_at-distinct
    : (t : Term)
    → term_at (variable ∷ distinct_products t) (length (distinct_products t)) ≡ t
term_at-distinct variable = rw distinct-variable refl
term_at-distinct (multiply l r) =
    let last = get_or_push (variable ∷ part_products l r) (multiply l r) variable in
    rw (distinct-product l r, length-append (part_products l r) (multiply l r ∷ []))
    (last (length (part_products l r) + 1) (omega arith))
