-- The different products of a term.
--
-- Terms that are there aren't added again (`add_new-there`). A list that with each term has the products of
-- it gains nothing by them (`add_new-listed`), and stays so where those of another term are added
-- (`IsClosed-add_new`): then first come those of its parts, and last itself (`add_new-product`).
use Rattle.std.proofs.Common.{◌≡◌, ℕ, ◌≤◌, ◌⊎◌, inl, inr, true, false, if◌then◌else◌, List, [], ◌∷◌, ◌++◌, refl, sym, ap, ◌∙◌, subst, true≢false, arith}
use Rattle.std.proofs.Math.Nat.{le-max_left, le-max_right}
use Rattle.std.proofs.lemmas.Bool.{cases_Bool}
use Rattle.std.proofs.lemmas.List.Folds.{list_any-append}
use Rattle.std.proofs.lemmas.Map.Keys.{IsDistinct-push}
use Rattle.std.specs.Cmp.{IsEquivalence, decided}
use Rattle.std.specs.List.{IsDistinct}
use Rattle.ld_term.specs.Terms.{Term, variable, multiply, height}
use Rattle.term_graph.specs.TermLists.{term_at}
use Rattle.term_graph.specs.Asks.{same_term, has_term}
use Rattle.term_graph.specs.Listings.{products, add_new, IsClosed, distinct_products}
use Rattle.term_graph.proofs.AskLemmas.{same_term-self, same_term-true, has_term-append_left, has_term-push}

-- ---- Terms that are there ----

-- a term is among more
has_term-cons : (t u : Term) (ts : List Term) → has_term t ts ≡ true → has_term t (u ∷ ts) ≡ true
has_term-cons t u ts there = elim (cases_Bool (same_term t u)) [
  | inl one ↦ rw one refl
  | inr other ↦ rw (other, there) refl
]

-- a term of the second list is in both
pub has_term-append_right
    : (t : Term) (xs ys : List Term)
    → has_term t ys ≡ true
    → has_term t (xs ++ ys) ≡ true
has_term-append_right t [] ys there = there
has_term-append_right t (x ∷ xs) ys there = has_term-cons t x (xs ++ ys) (has_term-append_right t xs ys there)

-- a term of two lists is in one of them
pub has_term-either
    : (t : Term) (xs ys : List Term)
    → has_term t (xs ++ ys) ≡ true
    → (has_term t xs ≡ true) ⊎ (has_term t ys ≡ true)
has_term-either t xs ys there = elim (cases_Bool (has_term t xs)) [
  | inl left ↦ inl left
  | inr absent ↦ inr (rw (list_any-append (same_term t) xs ys, absent) at there)
]

-- the only term of a list
pub has_term-one : (t u : Term) → has_term t (u ∷ []) ≡ true → t ≡ u
has_term-one t u there = elim (cases_Bool (same_term t u)) [
  | inl one ↦ same_term-true t u one
  | inr other ↦ absurd (true≢false (sym (rw other at there)))
]

-- ---- Terms that are added ----

-- A list after one term: it is put behind the others where it isn't there.
abbrev with_new : List Term → Term → List Term
with_new listed t = if has_term t listed then listed else listed ++ (t ∷ [])

-- what is there stays
with_new-keeps
    : (u t : Term) (listed : List Term)
    → has_term u listed ≡ true
    → has_term u (with_new listed t) ≡ true
with_new-keeps u t listed there = elim (cases_Bool (has_term t listed)) [
  | inl known ↦ rw known there
  | inr new ↦ rw new (has_term-append_left u listed (t ∷ []) there)
]

-- the term is there afterwards
with_new-has : (t : Term) (listed : List Term) → has_term t (with_new listed t) ≡ true
with_new-has t listed = elim (cases_Bool (has_term t listed)) [
  | inl known ↦ rw known known
  | inr new ↦ rw new (has_term-push t listed)
]

-- and no other is
with_new-from
    : (u t : Term) (listed : List Term)
    → has_term u (with_new listed t) ≡ true
    → (has_term u listed ≡ true) ⊎ (u ≡ t)
with_new-from u t listed there = elim (cases_Bool (has_term t listed)) [
  | inl known ↦ inl (rw known at there)
  | inr new ↦ elim (has_term-either u listed (t ∷ []) (rw new at there)) [
    | inl old ↦ inl old
    | inr one ↦ inr (has_term-one u t one)
  ]
]

-- terms are added one part after the other
pub add_new-append
    : (listed xs ys : List Term)
    → add_new listed (xs ++ ys) ≡ add_new (add_new listed xs) ys
add_new-append listed [] ys = refl
add_new-append listed (x ∷ xs) ys = add_new-append (with_new listed x) xs ys

-- a term that isn't there is put behind the others
pub add_new-one
    : (listed : List Term) (t : Term)
    → has_term t listed ≡ false
    → add_new listed (t ∷ []) ≡ listed ++ t ∷ []
add_new-one listed t absent = rw absent refl

-- what is there stays
pub add_new-keeps
    : (u : Term) (listed ts : List Term)
    → has_term u listed ≡ true
    → has_term u (add_new listed ts) ≡ true
add_new-keeps u listed [] there = there
add_new-keeps u listed (t ∷ ts) there =
    add_new-keeps u (with_new listed t) ts (with_new-keeps u t listed there)

-- each term is there afterwards
pub add_new-has
    : (u : Term) (listed ts : List Term)
    → has_term u ts ≡ true
    → has_term u (add_new listed ts) ≡ true
add_new-has u listed [] among = absurd (true≢false (sym among))
add_new-has u listed (t ∷ ts) among = elim (cases_Bool (same_term u t)) [
  | inl one ↦
      let there = subst (λ z. has_term z (with_new listed t) ≡ true) (sym (same_term-true u t one))
      (with_new-has t listed) in
      add_new-keeps u (with_new listed t) ts there
  | inr other ↦ add_new-has u (with_new listed t) ts (rw other at among)
]

-- and no other is
pub add_new-from
    : (u : Term) (listed ts : List Term)
    → has_term u (add_new listed ts) ≡ true
    → (has_term u listed ≡ true) ⊎ (has_term u ts ≡ true)
add_new-from u listed [] there = inl there
add_new-from u listed (t ∷ ts) there = elim (add_new-from u (with_new listed t) ts there) [
  | inl before ↦ elim (with_new-from u t listed before) [
    | inl old ↦ inl old
    | inr one ↦ inr (subst (λ z. has_term z (t ∷ ts) ≡ true) (sym one) (rw (same_term-self t) refl))
  ]
  | inr among ↦ inr (has_term-cons u t ts among)
]

-- terms that are there aren't added
pub add_new-there
    : (listed ts : List Term)
    → ((t : Term) → has_term t ts ≡ true → has_term t listed ≡ true)
    → add_new listed ts ≡ listed
add_new-there listed [] there = refl
add_new-there listed (t ∷ ts) there =
    let known : has_term t listed ≡ true = there t (rw (same_term-self t) refl) in
    rw known (add_new-there listed ts (λ u among. there u (has_term-cons u t ts among)))

-- ---- Products ----

-- the products of a product are those of its parts, and itself
pub products-either
    : (s t u : Term)
    → has_term s (products (multiply t u)) ≡ true
    → (has_term s (products t) ≡ true) ⊎ ((has_term s (products u) ≡ true) ⊎ (s ≡ multiply t u))
products-either s t u among =
    elim (has_term-either s (products t) (products u ++ (multiply t u ∷ [])) among) [
      | inl left ↦ inl left
      | inr later ↦ elim (has_term-either s (products u) (multiply t u ∷ []) later) [
        | inl right ↦ inr (inl right)
        | inr one ↦ inr (inr (has_term-one s (multiply t u) one))
      ]
    ]

-- the products of the left part are products of it
pub products-left
    : (s t u : Term)
    → has_term s (products t) ≡ true
    → has_term s (products (multiply t u)) ≡ true
products-left s t u among = has_term-append_left s (products t) (products u ++ (multiply t u ∷ [])) among

-- so are those of the right part
pub products-right
    : (s t u : Term)
    → has_term s (products u) ≡ true
    → has_term s (products (multiply t u)) ≡ true
products-right s t u among =
    has_term-append_right s (products t) (products u ++ (multiply t u ∷ []))
    (has_term-append_left s (products u) (multiply t u ∷ []) among)

-- so is itself
pub products-self : (t u : Term) → has_term (multiply t u) (products (multiply t u)) ≡ true
products-self t u =
    has_term-append_right (multiply t u) (products t) (products u ++ (multiply t u ∷ []))
    (has_term-push (multiply t u) (products u))

-- the same of a term that is a product
pub products-one : (s t u : Term) → s ≡ multiply t u → has_term s (products s) ≡ true
products-one s t u is = subst (λ z. has_term z (products z) ≡ true) (sym is) (products-self t u)

-- no product of a term is higher
products-low : (s t : Term) → has_term s (products t) ≡ true → height s ≤ height t
products-low s variable among = absurd (true≢false (sym among))
products-low s (multiply t u) among =
    let left = le-max_left (height t) (height u) in
    let right = le-max_right (height t) (height u) in
    elim (products-either s t u among) [
      | inl before ↦ omega (arith, products-low s t before, left)
      | inr later ↦ elim later [
        | inl after ↦ omega (arith, products-low s u after, right)
        | inr one ↦ omega (arith, ap height one)
      ]
    ]

-- a product is none of the products of its left part
products-above_left : (t u : Term) → has_term (multiply t u) (products t) ≡ false
products-above_left t u = elim (cases_Bool (has_term (multiply t u) (products t))) [
  | inl among ↦ absurd (omega (arith, products-low (multiply t u) t among, le-max_left (height t) (height u)))
  | inr absent ↦ absent
]

-- nor of its right part
products-above_right : (t u : Term) → has_term (multiply t u) (products u) ≡ false
products-above_right t u = elim (cases_Bool (has_term (multiply t u) (products u))) [
  | inl among ↦
      absurd (omega (arith, products-low (multiply t u) u among, le-max_right (height t) (height u)))
  | inr absent ↦ absent
]

-- x is none of the products
pub products-variable : (t : Term) → has_term variable (products t) ≡ true → ⊥
products-variable variable among = true≢false (sym among)
products-variable (multiply t u) among = elim (products-either variable t u among) [
  | inl before ↦ products-variable t before
  | inr later ↦ elim later [
    | inl after ↦ products-variable u after
    | inr one ↦ absurd cc
  ]
]

-- a product of a product is one
pub products-trans
    : (s t u : Term)
    → has_term s (products t) ≡ true
    → has_term t (products u) ≡ true
    → has_term s (products u) ≡ true
products-trans s t variable first second = absurd (true≢false (sym second))
products-trans s t (multiply u v) first second = elim (products-either t u v second) [
  | inl before ↦ products-left s u v (products-trans s t u first before)
  | inr later ↦ elim later [
    | inl after ↦ products-right s u v (products-trans s t v first after)
    | inr one ↦ subst (λ z. has_term s (products z) ≡ true) one first
  ]
]

-- ---- Lists with the products of each term ----

-- a list of no term is one
pub IsClosed-nil : IsClosed []
IsClosed-nil = record { has = λ t u there among. absurd (true≢false (sym there)) }

-- it stays so where the products of a term are added
pub IsClosed-add_new
    : (listed : List Term) (t : Term)
    → IsClosed listed
    → IsClosed (add_new listed (products t))
IsClosed-add_new listed t closed = record {
  has = λ s u there among. elim (add_new-from s listed (products t) there) [
    | inl old ↦ add_new-keeps u listed (products t) (closed.has s u old among)
    | inr new ↦ add_new-has u listed (products t) (products-trans u s t among new)
  ];
}

-- the products of a term that is listed are listed
pub add_new-listed
    : (listed : List Term) (t : Term)
    → IsClosed listed
    → has_term t listed ≡ true
    → add_new listed (products t) ≡ listed
add_new-listed listed t closed there =
    add_new-there listed (products t) (λ u among. closed.has t u there among)

-- a product that isn't listed isn't where the products of its parts are added
pub parts-absent
    : (listed : List Term) (t u : Term)
    → has_term (multiply t u) listed ≡ false
    → has_term (multiply t u) (add_new (add_new listed (products t)) (products u)) ≡ false
parts-absent listed t u absent =
    elim (cases_Bool (has_term (multiply t u) (add_new (add_new listed (products t)) (products u)))) [
      | inr new ↦ new
      | inl there ↦ elim (add_new-from (multiply t u) (add_new listed (products t)) (products u) there) [
        | inr among ↦ absurd (true≢false (sym among ∙ products-above_right t u))
        | inl before ↦ elim (add_new-from (multiply t u) listed (products t) before) [
          | inr among ↦ absurd (true≢false (sym among ∙ products-above_left t u))
          | inl old ↦ absurd (true≢false (sym old ∙ absent))
        ]
      ]
    ]

-- it comes behind them
pub add_new-product
    : (listed : List Term) (t u : Term)
    → has_term (multiply t u) listed ≡ false
    → add_new listed (products (multiply t u))
    ≡ add_new (add_new listed (products t)) (products u) ++ multiply t u ∷ []
add_new-product listed t u absent =
    let first = add_new listed (products t) in
    add_new-append listed (products t) (products u ++ (multiply t u ∷ []))
    ∙ add_new-append first (products u) (multiply t u ∷ [])
    ∙ add_new-one (add_new first (products u)) (multiply t u) (parts-absent listed t u absent)

-- ---- The different products ----

-- they have the products of each of them
pub IsClosed-distinct_products : (t : Term) → IsClosed (distinct_products t)
unfolding distinct_products
IsClosed-distinct_products t = IsClosed-add_new [] t IsClosed-nil

-- they are the products
pub distinct_products-has
    : (s t : Term)
    → has_term s (products t) ≡ true
    → has_term s (distinct_products t) ≡ true
unfolding distinct_products
distinct_products-has s t among = add_new-has s [] (products t) among

-- and no other term
pub distinct_products-from
    : (s t : Term)
    → has_term s (distinct_products t) ≡ true
    → has_term s (products t) ≡ true
unfolding distinct_products
distinct_products-from s t there = elim (add_new-from s [] (products t) there) [
  | inl none ↦ absurd (true≢false (sym none))
  | inr among ↦ among
]

-- they are so where the term is that of a number
pub root-listed
    : (made : List Term) (n root : ℕ)
    → n ≡ root
    → (s : Term)
    → has_term s (products (term_at made n)) ≡ true
    → has_term s (distinct_products (term_at made root)) ≡ true
root-listed made n root one s among =
    distinct_products-has s (term_at made root)
    (subst (λ z. has_term s (products (term_at made z)) ≡ true) one among)

-- the products of the left part of one of them are among them
pub listed-left
    : (s t u : Term)
    → has_term (multiply t u) (distinct_products s) ≡ true
    → (r : Term)
    → has_term r (products t) ≡ true
    → has_term r (distinct_products s) ≡ true
listed-left s t u there r among =
    (IsClosed-distinct_products s).has (multiply t u) r there (products-left r t u among)

-- so are those of its right part
pub listed-right
    : (s t u : Term)
    → has_term (multiply t u) (distinct_products s) ≡ true
    → (r : Term)
    → has_term r (products u) ≡ true
    → has_term r (distinct_products s) ≡ true
listed-right s t u there r among =
    (IsClosed-distinct_products s).has (multiply t u) r there (products-right r t u among)

-- whether terms are one is an equivalence
pub same_term-IsEquivalence : IsEquivalence same_term
same_term-IsEquivalence =
    decided same_term
    (λ t u. (same_term-true t u, λ one. subst (λ z. same_term t z ≡ true) one (same_term-self t)))

-- terms that are added differ from those that are there
IsDistinct-add_new
    : (listed ts : List Term)
    → IsDistinct same_term listed
    → IsDistinct same_term (add_new listed ts)
IsDistinct-add_new listed [] distinct = distinct
IsDistinct-add_new listed (t ∷ ts) distinct =
    IsDistinct-add_new (with_new listed t) ts (one (cases_Bool (has_term t listed)))
  where
    one : (has_term t listed ≡ true) ⊎ (has_term t listed ≡ false) → IsDistinct same_term (with_new listed t)
    one (inl known) = rw known distinct
    one (inr new) = rw new (IsDistinct-push same_term-IsEquivalence listed t distinct new)

-- the different products differ
pub IsDistinct-distinct_products : (t : Term) → IsDistinct same_term (distinct_products t)
unfolding distinct_products IsDistinct
IsDistinct-distinct_products t = IsDistinct-add_new [] (products t) tt
