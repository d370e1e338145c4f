-- How a graph's pairs and terms hang together.
--
-- Two numbers that stand for one term are one (`IsKept-different`), by induction on a bound for both: the
-- numbers of their parts are lower, so they agree, and each pair is there once. So a pair is there where its
-- product is. The main lemmas are `found-product`, `absent-product`, `IsKept-push` and `IsKept-IsGraph`.
use Rattle.std.proofs.Common.{◌≡◌, ℕ, zero, suc, ◌+◌, ◌-◌, ◌<◌, ◌≤◌, inl, inr, ◌&&◌, Bool, true, false, nat_eq, List, [], ◌∷◌, ◌++◌, All, Some, length, refl, sym, ap, ◌∙◌, subst, true≢false, arith, length-append, slice_get}
use Rattle.std.proofs.lemmas.Bool.{and_parts, cases_Bool, cases_lt, eqb-true, eq-eqb}
use Rattle.std.proofs.lemmas.List.{get_or_append_left, get_or_push}
use Rattle.std.proofs.lemmas.List.Folds.{list_any_at}
use Rattle.std.proofs.lemmas.List.Quantifiers.{position-Some}
use Rattle.std.proofs.lemmas.Option.{get_or_from_slice_get, slice_get_within}
use Rattle.std.specs.List.{list_any, position}
use Rattle.ld_term.specs.Terms.{Term, variable, multiply, height}
use Rattle.ld_term.specs.declared.TheConstants.{MAX_HEIGHT}
use Rattle.term_graph.specs.TermLists.{term_at, product_count, HasParts, IsGraph}
use Rattle.term_graph.specs.Asks.{has_term}
use Rattle.term_graph.specs.Nodes.{pair_at, product_of, IsKept}
use Rattle.term_graph.specs.declared.TheConstants.{MAX_NODES}
use Rattle.term_graph.proofs.AskLemmas.{has_term-Stands, Stands-has_term}

-- ---- Pairs ----

-- Whether two pairs are one.
abbrev pub same_pair : ℕ × ℕ → ℕ × ℕ → Bool
same_pair p q = nat_eq p.0 q.0 && nat_eq p.1 q.1

-- pairs with equal halves are one
pub pairs_alike : (p q : ℕ × ℕ) → p.0 ≡ q.0 → p.1 ≡ q.1 → p ≡ q
pairs_alike (a, b) (c, d) left right = λ i. (left i, right i)

-- pairs that pass the test are one
pub same_pair-true : (p q : ℕ × ℕ) → same_pair p q ≡ true → p ≡ q
same_pair-true p q is =
    let (left, right) = and_parts (nat_eq p.0 q.0) (nat_eq p.1 q.1) is in
    pairs_alike p q (eqb-true p.0 q.0 left) (eqb-true p.1 q.1 right)

-- a pair is itself
pub same_pair-self : (p : ℕ × ℕ) → same_pair p p ≡ true
same_pair-self p =
    let left = eq-eqb p.0 p.0 refl in
    let right = eq-eqb p.1 p.1 refl in
    rw (left, right) refl

-- A place of a pair.
pub record Listed (p : ℕ × ℕ) (pairs : List (ℕ × ℕ)) : Type 0 where
  pub place : ℕ
  pub within : place < length pairs
  pub is : pair_at pairs place ≡ p

Listed-more : (p q : ℕ × ℕ) (pairs : List (ℕ × ℕ)) → Listed p pairs → Listed p (q ∷ pairs)
Listed-more p q pairs l = record { place = suc l.place; within = omega (arith, l.within); is = l.is }

-- a pair that is listed has a place
pub list_any-Listed
    : (p : ℕ × ℕ) (pairs : List (ℕ × ℕ))
    → list_any (same_pair p) pairs ≡ true
    → Listed p pairs
list_any-Listed p [] is = absurd (true≢false (sym is))
list_any-Listed p (q ∷ pairs) is = elim (cases_Bool (same_pair p q)) [
  | inl one ↦ record { place = 0; within = omega arith; is = sym (same_pair-true p q one) }
  | inr other ↦ Listed-more p q pairs (list_any-Listed p pairs (rw other at is))
]

-- and a pair that has a place is listed
pub Listed-list_any
    : (p : ℕ × ℕ) (pairs : List (ℕ × ℕ))
    → Listed p pairs
    → list_any (same_pair p) pairs ≡ true
Listed-list_any p pairs l =
    list_any_at (same_pair p) pairs l.place (0, 0) l.within (ap (same_pair p) l.is ∙ same_pair-self p)

-- a pair that was looked up is where it was found
pub position-Listed
    : (p : ℕ × ℕ) (pairs : List (ℕ × ℕ)) (k : ℕ)
    → position (same_pair p) pairs ≡ Some k
    → (k < length pairs) × (pair_at pairs k ≡ p)
position-Listed p pairs k found =
    let at = position-Some (same_pair p) pairs k (0, 0) found in
    (at.0, sym (same_pair-true p (pair_at pairs k) at.1))

-- ---- Numbers ----

-- products that are one have one left part
multiply-left : (a b c d : Term) → multiply a b ≡ multiply c d → a ≡ c
multiply-left a b c d is = cc

-- and one right part
multiply-right : (a b c d : Term) → multiply a b ≡ multiply c d → b ≡ d
multiply-right a b c d is = cc

-- x is no product
variable-multiply : (a b : Term) → variable ≡ multiply a b → ⊥
variable-multiply a b is = absurd cc

module _ (pairs : List (ℕ × ℕ)) (terms : List Term) (kept : IsKept pairs terms) where
  -- the term of a number above 0
  made : (k : ℕ) → suc k < length terms → term_at terms (suc k) ≡ product_of terms (pair_at pairs k)
  made k within =
      let next : k + 1 ≡ suc k = omega arith in
      subst (λ n. term_at terms n ≡ product_of terms (pair_at pairs k)) next
      (kept.made k (omega (arith, within, kept.count)))

  one_number
      : (n i j : ℕ)
      → i ≤ n
      → j ≤ n
      → i < length terms
      → j < length terms
      → term_at terms i ≡ term_at terms j
      → i ≡ j
  one_number n zero zero low_i low_j in_i in_j is = refl
  one_number n zero (suc j) low_i low_j in_i in_j is =
      absurd (variable-multiply _ _ (sym kept.first ∙ is ∙ made j in_j))
  one_number n (suc i) zero low_i low_j in_i in_j is =
      absurd (variable-multiply _ _ (sym kept.first ∙ sym is ∙ made i in_i))
  one_number zero (suc i) (suc j) low_i low_j in_i in_j is = absurd (omega (arith, low_i))
  one_number (suc n) (suc i) (suc j) low_i low_j in_i in_j is =
      let in_pairs_i : i < length pairs = omega (arith, in_i, kept.count) in
      let in_pairs_j : j < length pairs = omega (arith, in_j, kept.count) in
      let left_i = kept.left i in_pairs_i in
      let left_j = kept.left j in_pairs_j in
      let right_i = kept.right i in_pairs_i in
      let right_j = kept.right j in_pairs_j in
      let products = sym (made i in_i) ∙ is ∙ made j in_j in
      let left = one_number n (pair_at pairs i).0 (pair_at pairs j).0
      (omega (arith, left_i, low_i)) (omega (arith, left_j, low_j))
      (omega (arith, left_i, in_i)) (omega (arith, left_j, in_j)) (multiply-left _ _ _ _ products) in
      let right = one_number n (pair_at pairs i).1 (pair_at pairs j).1
      (omega (arith, right_i, low_i)) (omega (arith, right_j, low_j))
      (omega (arith, right_i, in_i)) (omega (arith, right_j, in_j)) (multiply-right _ _ _ _ products) in
      ap suc (kept.different i j in_pairs_i in_pairs_j (pairs_alike _ _ left right))

  -- numbers that stand for one term are one
  pub IsKept-different
      : (i j : ℕ)
      → i < length terms
      → j < length terms
      → term_at terms i ≡ term_at terms j
      → i ≡ j
  IsKept-different i j in_i in_j is = one_number (i + j) i j (omega arith) (omega arith) in_i in_j is

  -- the product of a pair that is at a place
  pub found-product
      : (a b k : ℕ)
      → k < length pairs
      → pair_at pairs k ≡ (a, b)
      → (k + 1 < length terms) × (term_at terms (k + 1) ≡ multiply (term_at terms a) (term_at terms b))
  found-product a b k within is =
      (omega (arith, within, kept.count), kept.made k within ∙ ap (product_of terms) is)

  placed
      : (a b n : ℕ)
      → a < length terms
      → b < length terms
      → n < length terms
      → term_at terms n ≡ multiply (term_at terms a) (term_at terms b)
      → Listed (a, b) pairs
  placed a b zero in_a in_b within is = absurd (variable-multiply _ _ (sym kept.first ∙ is))
  placed a b (suc k) in_a in_b within is =
      let in_pairs : k < length pairs = omega (arith, within, kept.count) in
      let left = kept.left k in_pairs in
      let right = kept.right k in_pairs in
      let products = sym (made k within) ∙ is in
      let first = IsKept-different (pair_at pairs k).0 a (omega (arith, left, within)) in_a
      (multiply-left _ _ _ _ products) in
      let second = IsKept-different (pair_at pairs k).1 b (omega (arith, right, within)) in_b
      (multiply-right _ _ _ _ products) in
      record { place = k; within = in_pairs; is = pairs_alike (pair_at pairs k) (a, b) first second }

  -- a product is there where its pair is
  pub product-listed
      : (a b : ℕ)
      → a < length terms
      → b < length terms
      → has_term (multiply (term_at terms a) (term_at terms b)) terms ≡ list_any (same_pair (a, b)) pairs
  product-listed a b in_a in_b = elim (cases_Bool (list_any (same_pair (a, b)) pairs)) [
    | inl listed ↦
        let at = list_any-Listed (a, b) pairs listed in
        let there = found-product a b at.place at.within at.is in
        Stands-has_term _ terms (record { number = at.place + 1; within = there.0; is = there.1 })
        ∙ sym listed
    | inr absent ↦ elim (cases_Bool (has_term (multiply (term_at terms a) (term_at terms b)) terms)) [
      | inl there ↦
          let stands = has_term-Stands (multiply (term_at terms a) (term_at terms b)) terms there in
          let at = placed a b stands.number in_a in_b stands.within stands.is in
          let listed = Listed-list_any (a, b) pairs at in
          absurd (true≢false (sym listed ∙ absent))
      | inr not_there ↦ not_there ∙ sym absent
    ]
  ]

  parts : (n : ℕ) → 0 < n → n < length terms → HasParts terms n
  parts zero above within = absurd (omega (arith, above))
  parts (suc k) above within =
      let in_pairs : k < length pairs = omega (arith, within, kept.count) in
      let left = kept.left k in_pairs in
      let right = kept.right k in_pairs in
      record {
        left = (pair_at pairs k).0;
        right = (pair_at pairs k).1;
        left_before = omega (arith, left);
        right_before = omega (arith, right);
        product = made k within;
      }

  -- such a list of terms is one that a graph stands for
  pub IsKept-IsGraph : All (λ t. height t ≤ MAX_HEIGHT) terms → IsGraph terms
  IsKept-IsGraph low = record {
    some = omega (arith, kept.count);
    first = kept.first;
    parts = parts;
    different = IsKept-different;
    few = omega (arith, kept.count, kept.few);
    low = low;
  }

-- ---- Looking up ----

module _ (pairs : List (ℕ × ℕ)) (terms : List Term) (kept : IsKept pairs terms) where
  -- the parts of the product at a place
  pub place-parts
      : (n k : ℕ) (p : ℕ × ℕ)
      → k ≡ n - 1
      → 1 ≤ n
      → slice_get pairs k ≡ Some p
      → (p.0 < n) × (p.1 < n) × (term_at terms n ≡ multiply (term_at terms p.0) (term_at terms p.1))
  place-parts n k p before above got =
      let within = slice_get_within pairs k p got in
      let is = get_or_from_slice_get pairs k p (0, 0) got in
      let left = kept.left k within in
      let right = kept.right k within in
      let next : k + 1 ≡ n = omega (arith, before, above) in (
        omega (arith, rw is at left, next),
        omega (arith, rw is at right, next),
        subst (λ (q : ℕ × ℕ). term_at terms n ≡ product_of terms q) is (rw next at (kept.made k within)),
      )

  -- a pair that was looked up is that of the next number
  pub position-product
      : (a b k : ℕ) (p : ℕ × ℕ)
      → p ≡ (a, b)
      → position (same_pair p) pairs ≡ Some k
      → (k + 1 < length terms) × (term_at terms (k + 1) ≡ multiply (term_at terms a) (term_at terms b))
  position-product a b k p key found =
      let at = position-Listed p pairs k found in
      found-product pairs terms kept a b k at.0 (at.1 ∙ key)

  -- the product of a pair that wasn't found isn't there
  pub absent-product
      : (a b : ℕ) (p : ℕ × ℕ)
      → p ≡ (a, b)
      → a < length terms
      → b < length terms
      → list_any (same_pair p) pairs ≡ false
      → has_term (multiply (term_at terms a) (term_at terms b)) terms ≡ false
  absent-product a b p key in_a in_b absent =
      product-listed pairs terms kept a b in_a in_b
      ∙ ap (λ q. list_any (same_pair q) pairs) (sym key)
      ∙ absent

-- ---- A new product ----

module _
    (pairs : List (ℕ × ℕ)) (terms : List Term) (kept : IsKept pairs terms)
    (a b : ℕ) (in_a : a < length terms) (in_b : b < length terms)
    (t : Term) (is : t ≡ multiply (term_at terms a) (term_at terms b)) where
  abbrev next_pairs : List (ℕ × ℕ)
  next_pairs = pairs ++ (a, b) ∷ []

  abbrev next_terms : List Term
  next_terms = terms ++ t ∷ []

  -- an old pair stays
  old_pair : (k : ℕ) → k < length pairs → pair_at next_pairs k ≡ pair_at pairs k
  old_pair k within = get_or_append_left pairs ((a, b) ∷ []) (0, 0) k within

  -- the new pair is the last
  new_pair : (k : ℕ) → length pairs ≡ k → pair_at next_pairs k ≡ (a, b)
  new_pair k end = get_or_push pairs (a, b) (0, 0) k end

  -- an old term stays
  old_term : (n : ℕ) → n < length terms → term_at next_terms n ≡ term_at terms n
  old_term n within = get_or_append_left terms (t ∷ []) variable n within

  next_made
      : (k : ℕ)
      → k < length next_pairs
      → term_at next_terms (k + 1) ≡ product_of next_terms (pair_at next_pairs k)
  next_made k within = elim (cases_lt k (length pairs)) [
    | inl old ↦
        let left = kept.left k old in
        let right = kept.right k old in
        let last = old_term (k + 1) (omega (arith, old, kept.count)) in
        let first = old_term (pair_at pairs k).0 (omega (arith, left, old, kept.count)) in
        let second = old_term (pair_at pairs k).1 (omega (arith, right, old, kept.count)) in
        rw (old_pair k old, last, first, second) (kept.made k old)
    | inr new ↦
        let end : length pairs ≡ k = omega (arith, new, within, length-append pairs ((a, b) ∷ [])) in
        let last = get_or_push terms t variable (k + 1) (omega (arith, end, kept.count)) in
        rw (new_pair k end, last, old_term a in_a, old_term b in_b) is
  ]

  next_left : (k : ℕ) → k < length next_pairs → (pair_at next_pairs k).0 ≤ k
  next_left k within = elim (cases_lt k (length pairs)) [
    | inl old ↦ rw (old_pair k old) (kept.left k old)
    | inr new ↦
        let end : length pairs ≡ k = omega (arith, new, within, length-append pairs ((a, b) ∷ [])) in
        rw (new_pair k end) (omega (arith, end, in_a, kept.count))
  ]

  next_right : (k : ℕ) → k < length next_pairs → (pair_at next_pairs k).1 ≤ k
  next_right k within = elim (cases_lt k (length pairs)) [
    | inl old ↦ rw (old_pair k old) (kept.right k old)
    | inr new ↦
        let end : length pairs ≡ k = omega (arith, new, within, length-append pairs ((a, b) ∷ [])) in
        rw (new_pair k end) (omega (arith, end, in_b, kept.count))
  ]

  -- an old pair isn't the new one
  apart
      : list_any (same_pair (a, b)) pairs ≡ false
      → (k : ℕ)
      → k < length pairs
      → pair_at pairs k ≡ (a, b)
      → ⊥
  apart absent k within one =
      let listed = Listed-list_any (a, b) pairs (record { place = k; within = within; is = one }) in
      absurd (true≢false (sym listed ∙ absent))

  next_different
      : list_any (same_pair (a, b)) pairs ≡ false
      → (i j : ℕ)
      → i < length next_pairs
      → j < length next_pairs
      → pair_at next_pairs i ≡ pair_at next_pairs j
      → i ≡ j
  next_different absent i j in_i in_j one = elim (cases_lt i (length pairs)) [
    | inl old_i ↦ elim (cases_lt j (length pairs)) [
      | inl old_j ↦ kept.different i j old_i old_j (sym (old_pair i old_i) ∙ one ∙ old_pair j old_j)
      | inr new_j ↦
          let end : length pairs ≡ j = omega (arith, new_j, in_j, length-append pairs ((a, b) ∷ [])) in
          absurd (apart absent i old_i (sym (old_pair i old_i) ∙ one ∙ new_pair j end))
    ]
    | inr new_i ↦
        let end : length pairs ≡ i = omega (arith, new_i, in_i, length-append pairs ((a, b) ∷ [])) in
        elim (cases_lt j (length pairs)) [
          | inl old_j ↦ absurd (apart absent j old_j (sym (old_pair j old_j) ∙ sym one ∙ new_pair i end))
          | inr new_j ↦ omega (arith, end, new_j, in_j, length-append pairs ((a, b) ∷ []))
        ]
  ]

  -- a new pair is added beside its product
  pub IsKept-push
      : list_any (same_pair (a, b)) pairs ≡ false
      → product_count terms < MAX_NODES
      → IsKept (pairs ++ (a, b) ∷ []) (terms ++ t ∷ [])
  IsKept-push absent few = record {
    count = omega (arith, kept.count, length-append pairs ((a, b) ∷ []), length-append terms (t ∷ []));
    few = omega (arith, few, kept.count, length-append pairs ((a, b) ∷ []));
    first = old_term 0 (omega (arith, kept.count)) ∙ kept.first;
    left = next_left;
    right = next_right;
    made = next_made;
    different = next_different absent;
  }
