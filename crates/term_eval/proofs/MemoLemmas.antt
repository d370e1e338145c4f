-- How the values that are known grow.
--
-- At first none is known (`memo-none`). A term whose value is known adds nothing (`memo-found`), and another
-- product adds itself behind the products of its parts (`memo-more`), which is one term more
-- (`count-more`). So
-- there is a step for each different product (`steps-distinct`).
use Rattle.std.proofs.Common.{◌≡◌, ◌≢◌, ℕ, ◌+◌, ◌<◌, ◌≤◌, inl, inr, nat_lt, true, false, ◌||◌, List, [], ◌∷◌, ◌++◌, length, get_or, set, replicate, sym, ap, ◌∙◌, length-append, arith}
use Rattle.std.proofs.Math.Bool.{or-false}
use Rattle.std.proofs.lemmas.Bool.{cases_Bool, cases_eq, lt-ltb, or_right}
use Rattle.std.proofs.lemmas.List.{get_or-set_same, get_or-set_other, get_or-replicate, length-replicate, length-set}
use Rattle.std.proofs.lemmas.List.Folds.{list_any-append}
use Rattle.ld_term.specs.Terms.{Term, multiply}
use Rattle.term_graph.specs.TermLists.{term_at, IsGraph}
use Rattle.term_graph.specs.Asks.{same_term, has_term}
use Rattle.term_graph.specs.Listings.{IsClosed, products, add_new, distinct_products}
use Rattle.term_graph.proofs.AskLemmas.{same_term-self, same_term-true}
use Rattle.term_graph.proofs.ListingLemmas.{IsClosed-nil, IsClosed-add_new, add_new-listed, add_new-product}
use Rattle.term_eval.specs.Values.{value_of}
use Rattle.term_eval.specs.Memos.{IsMemo}

-- at first no value is known
pub memo-none
    : (made : List Term) (rows : List (List ℕ)) (count : ℕ) (known : List ℕ)
    → count ≤ length made
    → known ≡ replicate count 0
    → IsMemo made rows known []
memo-none made rows count known room none = record {
  room = omega (arith, room, long);
  value = λ n within above. absurd (omega (arith, above, unknown n within));
  marked = λ n within. sym (ap (nat_lt 0) (unknown n within));
  closed = IsClosed-nil;
}
  where
    long : length known ≡ count
    long = ap length none ∙ length-replicate count 0

    unknown : (n : ℕ) → n < length known → get_or known n 0 ≡ 0
    unknown n within = ap (λ z. get_or z n 0) none
        ∙ get_or-replicate count n 0 0 (omega (arith, within, long))

-- from none known on, there is a step for each different product
pub steps-distinct
    : (before after : ℕ) (t : Term)
    → after + length {A = Term} [] ≡ before + length (add_new [] (products t))
    → after ≤ before + length (distinct_products t)
unfolding distinct_products
steps-distinct before after t count = omega (arith, count)

module _
    (made : List Term) (rows : List (List ℕ)) (known : List ℕ) (listed : List Term)
    (memo : IsMemo made rows known listed) (n : ℕ) (within : n < length known) where
  -- a term whose value is known adds nothing
  pub memo-found
      : (k : ℕ)
      → k ≡ n
      → get_or known k 0 ≢ 0
      → add_new listed (products (term_at made n)) ≡ listed
  memo-found k at found =
      let above : 0 < get_or known n 0 = omega (arith, rw at at found) in
      let there : has_term (term_at made n) listed ≡ true = memo.marked n within
      ∙ lt-ltb 0 (get_or known n 0) above in
      add_new-listed listed (term_at made n) memo.closed there

  -- a term whose value isn't known isn't listed
  pub memo-absent
      : get_or known n 0 ≡ 0
      → has_term (term_at made n) listed ≡ false
  memo-absent none = memo.marked n within ∙ ap (nat_lt 0) none

  -- one more value
  pub memo-push
      : (value : ℕ)
      → IsGraph made
      → value ≡ value_of rows (term_at made n)
      → 0 < value
      → IsClosed (listed ++ (term_at made n ∷ []))
      → IsMemo made rows (set known n value) (listed ++ (term_at made n ∷ []))
  memo-push value graph is above closed = record {
    room = omega (arith, memo.room, long);
    value = values;
    marked = marks;
    closed = closed;
  }
    where
      long : length (set known n value) ≡ length known
      long = length-set known n value

      values
          : (k : ℕ)
          → k < length (set known n value)
          → 0 < get_or (set known n value) k 0
          → get_or (set known n value) k 0 ≡ value_of rows (term_at made k)
      values k inside positive = elim (cases_eq k n) [
        | inl one ↦ rw (one, get_or-set_same known n value 0 within) is
        | inr other ↦
            let kept = get_or-set_other known n k value 0 other in
            kept ∙ memo.value k (omega (arith, inside, long)) (rw kept at positive)
      ]

      listed_now
          : (k : ℕ)
          → has_term (term_at made k) (listed ++ (term_at made n ∷ []))
          ≡ (has_term (term_at made k) listed || same_term (term_at made k) (term_at made n))
      listed_now k =
          list_any-append (same_term (term_at made k)) listed (term_at made n ∷ [])
          ∙ ap (λ z. has_term (term_at made k) listed || z)
          (or-false (same_term (term_at made k) (term_at made n)))

      apart : (k : ℕ) → k < length known → k ≢ n → same_term (term_at made k) (term_at made n) ≡ false
      apart k inside other = elim (cases_Bool (same_term (term_at made k) (term_at made n))) [
        | inl one ↦
            let alike = same_term-true (term_at made k) (term_at made n) one in
            absurd (other (graph.different k n (omega (arith, inside, memo.room))
            (omega (arith, within, memo.room)) alike))
        | inr no_one ↦ no_one
      ]

      marks
          : (k : ℕ)
          → k < length (set known n value)
          → has_term (term_at made k) (listed ++ (term_at made n ∷ [])) ≡ nat_lt 0
          (get_or (set known n value) k 0)
      marks k inside = elim (cases_eq k n) [
        | inl one ↦
            rw one (listed_now n
            ∙ or_right (has_term (term_at made n) listed) _ (same_term-self (term_at made n))
            ∙ sym (ap (nat_lt 0) (get_or-set_same known n value 0 within) ∙ lt-ltb 0 value above))
        | inr other ↦
            let in_known : k < length known = omega (arith, inside, long) in
            listed_now k
            ∙ ap (λ z. has_term (term_at made k) listed || z) (apart k in_known other)
            ∙ or-false (has_term (term_at made k) listed)
            ∙ memo.marked k in_known
            ∙ sym (ap (nat_lt 0) (get_or-set_other known n k value 0 other))
      ]

-- ---- A product ----

module _
    (made : List Term) (rows : List (List ℕ)) (known : List ℕ) (listed : List Term) (n a b : ℕ)
    (graph : IsGraph made)
    (memo : IsMemo made rows known listed)
    (within : n < length known)
    (k : ℕ) (at : k ≡ n) (none : get_or known k 0 ≡ 0)
    (is : term_at made n ≡ multiply (term_at made a) (term_at made b)) where
  abbrev behind : List Term
  behind = add_new (add_new listed (products (term_at made a))) (products (term_at made b))

  -- the product is put behind those of its parts
  added : add_new listed (products (term_at made n)) ≡ behind ++ (term_at made n ∷ [])
  added =
      let absent = memo-absent made rows known listed memo n within (rw at at none) in
      rw is (add_new-product listed (term_at made a) (term_at made b) (rw is at absent))

  -- so they are one more
  pub count-more : length (add_new listed (products (term_at made n))) ≡ length behind + 1
  count-more = ap length added ∙ length-append behind (term_at made n ∷ [])

  -- and its value is known
  pub memo-more
      : (later : List ℕ) (value j : ℕ)
      → j ≡ n
      → IsMemo made rows later behind
      → length later ≡ length known
      → value ≡ value_of rows (term_at made n)
      → 0 < value
      → IsMemo made rows (set later j value) (add_new listed (products (term_at made n)))
  memo-more later value j place parts long value_is above =
      let closed = IsClosed-add_new listed (term_at made n) memo.closed in
      rw (place, added) (memo-push made rows later behind parts n
      (omega (arith, within, long)) value graph value_is above
      (rw added at closed))
