-- The places of the numbers of a listing.
--
-- A number that isn't listed yet is put behind the others (`IsPlaced-push`). In the whole listing the place
-- of a number is that of its term (`place-number_in`).
use Rattle.std.proofs.Common.{◌≡◌, ℕ, zero, suc, ◌+◌, ◌-◌, ◌<◌, ◌≤◌, inl, inr, ◌||◌, true, not, nat_eq, List, [], ◌∷◌, ◌++◌, length, length-append, map, get_or, slice_set, slice_index_or, refl, sym, ap, ◌∙◌, subst, true≢false, arith}
use Rattle.std.proofs.Math.Bool.{or-true}
use Rattle.std.proofs.lemmas.Bool.{cases_eq, cases_lt, eq-eqb, not-false, not_from_true}
use Rattle.std.proofs.lemmas.List.{get_or_append_left, get_or_push, get_or_default, get_or-map, get_or-set_same, get_or-set_other, length-map, length-set}
use Rattle.std.proofs.lemmas.List.Folds.{list_any_at}
use Rattle.std.proofs.lemmas.List.Sums.{prefix_len_passes, prefix_len_stops}
use Rattle.std.proofs.lemmas.Map.Steps.{le-length_from_below}
use Rattle.std.specs.List.{list_any, prefix_len}
use Rattle.ld_term.specs.Terms.{Term, variable}
use Rattle.term_graph.specs.TermLists.{term_at, IsGraph}
use Rattle.term_graph.specs.Asks.{same_term, has_term}
use Rattle.term_graph.specs.Listings.{distinct_products, number_in, IsListing}
use Rattle.term_graph.specs.Places.{place_of, IsPlaced}
use Rattle.term_graph.proofs.AskLemmas.{same_term-self, same_term-true, has_term-Stands, Stands-has_term}
use Rattle.term_graph.proofs.ListingLemmas.{products-variable, distinct_products-from}

-- ---- Numbers ----

-- A place of a number, counted from 0.
pub record IsNumberAt (numbers : List ℕ) (n : ℕ) : Type 0 where
  pub at : ℕ
  pub within : at < length numbers
  pub is : slice_index_or numbers at 0 ≡ n

-- the term at a place of a list of numbers
map-term_at
    : (made : List Term) (numbers : List ℕ) (k : ℕ) (d : Term)
    → k < length numbers
    → get_or (map (term_at made) numbers) k d ≡ term_at made (slice_index_or numbers k 0)
map-term_at made numbers k d within = get_or-map (term_at made) numbers k 0 d within

-- the term of a number that is listed is listed
pub number-has_term
    : (made : List Term) (numbers : List ℕ) (n : ℕ)
    → IsNumberAt numbers n
    → has_term (term_at made n) (map (term_at made) numbers) ≡ true
number-has_term made numbers n at =
    let size = length-map numbers (term_at made) in
    Stands-has_term (term_at made n) (map (term_at made) numbers) (record {
      number = at.at;
      within = omega (arith, at.within, size);
      is = map-term_at made numbers at.at variable at.within ∙ ap (term_at made) at.is;
    })

-- and the other way round
pub has_term-number
    : (made : List Term) (numbers : List ℕ) (n : ℕ)
    → IsGraph made
    → ((k : ℕ) → k < length numbers → slice_index_or numbers k 0 < length made)
    → n < length made
    → has_term (term_at made n) (map (term_at made) numbers) ≡ true
    → IsNumberAt numbers n
has_term-number made numbers n graph each within there =
    let size = length-map numbers (term_at made) in
    let stands = has_term-Stands (term_at made n) (map (term_at made) numbers) there in
    let low : stands.number < length numbers = omega (arith, stands.within, size) in
    record {
      at = stands.number;
      within = low;
      is = graph.different (slice_index_or numbers stands.number 0) n (each stands.number low) within
          (sym (map-term_at made numbers stands.number variable low) ∙ stands.is);
    }

-- ---- Places ----

-- a number with a place is listed
pub placed-number
    : (numbers places : List ℕ) (n : ℕ)
    → IsPlaced numbers places
    → n < length places
    → 0 < place_of places n
    → IsNumberAt numbers n
placed-number numbers places n placed within above = record {
  at = place_of places n - 1;
  within = omega (arith, above, placed.few n within);
  is = placed.number n within above;
}

-- the place of a number that is listed
pub number-placed
    : (numbers places : List ℕ) (n : ℕ)
    → IsPlaced numbers places
    → (at : IsNumberAt numbers n)
    → place_of places n ≡ at.at + 1
number-placed numbers places n placed at = ap (place_of places) (sym at.is) ∙ placed.place at.at at.within

-- the numbers differ
numbers-apart
    : (numbers places : List ℕ) (i j : ℕ)
    → IsPlaced numbers places
    → i < length numbers
    → j < length numbers
    → slice_index_or numbers i 0 ≡ slice_index_or numbers j 0
    → i ≡ j
numbers-apart numbers places i j placed in_i in_j one =
    let places_one = ap (place_of places) one in
    omega (arith, places_one, placed.place i in_i, placed.place j in_j)

-- each number up to their count is a place, or 0
placed-each
    : (numbers places : List ℕ) (q : ℕ)
    → IsPlaced numbers places
    → q < length numbers + 1
    → list_any (nat_eq q) (0 ∷ places) ≡ true
placed-each numbers places zero placed low = refl
placed-each numbers places (suc k) placed low =
    let within : k < length numbers = omega (arith, low) in
    let place : suc k ≡ place_of places (slice_index_or numbers k 0) = omega (arith, placed.place k within) in
    let there = list_any_at (nat_eq (suc k)) places (slice_index_or numbers k 0) 0 (placed.within k within)
    (eq-eqb (suc k) (place_of places (slice_index_or numbers k 0)) place) in
    ap (λ b. nat_eq (suc k) 0 || b) there ∙ or-true (nat_eq (suc k) 0)

-- so they are no more than there are places
pub IsPlaced-few : (numbers places : List ℕ) → IsPlaced numbers places → length numbers ≤ length places
IsPlaced-few numbers places placed =
    let few = le-length_from_below (0 ∷ places) (length numbers + 1)
    (λ q low. placed-each numbers places q placed low) in
    omega (arith, few)

-- A number that isn't listed is put behind the others.
module _
    (numbers places : List ℕ) (a n : ℕ) (placed : IsPlaced numbers places)
    (within : a < length places) (none : place_of places a ≡ 0) (count : n ≡ length numbers + 1) where
  abbrev more : List ℕ
  more = numbers ++ a ∷ []

  abbrev next : List ℕ
  next = slice_set places a n

  -- an old number stays
  old_number : (k : ℕ) → k < length numbers → slice_index_or more k 0 ≡ slice_index_or numbers k 0
  old_number k low = get_or_append_left numbers (a ∷ []) 0 k low

  -- the new number is the last
  new_number : (k : ℕ) → length numbers ≡ k → slice_index_or more k 0 ≡ a
  new_number k end = get_or_push numbers a 0 k end

  -- the place of another number stays
  old_place : (m : ℕ) → (m ≡ a → ⊥) → place_of next m ≡ place_of places m
  old_place m other = get_or-set_other places a m n 0 other

  -- the place of the new number
  new_place : place_of next a ≡ n
  new_place = get_or-set_same places a n 0 within

  -- an old number isn't the new one
  apart : (k : ℕ) → k < length numbers → slice_index_or numbers k 0 ≡ a → ⊥
  apart k low one = let place =
      ap (place_of places) one in absurd (omega (arith, place, none, placed.place k low))

  push-within : (k : ℕ) → k < length more → slice_index_or more k 0 < length next
  push-within k low =
      let size = length-set places a n in
      elim (cases_lt k (length numbers)) [
        | inl old ↦ omega (arith, old_number k old, placed.within k old, size)
        | inr last ↦
            let end : length numbers ≡ k = omega (arith, last, low, length-append numbers (a ∷ [])) in
            omega (arith, new_number k end, within, size)
      ]

  push-place : (k : ℕ) → k < length more → place_of next (slice_index_or more k 0) ≡ k + 1
  push-place k low = elim (cases_lt k (length numbers)) [
    | inl old ↦
        ap (place_of next) (old_number k old)
        ∙ old_place (slice_index_or numbers k 0) (apart k old)
        ∙ placed.place k old
    | inr last ↦
        let end : length numbers ≡ k = omega (arith, last, low, length-append numbers (a ∷ [])) in
        let whole : n ≡ k + 1 = omega (arith, count, end) in
        ap (place_of next) (new_number k end) ∙ new_place ∙ whole
  ]

  push-few : (m : ℕ) → m < length next → place_of next m ≤ length more
  push-few m low =
      let size = length-set places a n in
      let long = length-append numbers (a ∷ []) in
      elim (cases_eq m a) [
        | inl one ↦ omega (arith, ap (place_of next) one, new_place, count, long)
        | inr other ↦ omega (arith, old_place m other, placed.few m (omega (arith, low, size)), long)
      ]

  push-number
      : (m : ℕ)
      → m < length next
      → 0 < place_of next m
      → slice_index_or more (place_of next m - 1) 0 ≡ m
  push-number m low above = elim (cases_eq m a) [
    | inl one ↦
        let place = ap (place_of next) one ∙ new_place in
        new_number (place_of next m - 1) (omega (arith, place, count)) ∙ sym one
    | inr other ↦
        let place = old_place m other in
        let in_places : m < length places = omega (arith, low, length-set places a n) in
        let old_above : 0 < place_of places m = omega (arith, above, place) in
        let old : place_of places m - 1 < length numbers = omega (arith, old_above, placed.few m in_places) in
        ap (λ z. slice_index_or more (z - 1) 0) place
        ∙ old_number (place_of places m - 1) old
        ∙ placed.number m in_places old_above
  ]

  pub IsPlaced-push : IsPlaced (numbers ++ a ∷ []) (slice_set places a n)
  IsPlaced-push = record { within = push-within; place = push-place; few = push-few; number = push-number }

-- ---- The terms of a listing ----

module _ (made : List Term) (root : ℕ) (numbers : List ℕ) (listing : IsListing made root numbers) where
  -- there are as many as numbers
  pub listing-length : length (distinct_products (term_at made root)) ≡ length numbers
  listing-length = ap length (sym listing.terms) ∙ length-map numbers (term_at made)

  -- the term at a place
  pub listing-at
      : (k : ℕ)
      → k < length numbers
      → get_or (distinct_products (term_at made root)) k variable ≡ term_at made (slice_index_or numbers k 0)
  listing-at k low =
      ap (λ z. get_or z k variable) (sym listing.terms) ∙ map-term_at made numbers k variable low

  -- the term of a listed number is listed
  pub listing-has
      : (k : ℕ)
      → k < length numbers
      → has_term (term_at made (slice_index_or numbers k 0)) (distinct_products (term_at made root)) ≡ true
  listing-has k low =
      ap (has_term (term_at made (slice_index_or numbers k 0))) (sym listing.terms)
      ∙ number-has_term made numbers (slice_index_or numbers k 0) (record { at = k; within = low; is = refl })

  -- it is no variable
  pub listing-product
      : (k n : ℕ)
      → k < length numbers
      → n ≡ slice_index_or numbers k 0
      → term_at made n ≡ variable
      → ⊥
  listing-product k n low here is =
      let there = listing-has k low in
      let one = subst (λ z. has_term (term_at made z) (distinct_products (term_at made root)) ≡ true)
      (sym here) there in
      products-variable (term_at made root) (distinct_products-from variable (term_at made root)
      (subst (λ z. has_term z (distinct_products (term_at made root)) ≡ true) is one))

-- ---- The places of a listing ----

module _
    (made : List Term) (root : ℕ) (numbers places : List ℕ) (graph : IsGraph made)
    (listing : IsListing made root numbers) (placed : IsPlaced numbers places)
    (a : ℕ) (within : a < length made)
    (there : has_term (term_at made a) (distinct_products (term_at made root)) ≡ true) where
  abbrev listed : List Term
  listed = distinct_products (term_at made root)

  -- its number is listed
  listed-number : IsNumberAt numbers a
  listed-number =
      has_term-number made numbers a graph (λ k low. listing.within k 0 low) within
      (ap (has_term (term_at made a)) listing.terms ∙ there)

  -- so it has a place
  pub listed-room : a < length places
  listed-room =
      subst (λ z. z < length places) listed-number.is (placed.within listed-number.at listed-number.within)

  abbrev front : ℕ
  front = prefix_len (λ u. not (same_term (term_at made a) u)) listed

  -- the term isn't behind its place
  front-low : front ≤ listed-number.at
  front-low = elim (cases_lt listed-number.at front) [
    | inr low ↦ low
    | inl above ↦
        let passes =
        prefix_len_passes (λ u. not (same_term (term_at made a) u)) listed listed-number.at variable
        above in
        let one = listing-at made root numbers listing listed-number.at listed-number.within
        ∙ ap (term_at made) listed-number.is in
        let same : same_term (term_at made a) (get_or listed listed-number.at variable) ≡ true =
        subst (λ z. same_term (term_at made a) z ≡ true) (sym one) (same_term-self (term_at made a)) in
        absurd (true≢false (sym passes ∙ not_from_true _ same))
  ]

  -- and no other place has it
  front-is : front ≡ listed-number.at
  front-is = elim (cases_lt front listed-number.at) [
    | inr above ↦ omega (arith, above, front-low)
    | inl below ↦
        let low : front < length numbers = omega (arith, below, listed-number.within) in
        let stops = prefix_len_stops (λ u. not (same_term (term_at made a) u)) listed variable
        (omega (arith, low, listing-length made root numbers listing)) in
        let same = same_term-true (term_at made a) (get_or listed front variable) (not-false _ stops) in
        let one = graph.different (slice_index_or numbers front 0) a (listing.within front 0 low) within
        (sym (same ∙ listing-at made root numbers listing front low)) in
        omega (
          arith,
          numbers-apart numbers places front listed-number.at placed low listed-number.within
              (one ∙ sym listed-number.is),
        )
  ]

  -- the place of the number is that of its term
  pub place-number_in : place_of places a ≡ number_in listed (term_at made a)
  place-number_in =
      let place = number-placed numbers places a placed listed-number in
      omega (arith, place, front-is)

-- an element that was looked up is a place
pub found-place
    : (places : List ℕ) (x at a : ℕ)
    → x ≡ get_or places at x
    → at ≡ a
    → a < length places
    → x ≡ place_of places a
found-place places x at a is here low =
    is ∙ ap (λ z. get_or places z x) here ∙ get_or_default places a x 0 low
