-- How a listing is made.
--
-- Nothing is where a term is listed (`begun-listed`); where it isn't,
-- its product is put behind those of its parts (`product-listed`, `product-begun`). With all products of a
-- term the listing is whole (`begun-whole`).
use Rattle.std.proofs.Common.{◌≡◌, ℕ, ◌+◌, ◌<◌, ◌≤◌, inl, inr, false, List, [], ◌∷◌, ◌++◌, All, length, length-append, map, take, drop, slice_set, slice_index_or, sym, ap, ◌∙◌, subst, true≢false, arith}
use Rattle.std.proofs.Math.Seq.{take-append_seam}
use Rattle.std.proofs.lemmas.Bool.{cases_Bool, cases_lt}
use Rattle.std.proofs.lemmas.List.{get_or_default, length-map, length-set, map-append}
use Rattle.ld_term.specs.Terms.{Term, multiply}
use Rattle.term_graph.specs.TermLists.{term_at}
use Rattle.term_graph.specs.Asks.{has_term}
use Rattle.term_graph.specs.Listings.{IsClosed, products, add_new, distinct_products, IsListing}
use Rattle.term_graph.specs.Places.{place_of, IsPlaced, IsBegun}
use Rattle.term_graph.specs.declared.TheConstants.{MAX_NODES}
use Rattle.term_graph.proofs.ListingLemmas.{add_new-listed, parts-absent, add_new-product, IsClosed-add_new}
use Rattle.term_graph.proofs.ProductLemmas.{distinct_products-few}
use Rattle.term_graph.proofs.PlaceLemmas.{number-has_term, has_term-number, placed-number, number-placed, IsPlaced-few, IsPlaced-push}

module _ (made : List Term) (numbers places : List ℕ) (begun : IsBegun made numbers places) (a : ℕ)
    (within : a < length made) where
  begun-each : (k : ℕ) → k < length numbers → slice_index_or numbers k 0 < length made
  begun-each k low = omega (arith, begun.placed.within k low, begun.room)

  -- a term of which the number has a place is listed, and its products are
  pub begun-listed
      : 0 < place_of places a
      → map (term_at made) numbers ≡ add_new (map (term_at made) numbers) (products (term_at made a))
  begun-listed above =
      let at = placed-number numbers places a begun.placed (omega (arith, within, begun.room)) above in
      sym (add_new-listed (map (term_at made) numbers) (term_at made a) begun.closed
      (number-has_term made numbers a at))

  -- a term of which the number has none isn't
  begun-absent : place_of places a ≡ 0 → has_term (term_at made a) (map (term_at made) numbers) ≡ false
  begun-absent none = elim (cases_Bool (has_term (term_at made a) (map (term_at made) numbers))) [
    | inl there ↦
        let at = has_term-number made numbers a begun.graph begun-each within there in
        absurd (omega (arith, none, number-placed numbers places a begun.placed at))
    | inr absent ↦ absent
  ]

  -- and the number of a term that isn't listed has none
  begun-none : has_term (term_at made a) (map (term_at made) numbers) ≡ false → place_of places a ≡ 0
  begun-none absent = elim (cases_lt 0 (place_of places a)) [
    | inl above ↦
        let at = placed-number numbers places a begun.placed (omega (arith, within, begun.room)) above in
        absurd (true≢false (sym (number-has_term made numbers a at) ∙ absent))
    | inr low ↦ omega (arith, low)
  ]

-- A product that isn't listed is put behind the products of its parts.
module _
    (made : List Term) (old mid last new before places : List ℕ) (a l r n : ℕ)
    (within : a < length made) (none : place_of before a ≡ 0)
    (product : term_at made a ≡ multiply (term_at made l) (term_at made r))
    (begun : IsBegun made old before)
    (first : map (term_at made) mid ≡ add_new (map (term_at made) old) (products (term_at made l)))
    (done : IsBegun made last places)
    (second : map (term_at made) last ≡ add_new (map (term_at made) mid) (products (term_at made r)))
    (pushed : new ≡ last ++ a ∷ []) (count : n ≡ length new) where
  abbrev terms : List Term
  terms = map (term_at made) old

  -- it isn't there before
  product-absent : has_term (multiply (term_at made l) (term_at made r)) terms ≡ false
  product-absent =
      subst (λ z. has_term z terms ≡ false) product (begun-absent made old before begun a within none)

  -- the products of its parts are
  parts-listed
      : map (term_at made) last
      ≡ add_new (add_new terms (products (term_at made l))) (products (term_at made r))
  parts-listed = second ∙ ap (λ z. add_new z (products (term_at made r))) first

  -- then it is put
  pub product-listed : map (term_at made) new ≡ add_new terms (products (term_at made a))
  product-listed =
      ap (map (term_at made)) pushed
      ∙ map-append (term_at made) last (a ∷ [])
      ∙ ap (λ z. z ++ term_at made a ∷ []) parts-listed
      ∙ ap (λ z. add_new (add_new terms (products (term_at made l))) (products (term_at made r)) ++ z ∷ [])
      product
      ∙ sym (add_new-product terms (term_at made l) (term_at made r) product-absent)
      ∙ ap (λ z. add_new terms (products z)) (sym product)

  -- it isn't there before it is put
  still-absent : has_term (term_at made a) (map (term_at made) last) ≡ false
  still-absent =
      ap (has_term (term_at made a)) parts-listed
      ∙ ap (λ z. has_term z (add_new (add_new terms (products (term_at made l))) (products (term_at made r))))
      product
      ∙ parts-absent terms (term_at made l) (term_at made r) product-absent

  product-placed : IsPlaced new (slice_set places a n)
  product-placed =
      let room : a < length places = omega (arith, within, done.room) in
      let next : n ≡ length last + 1 = omega (arith, count, ap length pushed, length-append last (a ∷ [])) in
      subst (λ z. IsPlaced z (slice_set places a n)) (sym pushed)
      (IsPlaced-push last places a n done.placed room (begun-none made last places done a within still-absent)
      next)

  -- and its place is written
  pub product-begun : (at : ℕ) → at ≡ a → IsBegun made new (slice_set places at n)
  product-begun at here = record {
    graph = done.graph;
    room = length-set places at n ∙ done.room;
    placed = subst (λ z. IsPlaced new (slice_set places z n)) (sym here) product-placed;
    closed = subst IsClosed (sym product-listed) (IsClosed-add_new terms (term_at made a) begun.closed);
  }

-- one number more than are listed is small
pub begun-small
    : (made : List Term) (last new places : List ℕ) (a n : ℕ)
    → IsBegun made last places
    → new ≡ last ++ a ∷ []
    → n ≡ length new
    → n ≤ MAX_NODES + 2
begun-small made last new places a n done pushed count =
    let few = IsPlaced-few last places done.placed in
    omega (arith, few, done.room, done.graph.few, count, ap length pushed, length-append last (a ∷ []))

-- the places that were written back
pub begun-placed
    : (made : List Term) (numbers places before : List ℕ) (n : ℕ)
    → IsBegun made numbers places
    → n ≡ length made
    → IsPlaced numbers (take n (places ++ drop (length places) before))
begun-placed made numbers places before n begun size =
    let whole : n ≡ length places = size ∙ sym begun.room in
    subst (IsPlaced numbers)
    (sym (ap (λ z. take z (places ++ drop (length places) before)) whole
    ∙ take-append_seam places (drop (length places) before))) begun.placed

-- A listing of all products of a number.
module _
    (made : List Term) (numbers places : List ℕ) (root : ℕ) (within : root < length made)
    (begun : IsBegun made numbers places) (none : List ℕ) (empty : none ≡ [])
    (listed : map (term_at made) numbers ≡ add_new (map (term_at made) none) (products (term_at made root)))
  where
    -- has the terms
    begun-terms : map (term_at made) numbers ≡ distinct_products (term_at made root)
    unfolding distinct_products
    begun-terms = listed ∙ ap (λ z. add_new (map (term_at made) z) (products (term_at made root))) empty

    -- and the numbers
    begun-within : All (λ n. n < length made) numbers
    begun-within k d low =
        let each = begun-each made numbers places begun root within k low in
        omega (arith, get_or_default numbers k d 0 low, each)

    -- so it is whole
    pub begun-whole : IsListing made root numbers
    begun-whole = record { root_within = within; within = begun-within; terms = begun-terms }

    -- and has no more numbers than a graph may have products
    pub begun-few : length numbers ≤ MAX_NODES
    begun-few =
        let few = distinct_products-few made begun.graph root within in
        omega (arith, few, begun.graph.few, length-map numbers (term_at made), ap length begun-terms)
