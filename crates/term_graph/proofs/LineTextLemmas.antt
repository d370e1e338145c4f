-- The lines of a listing, cut where the calls that put them are cut.
use Rattle.std.proofs.Common.{◌≡◌, ℕ, ◌+◌, ◌<◌, ◌≤◌, true, List, [], ◌∷◌, ◌++◌, length, length-append, take, drop, get_or, slice_index_or, codes, decimal, sym, ap, ◌∙◌, subst, append_assoc, append-nil, take-append-drop, arith}
use Rattle.std.proofs.lemmas.List.{take_more, length-take}
use Rattle.wb_base.specs.Lines.{line}
use Rattle.ld_term.specs.Terms.{Term, variable, multiply}
use Rattle.term_graph.specs.Listings.{distinct_products, name_text, product_line, product_lines, listing_text, IsListing}
use Rattle.term_graph.specs.Places.{parts_text, line_at}
use Rattle.term_graph.specs.Asks.{has_term}
use Rattle.term_graph.specs.TermLists.{term_at}
use Rattle.term_graph.proofs.PlaceLemmas.{listing-at, listing-has}

-- the line of a product is its front, the names of its parts, and the end
product_line-parts
    : (listed : List Term) (k : ℕ) (s t u : Term)
    → s ≡ multiply t u
    → product_line listed k s
    ≡ (((codes "t" ++ decimal k) ++ codes " = (") ++ parts_text listed t u) ++ (41 ∷ 10 ∷ [])
product_line-parts listed k s t u is =
    ap (product_line listed k) is
    ∙ cut (codes "t") (decimal k) (codes " = (") (name_text listed t) (codes "*") (name_text listed u)
  where
    cut
        : (a b c d e f : List ℕ)
        → line (a ++ (b ++ (c ++ (d ++ (e ++ (f ++ (41 ∷ [])))))))
        ≡ (((a ++ b) ++ c) ++ (d ++ (e ++ f))) ++ (41 ∷ 10 ∷ [])
    cut a b c d e f = simp append_assoc

module _
    (made : List Term) (root : ℕ) (numbers : List ℕ) (listing : IsListing made root numbers)
    (k n : ℕ) (within : k < length numbers) (here : n ≡ slice_index_or numbers k 0)
    (t u : Term) (product : term_at made n ≡ multiply t u) where
  -- a product that stands at a place is listed
  pub line_at-listed : has_term (multiply t u) (distinct_products (term_at made root)) ≡ true
  line_at-listed =
      subst (λ z. has_term z (distinct_products (term_at made root)) ≡ true)
      (ap (term_at made) (sym here) ∙ product) (listing-has made root numbers listing k within)

  -- and has this line
  pub line_at-parts
      : line_at (distinct_products (term_at made root)) k
      ≡ (((codes "t" ++ decimal (k + 1)) ++ codes " = (")
      ++ parts_text (distinct_products (term_at made root)) t u) ++ (41 ∷ 10 ∷ [])
  line_at-parts =
      product_line-parts (distinct_products (term_at made root)) (k + 1) _ t u
      (listing-at made root numbers listing k within ∙ ap (term_at made) (sym here) ∙ product)

-- the lines of two lists, one behind the other
product_lines-append
    : (listed : List Term) (k : ℕ) (ts us : List Term)
    → product_lines listed k (ts ++ us) ≡ product_lines listed k ts ++ product_lines listed (k + length ts) us
product_lines-append listed k [] us =
    let same : k ≡ k + length {A = Term} [] = omega arith in ap (λ z. product_lines listed z us) same
product_lines-append listed k (t ∷ ts) us =
    let next : k + 1 + length ts ≡ k + length (t ∷ ts) = omega arith in
    ap (λ z. product_line listed k t ++ z)
    (product_lines-append listed (k + 1) ts us
    ∙ ap (λ z. product_lines listed (k + 1) ts ++ product_lines listed z us) next)
    ∙ sym (append_assoc (product_line listed k t) (product_lines listed (k + 1) ts)
    (product_lines listed (k + length (t ∷ ts)) us))

module _ (listed : List Term) (k : ℕ) (within : k < length listed) where
  -- the lines before a place, and the one there
  pub product_lines-more
      : product_lines listed 1 (take (k + 1) listed)
      ≡ product_lines listed 1 (take k listed) ++ line_at listed k
  product_lines-more =
      let size : 1 + length (take k listed) ≡ k + 1 = omega (arith, within, length-take k listed) in
      ap (product_lines listed 1) (take_more listed k variable within)
      ∙ product_lines-append listed 1 (take k listed) (get_or listed k variable ∷ [])
      ∙ ap (λ z. product_lines listed 1 (take k listed) ++ z)
      (ap (λ z. product_lines listed z (get_or listed k variable ∷ [])) size ∙ append-nil (line_at listed k))

  -- and those behind them
  pub product_lines-split
      : product_lines listed 1 listed
      ≡ (product_lines listed 1 (take k listed) ++ line_at listed k)
      ++ product_lines listed (1 + length (take (k + 1) listed)) (drop (k + 1) listed)
  product_lines-split =
      ap (product_lines listed 1) (sym (take-append-drop (k + 1) listed))
      ∙ product_lines-append listed 1 (take (k + 1) listed) (drop (k + 1) listed)
      ∙ ap (λ z. z ++ product_lines listed (1 + length (take (k + 1) listed)) (drop (k + 1) listed))
      product_lines-more

  -- the lines up to a place are no longer than all
  pub length-product_lines
      : length (product_lines listed 1 (take k listed)) + length (line_at listed k)
      ≤ length (product_lines listed 1 listed)
  length-product_lines =
      let front = product_lines listed 1 (take k listed) in
      let rest = product_lines listed (1 + length (take (k + 1) listed)) (drop (k + 1) listed) in
      omega (
        arith,
        ap length product_lines-split,
        length-append (front ++ line_at listed k) rest,
        length-append front (line_at listed k),
      )

-- the text is the lines of the products, the name of the term, and LF
pub listing_text-parts
    : (t : Term)
    → listing_text t
    ≡ (product_lines (distinct_products t) 1 (distinct_products t) ++ name_text (distinct_products t) t)
    ++ 10 ∷ []
unfolding listing_text
listing_text-parts t =
    sym (append_assoc (product_lines (distinct_products t) 1 (distinct_products t))
    (name_text (distinct_products t) t) (10 ∷ []))
