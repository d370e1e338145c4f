-- A graph's entries, and one more beside its pair (`entries-push`).
use Rattle.std.proofs.Common.{◌≡◌, ℕ, ◌<◌, ◌≤◌, false, List, ◌∷◌, [], ◌++◌, All, length, sym, ap, ◌∙◌, subst, refl, arith, get_or}
use Rattle.std.proofs.lemmas.List.{get_or-map, map-append, length-map}
use Rattle.std.proofs.lemmas.List.Elements.{All-map, All-push}
use Rattle.std.specs.List.{list_any}
use Rattle.indexmap.specs.IndexSet.{insert_key}
use Rattle.ld_term.specs.Terms.{Term, variable, multiply, height}
use Rattle.ld_term.specs.declared.TheConstants.{MAX_HEIGHT}
use Rattle.term_graph.specs.TermLists.{term_at, product_count}
use Rattle.term_graph.specs.Asks.{has_term}
use Rattle.term_graph.specs.Nodes.{term_of, terms_of, IsEntry, IsKept}
use Rattle.term_graph.specs.declared.TheConstants.{MAX_NODES}
use Rattle.term_graph.specs.declared.node.Entry.{Entry}
use Rattle.term_graph.proofs.GraphLemmas.{same_pair, product-listed, IsKept-push}

-- an entry's term isn't too high
IsEntry-low : (e : Entry) → IsEntry e → height (term_of e.tree.value) ≤ MAX_HEIGHT
IsEntry-low e is = rw (← is.height_is) is.low

-- no term of a graph is too high
pub entries-low
    : (entries : List Entry)
    → All IsEntry entries
    → All (λ t. height t ≤ MAX_HEIGHT) (terms_of entries)
entries-low entries each =
    All-map (λ t. height t ≤ MAX_HEIGHT) (λ (e : Entry). term_of e.tree.value) entries
    (λ k d within. IsEntry-low (get_or entries k d) (each k d within))

-- the term of an entry is that of its number
pub entry-term
    : (entries : List Entry) (old : List Term) (n k : ℕ) (e : Entry)
    → terms_of entries ≡ old
    → n < length old
    → k ≡ n
    → e ≡ get_or entries k e
    → term_of e.tree.value ≡ term_at old n
entry-term entries old n k e view within place is =
    let size = length-map entries (λ (x : Entry). term_of x.tree.value) in
    let there : k < length entries = omega (arith, within, place, ap length view, size) in
    ap (λ (x : Entry). term_of x.tree.value) is
    ∙ sym (get_or-map (λ (x : Entry). term_of x.tree.value) entries k e variable there)
    ∙ ap (term_at (terms_of entries)) place ∙ ap (λ z. term_at z n) view

-- a set takes a new pair behind the others
insert_key-new
    : (pairs : List (ℕ × ℕ)) (p : ℕ × ℕ)
    → list_any (same_pair p) pairs ≡ false
    → insert_key same_pair pairs p ≡ pairs ++ p ∷ []
insert_key-new pairs p absent = rw absent refl

-- an entry is added beside its pair
pub entries-push
    : (pairs : List (ℕ × ℕ)) (entries : List Entry) (old : List Term) (a b : ℕ) (p : ℕ × ℕ) (e : Entry)
    (next : List (ℕ × ℕ)) (more : List Entry)
    → IsKept pairs (terms_of entries)
    → All IsEntry entries
    → terms_of entries ≡ old
    → a < length old
    → b < length old
    → product_count old < MAX_NODES
    → has_term (multiply (term_at old a) (term_at old b)) old ≡ false
    → p ≡ (a, b)
    → term_of e.tree.value ≡ multiply (term_at old a) (term_at old b)
    → IsEntry e
    → next ≡ insert_key same_pair pairs p
    → more ≡ entries ++ e ∷ []
    → IsKept next (terms_of more) × All IsEntry more
entries-push pairs entries old a b p e next more kept each view in_a in_b few new key term entry pairs_are
    entries_are =
    let before : IsKept pairs old = subst (IsKept pairs) view kept in
    let absent : list_any (same_pair (a, b)) pairs ≡ false =
    sym (product-listed pairs old before a b in_a in_b) ∙ new in
    let next_is : pairs ++ (a, b) ∷ [] ≡ next =
    sym (pairs_are ∙ ap (insert_key same_pair pairs) key ∙ insert_key-new pairs (a, b) absent) in
    let terms_are : old ++ term_of e.tree.value ∷ [] ≡ terms_of more =
    sym (ap terms_of entries_are ∙ map-append (λ (x : Entry). term_of x.tree.value) entries (e ∷ [])
    ∙ ap (λ z. z ++ term_of e.tree.value ∷ []) view) in
    let pushed = IsKept-push pairs old before a b in_a in_b (term_of e.tree.value) term absent few in (
      subst (λ z. IsKept next z) terms_are
          (subst (λ z. IsKept z (old ++ term_of e.tree.value ∷ [])) next_is pushed),
      subst (λ z. All IsEntry z) (sym entries_are) (All-push IsEntry entries e each entry),
    )
