-- Requests that a graph grants, since they are few and none is too high.
--
-- A new graph grants what a term without names asks for, if the term is no higher and has no more products
-- than a graph may have (`text_requests-granted`); then the term is made (`meaning-as_term`).
use Rattle.std.proofs.Common.{◌≡◌, ℕ, ◌+◌, ◌<◌, ◌≤◌, Bool, true, false, List, [], ◌∷◌, ◌++◌, length, length-append, refl, ap, ap₂, ◌∙◌, arith}
use Rattle.ld_term.specs.Terms.{Term, variable, multiply, height, leaf_count}
use Rattle.ld_term.specs.Written.{Written, leaf, named, times, written_height, written_products}
use Rattle.ld_term.specs.StrictTexts.{as_term}
use Rattle.ld_term.specs.declared.TheConstants.{MAX_HEIGHT}
use Rattle.term_graph.specs.Asks.{has_term, answered, ask, ask_all}
use Rattle.term_graph.specs.Requests.{meaning, text_requests}
use Rattle.term_graph.specs.declared.TheConstants.{MAX_NODES}
use Rattle.term_graph.proofs.AskLemmas.{ask-there, ask-new}

-- ---- Few and low requests ----

-- None of these terms is higher than n.
abbrev AreLow : ℕ → List Term → Type 0
AreLow n [] = Unit {0}
AreLow n (t ∷ ts) = (height t ≤ n) × AreLow n ts

-- the same of two lists
AreLow-append : (n : ℕ) (ts us : List Term) → AreLow n ts → AreLow n us → AreLow n (ts ++ us)
AreLow-append n [] us first second = second
AreLow-append n (t ∷ ts) us first second = (first.0, AreLow-append n ts us first.1 second)

-- requests are granted where there is room for all of them and none is too high
ask_all-granted
    : (requests terms : List Term)
    → AreLow MAX_HEIGHT requests
    → 0 < length terms
    → length terms + length requests ≤ MAX_NODES + 1
    → (made : List Term) × (ask_all (answered terms) requests ≡ answered made)
ask_all-granted [] terms low some few = (terms, refl)
ask_all-granted (t ∷ requests) terms low some few =
    next (has_term t terms) refl (λ more some few. ask_all-granted requests more low.1 some few)
  where
    next
        : (there : Bool)
        → has_term t terms ≡ there
        → ((more : List Term) → 0 < length more → length more + length requests ≤ MAX_NODES + 1
        → (made : List Term) × (ask_all (answered more) requests ≡ answered made))
        → (made : List Term) × (ask_all (ask terms t) requests ≡ answered made)
    next true there others =
        let (made, is) = others terms some (omega (arith, few)) in
        (made, ap (λ asked. ask_all asked requests) (ask-there terms t there) ∙ is)
    next false new others =
        let longer : length (terms ++ t ∷ []) ≡ length terms + 1 = length-append terms (t ∷ []) in
        let (made, is) = others (terms ++ t ∷ []) (omega (arith, longer)) (omega (arith, longer, few)) in (
          made,
          ap (λ asked. ask_all asked requests) (ask-new terms t new low.0 (omega (arith, some, few))) ∙ is,
        )

-- ---- What a term without names asks for ----

-- a term without names is made as it is written
pub meaning-as_term : (w : Written) → meaning [] w ≡ as_term w
meaning-as_term leaf = refl
meaning-as_term (named name place) = refl
meaning-as_term (times a b) = ap₂ (λ t u. multiply t u) (meaning-as_term a) (meaning-as_term b)

-- it is as high as it is written
pub height-as_term : (w : Written) → height (as_term w) ≡ written_height w
height-as_term leaf = refl
height-as_term (named name place) = refl
height-as_term (times a b) = omega (arith, height-as_term a, height-as_term b)

-- and has one leaf more than products
pub leaf_count-as_term : (w : Written) → leaf_count (as_term w) ≡ written_products w + 1
leaf_count-as_term leaf = refl
leaf_count-as_term (named name place) = refl
leaf_count-as_term (times a b) = omega (arith, leaf_count-as_term a, leaf_count-as_term b)

-- it asks for as many products as it has
length-text_requests : (w : Written) → length (text_requests [] w) ≡ written_products w
length-text_requests leaf = refl
length-text_requests (named name place) = refl
length-text_requests (times a b) =
    let own : List Term = multiply (meaning [] a) (meaning [] b) ∷ [] in
    omega (
      arith,
      length-text_requests a,
      length-text_requests b,
      length-append (text_requests [] b) own,
      length-append (text_requests [] a) (text_requests [] b ++ own),
    )

-- none of which is higher than it
AreLow-text_requests : (n : ℕ) (w : Written) → written_height w ≤ n → AreLow n (text_requests [] w)
AreLow-text_requests n leaf low = tt
AreLow-text_requests n (named name place) low = tt
AreLow-text_requests n (times a b) low =
    let high : height (meaning [] (times a b)) ≡ written_height (times a b) =
    ap height (meaning-as_term (times a b)) ∙ height-as_term (times a b) in
    AreLow-append n (text_requests [] a) _ (AreLow-text_requests n a (omega arith))
    (AreLow-append n (text_requests [] b) _ (AreLow-text_requests n b (omega arith))
    (omega (arith, high), tt))

-- a new graph grants what a small term asks for
pub text_requests-granted
    : (w : Written)
    → written_height w ≤ MAX_HEIGHT
    → written_products w ≤ MAX_NODES
    → (made : List Term) × (ask_all (answered (variable ∷ [])) (text_requests [] w) ≡ answered made)
text_requests-granted w low few =
    ask_all-granted (text_requests [] w) (variable ∷ []) (AreLow-text_requests MAX_HEIGHT w low) (omega arith)
    (omega (arith, few, length-text_requests w))
