-- Requests that a new graph grants, since few terms are asked for and none is too high.
--
-- What a graph is asked for comes from a list of low terms that has no more of them than a graph may have: so
-- it is granted, however often each is asked for (`ask_all-room`). Such a list are the requests themselves,
-- where they are few (`requests-granted`), and the terms of a graph (`graph-granted`).
use Rattle.std.proofs.Common.{◌≡◌, ◌+◌, ◌<◌, ◌≤◌, inl, inr, Bool, true, false, List, [], ◌∷◌, ◌++◌, length, length-append, refl, sym, ap, ◌∙◌, subst, true≢false, arith}
use Rattle.std.specs.List.{IsDistinct, AllByRecursion}
use Rattle.std.proofs.lemmas.Bool.{cases_Bool}
use Rattle.std.proofs.lemmas.Map.Keys.{IsDistinct-push}
use Rattle.std.proofs.lemmas.Map.Made.{length-le_from_is_member}
use Rattle.ld_term.specs.Terms.{Term, variable, height}
use Rattle.ld_term.specs.declared.TheConstants.{MAX_HEIGHT}
use Rattle.term_graph.specs.TermLists.{IsGraph}
use Rattle.term_graph.specs.Asks.{same_term, has_term, answered, ask, ask_all}
use Rattle.term_graph.specs.declared.TheConstants.{MAX_NODES}
use Rattle.term_graph.proofs.AskLemmas.{same_term-self, same_term-true, has_term-at, has_term-Stands, ask-there, ask-new}
use Rattle.term_graph.proofs.ListingLemmas.{has_term-either, has_term-one, same_term-IsEquivalence}

-- ---- Room ----

-- A list with the variable, with no more terms than a graph, and none that is too high.
pub record IsRoom (terms : List Term) : Type 0 where
  pub some : has_term variable terms ≡ true
  pub few : length terms ≤ MAX_NODES + 1
  pub low : (t : Term) → has_term t terms ≡ true → height t ≤ MAX_HEIGHT

-- Each term of the first list is in the second.
abbrev pub AreIn : List Term → List Term → Type 0
AreIn ts room = (t : Term) → has_term t ts ≡ true → has_term t room ≡ true

-- Some terms of a room, of which no two are the same.
record Fits (terms room : List Term) : Type 0 where
  some : 0 < length terms
  distinct : IsDistinct same_term terms
  within : AreIn terms room

-- one more
Fits-push
    : (terms room : List Term) (t : Term)
    → Fits terms room
    → has_term t terms ≡ false
    → has_term t room ≡ true
    → Fits (terms ++ t ∷ []) room
Fits-push terms room t fits new inside = record {
  some = omega (arith, fits.some, length-append terms (t ∷ []));
  distinct = IsDistinct-push same_term-IsEquivalence terms t fits.distinct new;
  within = λ u among. elim (has_term-either u terms (t ∷ []) among) [
    | inl old ↦ fits.within u old
    | inr one ↦ subst (λ z. has_term z room ≡ true) (sym (has_term-one u t one)) inside
  ];
}

-- there are no more than in the room
length-Fits : (terms room : List Term) → Fits terms room → length terms ≤ length room
length-Fits terms room fits =
    length-le_from_is_member same_term-IsEquivalence terms room fits.distinct fits.within

-- the first of more requests, and the others
AreIn-first : (t : Term) (ts room : List Term) → AreIn (t ∷ ts) room → has_term t room ≡ true
AreIn-first t ts room inside = inside t (rw (same_term-self t) refl)

AreIn-others : (t : Term) (ts room : List Term) → AreIn (t ∷ ts) room → AreIn ts room
AreIn-others t ts room inside u among = inside u (elim (cases_Bool (same_term u t)) [
  | inl one ↦ rw one refl
  | inr other ↦ rw (other, among) refl
])

-- what is asked for out of a room is granted
ask_all-Fits
    : (requests terms room : List Term)
    → IsRoom room
    → Fits terms room
    → AreIn requests room
    → (made : List Term) × (ask_all (answered terms) requests ≡ answered made)
ask_all-Fits [] terms room is fits inside = (terms, refl)
ask_all-Fits (t ∷ requests) terms room is fits inside =
    next (has_term t terms) refl
    (λ more others. ask_all-Fits requests more room is others (AreIn-others t requests room inside))
  where
    next
        : (there : Bool)
        → has_term t terms ≡ there
        → ((more : List Term) → Fits more room
        → (made : List Term) × (ask_all (answered more) requests ≡ answered made))
        → (made : List Term) × (ask_all (ask terms t) requests ≡ answered made)
    next true there others =
        let (made, granted) = others terms fits in
        (made, ap (λ asked. ask_all asked requests) (ask-there terms t there) ∙ granted)
    next false new others =
        let first = AreIn-first t requests room inside in
        let longer = Fits-push terms room t fits new first in
        let count = length-Fits (terms ++ t ∷ []) room longer in
        let size = length-append terms (t ∷ []) in
        let (made, granted) = others (terms ++ t ∷ []) longer in (
          made,
          ap (λ asked. ask_all asked requests)
              (ask-new terms t new (is.low t first) (omega (arith, count, size, fits.some, is.few)))
              ∙ granted,
        )

-- so a new graph grants it
pub ask_all-room
    : (requests room : List Term)
    → IsRoom room
    → AreIn requests room
    → (made : List Term) × (ask_all (answered (variable ∷ [])) requests ≡ answered made)
unfolding IsDistinct
ask_all-room requests room is inside =
    ask_all-Fits requests (variable ∷ []) room is (record {
      some = omega arith;
      distinct = (tt, tt);
      within = λ t among. subst (λ z. has_term z room ≡ true) (sym (has_term-one t variable among)) is.some;
    }) inside

-- ---- Rooms ----

-- what holds of each term of a list holds of one that is there
pub has_term-all
    : (P : Term → Type 0) (ts : List Term) (t : Term)
    → AllByRecursion P ts
    → has_term t ts ≡ true
    → P t
has_term-all P [] t all among = absurd (true≢false (sym among))
has_term-all P (u ∷ ts) t all among = elim (cases_Bool (same_term t u)) [
  | inl one ↦ subst P (sym (same_term-true t u one)) all.0
  | inr other ↦ has_term-all P ts t all.1 (rw other at among)
]

-- few requests, none of them too high
pub requests-granted
    : (requests : List Term)
    → length requests ≤ MAX_NODES
    → AllByRecursion (λ t. height t ≤ MAX_HEIGHT) requests
    → (made : List Term) × (ask_all (answered (variable ∷ [])) requests ≡ answered made)
requests-granted requests few low = ask_all-room requests (variable ∷ requests) (record {
  some = refl;
  few = omega (arith, few);
  low = λ t among.
      has_term-all (λ u. height u ≤ MAX_HEIGHT) (variable ∷ requests) t (omega arith, low) among;
}) (λ t among. elim (cases_Bool (same_term t variable)) [
  | inl one ↦ rw one refl
  | inr other ↦ rw (other, among) refl
])

-- the terms of a graph
pub graph-granted
    : (requests made : List Term)
    → IsGraph made
    → AreIn requests made
    → (new : List Term) × (ask_all (answered (variable ∷ [])) requests ≡ answered new)
graph-granted requests made graph inside = ask_all-room requests made (record {
  some = subst (λ z. has_term z made ≡ true) graph.first (has_term-at made 0 graph.some);
  few = omega (arith, graph.few);
  low = λ t there.
      let at = has_term-Stands t made there in
      subst (λ z. height z ≤ MAX_HEIGHT) at.is (graph.low at.number variable at.within);
}) inside
