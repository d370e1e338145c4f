-- Laws of handles and of the leftmost one.
--
-- The places that `leftmost_of` gives are the leftmost handle and the other way round
-- (`leftmost_of-Some`, `leftmost_of-IsLeftmost`), and it gives none exactly for a word without a
-- handle (`leftmost_of-None`, `leftmost_of-HasNoHandle`).
use Rattle.std.proofs.Common.{◌≡◌, ◌↔◌, ℕ, ◌+◌, ◌-◌, ◌<◌, ◌≤◌, ◌==◌, ltb, Bool, true, false, not, List, length, get_or, Option, Some, None, refl, sym, ap, ap₂, subst, ◌∙◌, inl, inr, arith, length-take, length-drop, get_or-take, get_or-drop}
use Rattle.std.specs.List.{list_all, AllPass}
use mathlib.Core.Bool.{xor}
use Rattle.std.proofs.lemmas.Bool.{and_parts, and_from, eqb-true, eq-eqb, ltb-true, lt-ltb, cases_eq, cases_lt, cases_order, both_ways}
use Rattle.std.proofs.lemmas.List.{get_or_read}
use Rattle.std.proofs.lemmas.List.Elements.{All-from_get_or}
use Rattle.std.proofs.lemmas.List.Sums.{AllPass-from_list_all, list_all-from_AllPass}
use Rattle.braid_word.specs.Words.{Letter, letter}
use Rattle.handle_find.specs.Handles.{at, IsHandle, IsLeftmost, HasNoHandle, inside, is_handle_at, leftmost_of}
use Rattle.handle_find.proofs.PairLemmas.{FirstIn, find-pairs_below-Some, find-pairs_below-None}

-- ---- Letters at places ----

-- a letter that was read at a place
pub at-read : (w : List Letter) (k : ℕ) (x : Letter) → x ≡ get_or w k x → k < length w → x ≡ at w k
at-read w k x is within = get_or_read w k x within is (letter 0 false)

-- how many letters there are between two places of a word
pub length-inside
    : (w : List Letter) (p q : ℕ)
    → q ≤ length w
    → length (inside w p q) ≡ q - (p + 1)
length-inside w p q within = simp (length-take, length-drop) (omega arith)

-- a letter between two places
pub at-inside
    : (w : List Letter) (p q k : ℕ)
    → p < k
    → k < q
    → at (inside w p q) (k - (p + 1)) ≡ at w k
at-inside w p q k above below =
    let place : (p + 1) + (k - (p + 1)) ≡ k = omega arith in
    let within : k - (p + 1) < q - (p + 1) = omega arith in
    rw (get_or-take, get_or-drop, place)

-- ---- The test ----

-- two signs differ exactly if they are opposite
xor-true : (a b : Bool) → xor a b ≡ true → a ≡ not b
unfolding xor
xor-true true true e = cc
xor-true true false e = refl
xor-true false true e = refl
xor-true false false e = cc

xor-opposite : (a b : Bool) → a ≡ not b → xor a b ≡ true
unfolding xor
xor-opposite true true e = cc
xor-opposite true false e = refl
xor-opposite false true e = refl
xor-opposite false false e = cc

-- whether a letter has a higher index
abbrev pub is_above : ℕ → Letter → Bool
is_above i x = ltb i x.index

-- what passes the test is a handle
pub IsHandle-from_test
    : (w : List Letter) (p q : ℕ)
    → p < q
    → q < length w
    → is_handle_at w (p, q) ≡ true
    → IsHandle w p q
IsHandle-from_test w p q ordered within pass =
    let i : ℕ = (at w p).index in
    let (signs, higher) = and_parts _ (list_all (is_above i) (inside w p q)) pass in
    let (index, sign) = and_parts ((at w q).index == i) _ signs in
    let each : AllPass (is_above i) (inside w p q) = AllPass-from_list_all _ _ higher in
    record {
      ordered = ordered;
      within = within;
      one_index = eqb-true _ _ index;
      opposite_signs = xor-true _ _ sign;
      higher_between = λ k above below.
          let many : length (inside w p q) ≡ q - (p + 1) = length-inside w p q (omega arith) in
          let place : k - (p + 1) < length (inside w p q) = omega arith in
          ltb-true _ _ (subst (λ (x : Letter). is_above i x ≡ true) (at-inside w p q k above below)
          (each (k - (p + 1)) (letter 0 false) place));
    }

-- each letter inside a handle has a higher index
pub higher-inside
    : (w : List Letter) (p q : ℕ)
    → IsHandle w p q
    → (k : ℕ)
    → k < length (inside w p q)
    → (at w p).index < (at (inside w p q) k).index
higher-inside w p q h k here =
    let many : length (inside w p q) ≡ q - (p + 1) = length-inside w p q (omega arith) in
    let place : (k + (p + 1)) - (p + 1) ≡ k = omega arith in
    let same : at (inside w p q) k ≡ at w (k + (p + 1))
    = rw place at (at-inside w p q (k + (p + 1)) (omega arith) (omega arith)) in
    rw same (h.higher_between (k + (p + 1)) (omega arith) (omega arith))

-- a handle passes the test
pub test-IsHandle : (w : List Letter) (p q : ℕ) → IsHandle w p q → is_handle_at w (p, q) ≡ true
test-IsHandle w p q h =
    let i : ℕ = (at w p).index in
    let each : AllPass (is_above i) (inside w p q)
    = All-from_get_or (λ x. is_above i x ≡ true) _ (letter 0 false)
    (λ k here. lt-ltb _ _ (higher-inside w p q h k here)) in
    let signs = and_from _ _ (eq-eqb _ _ h.one_index) (xor-opposite _ _ h.opposite_signs) in
    and_from _ _ signs (list_all-from_AllPass _ _ each)

-- ---- The leftmost handle ----

-- a letter between the start and the end of a handle has no start of another with that end
start-le
    : (w : List Letter) (p other q : ℕ)
    → IsHandle w p q
    → IsHandle w other q
    → other ≤ p
start-le w p other q h g = elim (cases_lt p other) [
  | inl under ↦
      let higher : (at w p).index < (at w other).index = h.higher_between other under g.ordered in
      absurd (omega arith)
  | inr within ↦ within
]

-- the start of a handle is determined by its end
pub start-unique
    : (w : List Letter) (p other q : ℕ)
    → IsHandle w p q
    → IsHandle w other q
    → p ≡ other
start-unique w p other q h g =
    let one : other ≤ p = start-le w p other q h g in
    let two : p ≤ other = start-le w other p q g h in
    omega arith

-- the places that are found are the leftmost handle
pub leftmost_of-Some
    : (w : List Letter) (p q : ℕ)
    → leftmost_of w ≡ Some (p, q)
    → IsLeftmost w p q
unfolding leftmost_of
leftmost_of-Some w p q found =
    let pair : FirstIn (is_handle_at w) 0 (length w) (p, q)
    = find-pairs_below-Some (is_handle_at w) (length w) (p, q) found in
    record {
      handle = IsHandle-from_test w p q pair.ordered (omega arith) pair.passes;
      first = λ start end h. elim (cases_lt end q) [
        | inl before ↦ absurd (both_ways (is_handle_at w (start, end))
            (pair.first start end h.ordered (omega arith) before)
            (test-IsHandle w start end h))
        | inr after ↦ after
      ];
    }

-- where no places are found, there is no handle
pub leftmost_of-None : (w : List Letter) → leftmost_of w ≡ None → HasNoHandle w
unfolding leftmost_of
leftmost_of-None w none p q h =
    both_ways (is_handle_at w (p, q))
    (find-pairs_below-None (is_handle_at w) (length w) none p q h.ordered h.within)
    (test-IsHandle w p q h)

-- what is found of a word with a leftmost handle
IsLeftmost-found
    : (w : List Letter) (p q : ℕ) (o : Option (ℕ × ℕ))
    → leftmost_of w ≡ o
    → IsLeftmost w p q
    → o ≡ Some (p, q)
IsLeftmost-found w p q None is h = absurd (leftmost_of-None w is p q h.handle)
IsLeftmost-found w p q (Some (start, end)) is h =
    let found : IsLeftmost w start end = leftmost_of-Some w start end is in
    let one : q ≤ end = h.first start end found.handle in
    let two : end ≤ q = found.first p q h.handle in
    let ends : end ≡ q = omega arith in
    let same_end : IsHandle w start q = subst (IsHandle w start) ends found.handle in
    let starts : start ≡ p = start-unique w start p q same_end h.handle in
    ap₂ (λ (a b : ℕ). Some (a, b)) starts ends

-- the leftmost handle is found
pub leftmost_of-IsLeftmost
    : (w : List Letter) (p q : ℕ)
    → IsLeftmost w p q
    → leftmost_of w ≡ Some (p, q)
leftmost_of-IsLeftmost w p q h = IsLeftmost-found w p q _ refl h

-- what is found of a word without a handle
HasNoHandle-found
    : (w : List Letter) (o : Option (ℕ × ℕ))
    → leftmost_of w ≡ o
    → HasNoHandle w
    → o ≡ None
HasNoHandle-found w None is none = refl
HasNoHandle-found w (Some (start, end)) is none =
    absurd (none start end (leftmost_of-Some w start end is).handle)

-- in a word without a handle none is found
pub leftmost_of-HasNoHandle : (w : List Letter) → HasNoHandle w → leftmost_of w ≡ None
leftmost_of-HasNoHandle w none = HasNoHandle-found w _ refl none

-- ---- A walk back from the end of a handle ----

-- one more letter that is higher
pub higher_more
    : (w : List Letter) (i n q : ℕ) (x : Letter)
    → n < length w
    → x ≡ get_or w n x
    → i < x.index
    → ((k : ℕ) → n < k → k < q → i < (at w k).index)
    → (k : ℕ)
    → n ≤ k
    → k < q
    → i < (at w k).index
higher_more w i n q x within read above higher k from to = elim (cases_eq n k) [
  | inl same ↦
      let is : x ≡ at w n = at-read w n x read within in
      rw (← same, ← is) above
  | inr other ↦ higher k (omega arith) to
]

-- a letter of the last one's index and of opposite sign starts a handle
pub IsHandle-from_walk
    : (w : List Letter) (p q : ℕ) (first last : Letter)
    → p < q
    → q < length w
    → first ≡ get_or w p first
    → last ≡ at w q
    → (last.index ≡ first.index) × (last.negative ≡ not first.negative)
    → ((k : ℕ) → p < k → k < q → last.index < (at w k).index)
    → IsHandle w p q
IsHandle-from_walk w p q first last ordered within first_read last_is (index, sign) higher =
    let first_is : first ≡ at w p = at-read w p first first_read (omega arith) in
    let index' : (at w q).index ≡ (at w p).index = rw (← first_is, ← last_is) index in
    record {
      ordered = ordered;
      within = within;
      one_index = index';
      opposite_signs = rw (← first_is, ← last_is) sign;
      higher_between = λ k above below. rw (← first_is, ← index) (higher k above below);
    }

-- another letter of at most the last one's index rules all starts out
pub no_start-from_walk
    : (w : List Letter) (p q : ℕ) (first last : Letter)
    → p < q
    → q < length w
    → first ≡ get_or w p first
    → last ≡ at w q
    → first.index ≤ last.index
    → ((last.index ≡ first.index) × (last.negative ≡ not first.negative) → ⊥)
    → ((k : ℕ) → p < k → k < q → last.index < (at w k).index)
    → (start : ℕ)
    → IsHandle w start q
    → ⊥
no_start-from_walk w p q first last ordered within first_read last_is low other higher start h =
    let first_is : first ≡ at w p = at-read w p first first_read (omega arith) in
    let index : (at w p).index ≤ (at w q).index = rw (← first_is, ← last_is) low in
    elim (cases_order start p) [
      | inl same ↦
          let g : IsHandle w p q = subst (λ z. IsHandle w z q) same h in
          other (rw (first_is, last_is) g.one_index, rw (first_is, last_is) g.opposite_signs)
      | inr (inl before) ↦
          let above : (at w start).index < (at w p).index = h.higher_between p before ordered in
          let one_index = h.one_index in
          omega arith
      | inr (inr after) ↦
          let above : (at w q).index < (at w start).index
          = rw (← last_is) (higher start after h.ordered) in
          let one_index = h.one_index in
          omega arith
    ]

-- with no handle that ends before, a handle is the leftmost
pub IsLeftmost-from_walk
    : (w : List Letter) (p q : ℕ)
    → ((start end : ℕ) → end < q → IsHandle w start end → ⊥)
    → IsHandle w p q
    → IsLeftmost w p q
IsLeftmost-from_walk w p q none h =
    record {
      handle = h;
      first = λ start end g. elim (cases_lt end q) [
        | inl before ↦ absurd (none start end before g)
        | inr after ↦ after
      ];
    }

-- letters of one index and opposite signs are a handle exactly if those inside are higher
pub IsHandle-by_inside
    : (w : List Letter) (p q : ℕ) (first last : Letter) (higher : Bool)
    → p < q
    → q < length w
    → first ≡ get_or w p first
    → last ≡ get_or w q last
    → (last.index ≡ first.index) × (last.negative ≡ not first.negative)
    → higher ≡ list_all (λ (x : Letter). ltb first.index x.index) (inside w p q)
    → (higher ≡ true) ↔ IsHandle w p q
IsHandle-by_inside w p q first last higher ordered within first_read last_read (index, sign) test =
    let first_is : first ≡ at w p = at-read w p first first_read (omega arith) in
    let last_is : last ≡ at w q = at-read w q last last_read within in
    let one_index : (at w q).index ≡ (at w p).index = rw (← first_is, ← last_is) index in
    let opposite : (at w q).negative ≡ not (at w p).negative = rw (← first_is, ← last_is) sign in
    let signs = and_from _ _ (eq-eqb _ _ one_index) (xor-opposite _ _ opposite) in
    let inner : higher ≡ list_all (is_above (at w p).index) (inside w p q)
    = test ∙ ap (λ (y : Letter). list_all (is_above y.index) (inside w p q)) first_is in
    let to : higher ≡ true → IsHandle w p q
    = λ pass. IsHandle-from_test w p q ordered within (and_from _ _ signs (sym inner ∙ pass)) in
    (to, λ h. inner ∙ (and_parts _ _ (test-IsHandle w p q h)).1)
