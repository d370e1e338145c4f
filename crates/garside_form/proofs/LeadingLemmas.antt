-- Who stands first in an order, and exchanges of neighbours that lead from one order to another.
--
-- Two neighbours of an order may be exchanged where they stand in this order before and turned after
-- (`descends`). Such exchanges lead to any order that has the pairs which they turn (`leads_to`).
use Rattle.std.proofs.Common.{ℕ, zero, suc, ◌≡◌, ◌⊎◌, inl, inr, ◌+◌, ◌<◌, ◌≤◌, ◌∙◌, Bool, true, false, List, map, refl, sym, ap, subst, arith}
use Rattle.std.specs.Prelude.{nat_lt, ◌&&◌}
use Rattle.std.proofs.lemmas.Bool.{cases_eq, cases_lt, cases_Bool, lt-ltb, ltb-true, and_parts}
use Rattle.std.proofs.lemmas.List.{length-map}
use Rattle.perm_braid.specs.Arrangements.{entry, place_of, swapped, identity, IsOrder, IsRightDescent}
use Rattle.perm_braid.proofs.PlaceLemmas.{same_entries, entry-map, place_low, Undoes, IsOrder-from, IsOrder-entry, entry-identity}
use Rattle.perm_braid.proofs.SwapLemmas.{neighbour_case, place_of-swapped, IsOrder-swapped}
use Rattle.perm_braid.proofs.SortingLemmas.{inversions, IsStuck, first_descent, identity-from_stuck}
use Rattle.perm_braid.proofs.SortingWordLemmas.{lowers}
use Rattle.perm_braid.proofs.SimpleWordLemmas.{swapped-map}
use Rattle.garside_form.proofs.SortLemmas.{IsStrict, Leads, done, turn}

-- ---- Who stands first ----

-- The strand e stands before the strand f.
abbrev pub IsBefore : List ℕ → ℕ → ℕ → Type 0
IsBefore a e f = place_of a e < place_of a f

-- A strand of n.
abbrev pub IsStrand : ℕ → ℕ → Type 0
IsStrand n e = (1 ≤ e) × (e ≤ n)

-- two strands at one place are one
pub strand_same
    : {n : ℕ} {a : List ℕ}
    → IsOrder n a
    → (e f : ℕ)
    → IsStrand n e
    → IsStrand n f
    → place_of a e ≡ place_of a f
    → e ≡ f
strand_same {n} {a} order e f one two same =
    sym (IsOrder-entry order e one.0 one.1) ∙ (ap (entry a) same ∙ IsOrder-entry order f two.0 two.1)

-- of two strands one stands first
pub before_or
    : {n : ℕ} {a : List ℕ}
    → IsOrder n a
    → (e f : ℕ)
    → IsStrand n e
    → IsStrand n f
    → (e ≡ f → ⊥)
    → IsBefore a e f ⊎ IsBefore a f e
before_or {n} {a} order e f one two other = elim (cases_lt (place_of a e) (place_of a f)) [
  | inl less ↦ inl less
  | inr more ↦ inr (at more)
]
  where
    at : place_of a f ≤ place_of a e → IsBefore a f e
    at more = elim (cases_eq (place_of a e) (place_of a f)) [
      | inl same ↦ absurd (other (strand_same order e f one two same))
      | inr differ ↦ omega arith
    ]

-- neighbours stand in their order
pub neighbours_before
    : {n : ℕ} {a : List ℕ}
    → IsOrder n a
    → (i : ℕ)
    → 1 ≤ i
    → i < n
    → IsBefore a (entry a i) (entry a (i + 1))
neighbours_before order i low high =
    let here = order.distinct i low (omega arith) in
    let next = order.distinct (i + 1) (omega arith) (omega arith) in
    omega (arith, here, next)

-- ---- The relation ----

-- e stands before f in x, and behind it in z.
abbrev pub descends : List ℕ → List ℕ → ℕ → ℕ → Bool
descends x z e f = nat_lt (place_of x e) (place_of x f) && nat_lt (place_of z f) (place_of z e)

-- what it says
pub descends_parts : (x z : List ℕ) (e f : ℕ) → descends x z e f ≡ true → IsBefore x e f × IsBefore z f e
descends_parts x z e f may =
    let parts = and_parts (nat_lt (place_of x e) (place_of x f)) (nat_lt (place_of z f) (place_of z e)) may in
    (ltb-true (place_of x e) (place_of x f) parts.0, ltb-true (place_of z f) (place_of z e) parts.1)

-- where it holds
pub descends_from : (x z : List ℕ) (e f : ℕ) → IsBefore x e f → IsBefore z f e → descends x z e f ≡ true
descends_from x z e f first second =
    simp (lt-ltb (place_of x e) (place_of x f) first, lt-ltb (place_of z f) (place_of z e) second)

-- where it doesn't
pub descends_not : (x z : List ℕ) (e f : ℕ) → (IsBefore x e f → IsBefore z f e → ⊥) → descends x z e f ≡ false
descends_not x z e f never = elim (cases_Bool (descends x z e f)) [
  | inl may ↦ let parts = descends_parts x z e f may in absurd (never parts.0 parts.1)
  | inr not ↦ not
]

-- it is transitive and asymmetric
pub IsStrict-descends : (x z : List ℕ) → IsStrict (descends x z)
IsStrict-descends x z = record {
  trans = λ a b c first second.
      let one = descends_parts x z a b first in
      let two = descends_parts x z b c second in
      descends_from x z a c (omega (arith, one, two)) (omega (arith, one, two));
  asym = λ a b may.
      let one = descends_parts x z a b may in
      descends_not x z b a (λ p q. absurd (omega (arith, one, p)));
}

-- ---- Exchanges between orders ----

-- exchanges keep orders
pub IsOrder-leads : {n : ℕ} {R : ℕ → ℕ → Bool} {a c : List ℕ} → IsOrder n a → Leads R a c → IsOrder n c
IsOrder-leads order done = order
IsOrder-leads order (turn i j low next high may rest) =
    IsOrder-leads (IsOrder-swapped order i low (omega (arith, order.size, next, high))) rest

-- one exchange changes no pair but its own
pub before-swapped
    : {n : ℕ} {a : List ℕ}
    → IsOrder n a
    → (i e f : ℕ)
    → 1 ≤ i
    → i < n
    → IsStrand n e
    → IsStrand n f
    → IsBefore (swapped i a) f e
    → IsBefore a f e ⊎ ((e ≡ entry a i) × (f ≡ entry a (i + 1)))
before-swapped {n} {a} order i e f low high one two after =
    let at_e = place_of-swapped order i e low high one.0 one.1 in
    let at_f = place_of-swapped order i f low high two.0 two.1 in
    let case_e = neighbour_case i (place_of a e) in
    let case_f = neighbour_case i (place_of a f) in
    elim (cases_eq (place_of a e) i) [
      | inl here ↦ elim (cases_eq (place_of a f) (i + 1)) [
        | inl next ↦ inr (
          sym (ap (entry a) (sym here) ∙ IsOrder-entry order e one.0 one.1),
          sym
              (ap (entry a) (sym next) ∙ IsOrder-entry order f two.0 two.1),
        )
        | inr other ↦ inl (omega (arith, at_e, at_f, case_e, case_f, after))
      ]
      | inr other ↦ inl (omega (arith, at_e, at_f, case_e, case_f, after))
    ]

-- exchanges change no pair that the relation doesn't hold of
pub Leads-before
    : {n : ℕ} {R : ℕ → ℕ → Bool} {a c : List ℕ}
    → IsOrder n a
    → Leads R a c
    → (e f : ℕ)
    → IsStrand n e
    → IsStrand n f
    → IsBefore c f e
    → IsBefore a f e ⊎ (R e f ≡ true)
Leads-before order done e f one two after = inl after
Leads-before {n} {R} {a} order (turn i j low next high may rest) e f one two after =
    let fits : i < n = omega (arith, order.size, next, high) in
    elim (Leads-before (IsOrder-swapped order i low fits) rest e f one two after) [
      | inl before ↦ elim (before-swapped order i e f low fits one two before) [
        | inl same ↦ inl same
        | inr turned ↦ let here : R (entry a i) (entry a (i + 1)) ≡ true =
            rw next at may in inr (rw (turned.0, turned.1) here)
      ]
      | inr held ↦ inr held
    ]

-- The places in c of the strands of a.
abbrev pub relative : List ℕ → List ℕ → List ℕ
relative c a = map (place_of c) a

-- places undo them
Undoes-relative : {n : ℕ} {a c : List ℕ} → IsOrder n a → IsOrder n c
    → Undoes n (relative c a) (λ p. place_of a (entry c p))
Undoes-relative {n} {a} {c} first second = record {
  size = length-map a (place_of c) ∙ first.size;
  within = λ i low high.
      let inside = first.within i low high in
      rw (at i low high) (place_low c (entry a i), second.has (entry a i) inside.0 inside.1);
  back = λ i low high.
      let inside = first.within i low high in
      rw (at i low high, IsOrder-entry second (entry a i) inside.0 inside.1) (first.distinct i low high);
  forth = λ p low high.
      let inside = second.within p low high in
      let least = place_low a (entry c p) in
      let most = first.has (entry c p) inside.0 inside.1 in (
        least,
        most,
        at (place_of a (entry c p)) least most
            ∙ rw (IsOrder-entry first (entry c p) inside.0 inside.1) (second.distinct p low high),
      );
}
  where
    at : (i : ℕ) → 1 ≤ i → i ≤ n → entry (relative c a) i ≡ place_of c (entry a i)
    at i low high = entry-map (place_of c) a i low (omega (arith, first.size, high))

-- they are an order
pub IsOrder-relative : {n : ℕ} {a c : List ℕ} → IsOrder n a → IsOrder n c → IsOrder n (relative c a)
IsOrder-relative {n} {a} {c} first second =
    IsOrder-from n (relative c a) (λ p. place_of a (entry c p)) (Undoes-relative first second)

-- where they are in order, both are one
pub relative_same : {n : ℕ} {a c : List ℕ} → IsOrder n a → IsOrder n c → relative c a ≡ identity n → a ≡ c
relative_same {n} {a} {c} first second is =
    same_entries a c (first.size ∙ sym second.size)
    (λ i low high.
    let fits : i ≤ n = omega (arith, first.size, high) in
    let inside = first.within i low fits in
    let at : place_of c (entry a i) ≡ i = sym (entry-map (place_of c) a i low high)
    ∙ (ap (λ b. entry b i) is ∙ entry-identity n i low fits) in
    sym (IsOrder-entry second (entry a i) inside.0 inside.1) ∙ ap (entry c) at)

-- The relation holds of all pairs that stand otherwise in c.
abbrev pub Covers : ℕ → (ℕ → ℕ → Bool) → List ℕ → List ℕ → Type 0
Covers n R a c = (e f : ℕ) → IsStrand n e → IsStrand n f → IsBefore a e f → IsBefore c f e → R e f ≡ true

-- one exchange of a pair that stands otherwise leaves fewer
covers_next
    : {n : ℕ} {R : ℕ → ℕ → Bool} {a : List ℕ} (c : List ℕ)
    → IsOrder n a
    → (i : ℕ)
    → 1 ≤ i
    → i < n
    → IsBefore c (entry a (i + 1)) (entry a i)
    → Covers n R a c
    → Covers n R (swapped i a) c
covers_next {n} {R} {a} c order i low high down all e f one two before after =
    elim (before-swapped order i f e low high two one before) [
      | inl same ↦ all e f one two same after
      | inr turned ↦
          let twisted : IsBefore c e f = rw (turned.0, turned.1) down in
          absurd (omega (arith, twisted, after))
    ]

-- a descent of the places
relative_descent
    : {n : ℕ} {a : List ℕ} (c : List ℕ)
    → IsOrder n a
    → (i : ℕ)
    → 1 ≤ i
    → i < n
    → IsRightDescent (relative c a) i
    → IsBefore c (entry a (i + 1)) (entry a i)
relative_descent {n} {a} c order i low high down =
    let here = entry-map (place_of c) a i low (omega (arith, order.size, high)) in
    let next = entry-map (place_of c) a (i + 1) (omega arith) (omega (arith, order.size, high)) in
    omega (arith, here, next, down)

-- the end of such exchanges
leads_none
    : {n : ℕ} {R : ℕ → ℕ → Bool} {a c : List ℕ}
    → IsOrder n a
    → IsOrder n c
    → IsStuck n (relative c a)
    → Leads R a c
leads_none {n} {R} {a} {c} first second stuck =
    subst (λ d. Leads R a d)
    (relative_same first second (identity-from_stuck (IsOrder-relative first second) stuck)) done

-- so with at most k pairs that stand otherwise
leads_within
    : {n : ℕ} {R : ℕ → ℕ → Bool} (k : ℕ) (a c : List ℕ)
    → inversions (relative c a) ≤ k
    → IsOrder n a
    → IsOrder n c
    → Covers n R a c
    → Leads R a c
leads_within {n} {R} zero a c few first second all = elim (first_descent n (relative c a)) [
  | inl some ↦
      let (i, found) = some in
      let less = lowers (IsOrder-relative first second) i found.low found.high found.down in
      absurd (omega (arith, less, few))
  | inr stuck ↦ leads_none first second stuck
]
leads_within {n} {R} (suc k) a c few first second all = elim (first_descent n (relative c a)) [
  | inl some ↦
      let (i, found) = some in
      let less = lowers (IsOrder-relative first second) i found.low found.high found.down in
      let down = relative_descent c first i found.low found.high found.down in
      let may = all (entry a i) (entry a (i + 1)) (first.within i found.low (omega (arith, found.high)))
      (first.within (i + 1) (omega arith) (omega (arith, found.high)))
      (neighbours_before first i found.low found.high) down in
      let still : inversions (relative c (swapped i a)) ≤ k =
      rw (← swapped-map (place_of c) i a) (omega (arith, less, few)) in
      turn i (i + 1) found.low refl (omega (arith, first.size, found.high)) may
      (leads_within k (swapped i a) c still (IsOrder-swapped first i found.low found.high) second
      (covers_next c first i found.low found.high down all))
  | inr stuck ↦ leads_none first second stuck
]

-- each order leads to each other by exchanges of pairs that stand otherwise in it
pub leads_to
    : {n : ℕ} (R : ℕ → ℕ → Bool) {a c : List ℕ}
    → IsOrder n a
    → IsOrder n c
    → Covers n R a c
    → Leads R a c
leads_to R {a} {c} first second all =
    leads_within (inversions (relative c a)) a c (omega arith) first second all
