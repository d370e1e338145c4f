-- An arrangement and its places as slices, which are exchanged together (`Exchanged`).
use Rattle.std.proofs.Common.{ℕ, ◌≡◌, ◌+◌, ◌-◌, ◌<◌, ◌≤◌, ◌∙◌, true, List, length, refl, sym, ap, subst, arith}
use Rattle.std.specs.List.{swap}
use Rattle.std.specs.Prelude.{nat_lt}
use Rattle.std.proofs.lemmas.Bool.{lt-ltb, ltb-true}
use Rattle.perm_braid.specs.Arrangements.{entry, place_of, places_of, swapped, values_swapped, flip, identity, half_turn, IsOrder, IsArrangement, IsLeftDescent}
use Rattle.perm_braid.proofs.PlaceLemmas.{place_low, place_of-from, IsOrder-identity, IsOrder-half_turn, length-places_of, entry-places_of, Undoes-places_of, IsOrder-places_of, places_of-identity, places_of-half_turn}
use Rattle.perm_braid.proofs.SwapLemmas.{IsOrder-swapped, IsOrder-values_swapped, IsOrder-flip, places_of-swapped, places_of-values_swapped, places_of-flip}
use Rattle.perm_braid.proofs.EntryLemmas.{swapped_from_swap_of_places, values_swapped_from_swap}

-- ---- Arrangements and their places ----

-- an order of 2 to 64 numbers is an arrangement
pub IsArrangement-from : {n : ℕ} {a : List ℕ} → IsOrder n a → 2 ≤ n → n ≤ 64 → IsArrangement a
IsArrangement-from {n} {a} order low high = record {
  order = subst (λ k. IsOrder k a) (sym order.size) order;
  least = omega (arith, order.size);
  most = omega (arith, order.size);
}

-- an order of as many numbers as an arrangement is one
pub IsArrangement-like : {a b : List ℕ} → IsArrangement a → IsOrder (length a) b → IsArrangement b
IsArrangement-like is order = IsArrangement-from order is.least is.most

-- there are as many places as entries
pub placed_long : (a p : List ℕ) → p ≡ places_of a → length p ≡ length a
placed_long a p placed = rw placed (length-places_of a)

-- an entry of an arrangement is one of its places
pub entry_within
    : {a : List ℕ}
    → IsArrangement a
    → (i e : ℕ)
    → 1 ≤ i
    → i ≤ length a
    → e ≡ entry a i
    → (1 ≤ e) × (e ≤ length a)
entry_within is i e low high at = rw at (is.order.within i low high)

-- so is a place
pub place_within
    : {a p : List ℕ}
    → IsArrangement a
    → p ≡ places_of a
    → (i e : ℕ)
    → 1 ≤ i
    → i ≤ length a
    → e ≡ entry p i
    → (1 ≤ e) × (e ≤ length a)
place_within {a} {p} is placed i e low high at =
    rw (at, placed, entry-places_of a i low high) (place_low a i, is.order.has i low high)

-- a left descent is one of the places
left_descent
    : (a p : List ℕ)
    → p ≡ places_of a
    → (i d e : ℕ)
    → 1 ≤ i
    → i < length a
    → d ≡ entry p i
    → e ≡ entry p (i + 1)
    → (IsLeftDescent a i → e < d) × (e < d → IsLeftDescent a i)
left_descent a p placed i d e low high at next =
    let here : d ≡ place_of a i = at ∙ rw placed (entry-places_of a i low (omega arith)) in
    let there : e ≡ place_of a (i + 1) =
    next ∙ rw placed (entry-places_of a (i + 1) (omega arith) (omega arith)) in
    (λ less. omega arith, λ less. omega arith)

-- What an exchange makes of an arrangement and its places.
pub record Exchanged (changed c q : List ℕ) : Type 0 where
  pub entries : c ≡ changed
  pub arrangement : IsArrangement c
  pub places : q ≡ places_of c

-- an exchange of neighbouring entries, and of their values among the places
pub Exchanged-swapped
    : {a p c q : List ℕ}
    → IsArrangement a
    → p ≡ places_of a
    → (i first second : ℕ)
    → 1 ≤ i
    → i < length a
    → first ≡ entry a i
    → second ≡ entry a (i + 1)
    → c ≡ swap a (i - 1) (i + 1 - 1)
    → q ≡ swap p (first - 1) (second - 1)
    → Exchanged (swapped i a) c q
Exchanged-swapped {a} {p} {c} {q} is placed i first second low high at next entries places =
    let made = swapped_from_swap_of_places a c i (i + 1) low refl (omega arith) entries in
    let order = IsOrder-swapped is.order i low high in
    let placing = IsOrder-places_of is.order in
    let undoes = Undoes-places_of is.order in
    let first_is : first ≡ place_of (places_of a) i =
    at ∙ sym (place_of-from (length a) (places_of a) (entry a) undoes i low (omega arith)) in
    let second_is : second ≡ place_of (places_of a) (i + 1) =
    next ∙ sym (place_of-from (length a) (places_of a) (entry a) undoes (i + 1) (omega arith)
    (omega arith)) in
    let renamed : q ≡ values_swapped i (places_of a) =
    values_swapped_from_swap placing q i first second low high first_is second_is
    (places ∙ ap (λ b. swap b (first - 1) (second - 1)) placed) in
    record {
      entries = made;
      arrangement = IsArrangement-like is (rw made order);
      places = renamed ∙ (sym (places_of-swapped is.order i low high) ∙ ap places_of (sym made));
    }

-- an exchange of neighbouring values, and of the entries at them among the places
pub Exchanged-values_swapped
    : {a p c q : List ℕ}
    → IsArrangement a
    → p ≡ places_of a
    → (i first second : ℕ)
    → 1 ≤ i
    → i < length a
    → first ≡ entry p i
    → second ≡ entry p (i + 1)
    → c ≡ swap a (first - 1) (second - 1)
    → q ≡ swap p (i - 1) (i + 1 - 1)
    → Exchanged (values_swapped i a) c q
Exchanged-values_swapped {a} {p} {c} {q} is placed i first second low high at next entries places =
    let order = IsOrder-values_swapped is.order i low high in
    let first_is : first ≡ place_of a i = at ∙ rw placed (entry-places_of a i low (omega arith)) in
    let second_is : second ≡ place_of a (i + 1) =
    next ∙ rw placed (entry-places_of a (i + 1) (omega arith) (omega arith)) in
    let made = values_swapped_from_swap is.order c i first second low high first_is second_is entries in
    let moved : q ≡ swapped i (places_of a) =
    swapped_from_swap_of_places (places_of a) q i (i + 1) low refl (omega (arith, length-places_of a, high))
    (places ∙ ap (λ b. swap b (i - 1) (i + 1 - 1)) placed) in
    record {
      entries = made;
      arrangement = IsArrangement-like is (rw made order);
      places = moved ∙ (sym (places_of-values_swapped is.order i low high) ∙ ap places_of (sym made));
    }

-- half a turn of the entries and of the places
pub Exchanged-flip
    : {a p c q : List ℕ}
    → IsArrangement a
    → p ≡ places_of a
    → c ≡ flip a
    → q ≡ flip p
    → Exchanged (flip a) c q
Exchanged-flip {a} {p} {c} {q} is placed made turned = record {
  entries = made;
  arrangement = IsArrangement-like is (rw made (IsOrder-flip is.order));
  places = turned ∙ (ap flip placed ∙ (sym (places_of-flip is.order) ∙ ap places_of (sym made)));
}

-- the identity and its places
pub Exchanged-identity
    : {n : ℕ} {c q : List ℕ}
    → 2 ≤ n
    → n ≤ 64
    → c ≡ identity n
    → q ≡ identity n
    → Exchanged (identity n) c q
Exchanged-identity {n} low high made placed = record {
  entries = made;
  arrangement = rw made (IsArrangement-from (IsOrder-identity n) low high);
  places = placed ∙ (sym (places_of-identity n) ∙ ap places_of (sym made));
}

-- the half turn and its places
pub Exchanged-half_turn
    : {n : ℕ} {c q : List ℕ}
    → 2 ≤ n
    → n ≤ 64
    → c ≡ half_turn n
    → q ≡ half_turn n
    → Exchanged (half_turn n) c q
Exchanged-half_turn {n} low high made placed = record {
  entries = made;
  arrangement = rw made (IsArrangement-from (IsOrder-half_turn n) low high);
  places = placed ∙ (sym (places_of-half_turn n) ∙ ap places_of (sym made));
}

-- ---- Values and what lies in them ----

-- an entry read of an arrangement can be the place of an exchange
pub entry_fits
    : (v : List ℕ) {a : List ℕ} (p s : List ℕ) (i e : ℕ)
    → a ≡ v
    → IsArrangement a × (p ≡ places_of a)
    → s ≡ a
    → 1 ≤ i
    → i ≤ length v
    → e ≡ entry s i
    → (1 ≤ e) × (e ≤ length p)
entry_fits v {a} p s i e view (is, placed) slice low high at =
    let inside =
    entry_within is i e low (omega (arith, ap length view, high)) (at ∙ ap (λ b. entry b i) slice) in
    let long = placed_long a p placed in
    (inside.0, omega (arith, inside, long))

-- so can a place
pub place_fits
    : (v : List ℕ) {a : List ℕ} (p s : List ℕ) (i e : ℕ)
    → a ≡ v
    → IsArrangement a × (p ≡ places_of a)
    → s ≡ p
    → 1 ≤ i
    → i ≤ length v
    → e ≡ entry s i
    → (1 ≤ e) × (e ≤ length a)
place_fits v {a} p s i e view (is, placed) slice low high at =
    place_within is placed i e low (omega (arith, ap length view, high)) (at ∙ ap (λ b. entry b i) slice)

-- there are as many places as the value has entries
pub places_fit
    : (v : List ℕ) {a : List ℕ} (p s : List ℕ)
    → a ≡ v
    → IsArrangement a × (p ≡ places_of a)
    → s ≡ p
    → length s ≡ length v
places_fit v {a} p s view (is, placed) slice =
    ap length slice ∙ (placed_long a p placed ∙ ap length view)

-- a left descent is tested on the places
pub left_descent_is
    : (v : List ℕ) {a : List ℕ} (p s : List ℕ) (i d e : ℕ)
    → a ≡ v
    → IsArrangement a × (p ≡ places_of a)
    → s ≡ p
    → 1 ≤ i
    → i < length v
    → d ≡ entry s (i + 1)
    → e ≡ entry s i
    → (nat_lt d e ≡ true → IsLeftDescent v i) × (IsLeftDescent v i → nat_lt d e ≡ true)
left_descent_is v {a} p s i d e view (is, placed) slice low high next at =
    let both = left_descent a p placed i e d low (omega (arith, ap length view, high))
    (at ∙ ap (λ b. entry b i) slice) (next ∙ ap (λ b. entry b (i + 1)) slice) in
    let forth : IsLeftDescent v i → d < e = subst (λ b. IsLeftDescent b i → d < e) view both.0 in
    let back : d < e → IsLeftDescent v i = subst (λ b. d < e → IsLeftDescent b i) view both.1 in
    (λ test. back (ltb-true d e test), λ down. lt-ltb d e (forth down))

-- an exchange of neighbouring entries of the value
pub Exchanged-after
    : (v : List ℕ) {a p c q : List ℕ} (s : List ℕ) (i first second : ℕ)
    → a ≡ v
    → IsArrangement a × (p ≡ places_of a)
    → s ≡ a
    → 1 ≤ i
    → i < length v
    → first ≡ entry s i
    → second ≡ entry s (i + 1)
    → c ≡ swap a (i - 1) (i + 1 - 1)
    → q ≡ swap p (first - 1) (second - 1)
    → Exchanged (swapped i v) c q
Exchanged-after v {a} {p} {c} {q} s i first second view (is, placed) slice low high at next entries places =
    subst (λ b. Exchanged (swapped i b) c q) view
    (Exchanged-swapped is placed i first second low (omega (arith, ap length view, high))
    (at ∙ ap (λ b. entry b i) slice)
    (next ∙ ap (λ b. entry b (i + 1)) slice) entries places)

-- an exchange of neighbouring values
pub Exchanged-before
    : (v : List ℕ) {a p c q : List ℕ} (s : List ℕ) (i first second : ℕ)
    → a ≡ v
    → IsArrangement a × (p ≡ places_of a)
    → s ≡ p
    → 1 ≤ i
    → i < length v
    → first ≡ entry s i
    → second ≡ entry s (i + 1)
    → c ≡ swap a (first - 1) (second - 1)
    → q ≡ swap p (i - 1) (i + 1 - 1)
    → Exchanged (values_swapped i v) c q
Exchanged-before v {a} {p} {c} {q} s i first second view (is, placed) slice low high at next entries places =
    subst (λ b. Exchanged (values_swapped i b) c q) view
    (Exchanged-values_swapped is placed i first second low (omega (arith, ap length view, high))
    (at ∙ ap (λ b. entry b i) slice)
    (next ∙ ap (λ b. entry b (i + 1)) slice) entries places)

-- the places of an arrangement can be turned too
pub places_turn
    : {a p : List ℕ}
    → IsArrangement a × (p ≡ places_of a)
    → (length p ≤ 64) × IsOrder (length p) p
places_turn {a} {p} (is, placed) =
    let long = placed_long a p placed in
    (omega (arith, long, is.most), rw (long, placed) (IsOrder-places_of is.order))

-- half a turn of the value
pub Exchanged-turn
    : (v : List ℕ) {a p c q : List ℕ}
    → a ≡ v
    → IsArrangement a × (p ≡ places_of a)
    → c ≡ flip a
    → q ≡ flip p
    → Exchanged (flip v) c q
Exchanged-turn v {a} {p} {c} {q} view (is, placed) made turned =
    subst (λ b. Exchanged (flip b) c q) view (Exchanged-flip is placed made turned)
