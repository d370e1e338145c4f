-- Entries and places of lists and of orders.
--
-- In an order, `entry` and `place_of` undo each other. Where a function undoes `entry`, the list is an
-- order and the function gives its places (`IsOrder-from`, `place_of-from`); that is how orders are found.
use Rattle.std.proofs.Common.{ℕ, zero, suc, ◌≡◌, inl, inr, ◌+◌, ◌-◌, ◌≤◌, ◌∙◌, List, [], ◌∷◌, length, get_or, map, reverse, refl, sym, ap, arith}
use Rattle.std.proofs.lemmas.Bool.{cases_eq, eq-eqb, ne_eqb}
use Rattle.std.proofs.lemmas.List.{get_or-map, get_or-reverse, length-reverse}
use Rattle.std.proofs.lemmas.List.FromFn.{get_or-range_with_len, length-range_with_len, get_or-map-range_with_len, length-map-range_with_len}
use Rattle.std.proofs.lemmas.Grind.{same_number_lists}
use Rattle.perm_braid.specs.Arrangements.{entry, place_of, places_of, identity, half_turn, IsOrder}

-- ---- Entries ----

-- the entry at a place, as slices have it
pub entry_get : (a : List ℕ) (k : ℕ) → entry a (suc k) ≡ get_or a k 0
entry_get [] k = refl
entry_get (x ∷ a) zero = refl
entry_get (x ∷ a) (suc k) = entry_get a k

-- the same for a place that is one above
pub entry_at : (a : List ℕ) (i k : ℕ) → i ≡ k + 1 → entry a i ≡ get_or a k 0
entry_at a i k at = let e : i ≡ suc k = omega (arith, at) in rw e (entry_get a k)

-- lists with the same entries are equal
pub same_entries
    : (a b : List ℕ)
    → length a ≡ length b
    → ((i : ℕ) → 1 ≤ i → i ≤ length a → entry a i ≡ entry b i)
    → a ≡ b
same_entries a b long same =
    same_number_lists a b long
    (λ k within. sym (entry_get a k) ∙ (same (suc k) (omega arith) (omega arith) ∙ entry_get b k))

-- the entry of a list with a function on each entry
pub entry-map
    : (f : ℕ → ℕ) (a : List ℕ) (i : ℕ)
    → 1 ≤ i
    → i ≤ length a
    → entry (map f a) i ≡ f (entry a i)
entry-map f a zero low high = absurd (omega arith)
entry-map f a (suc k) low high =
    entry_get (map f a) k ∙ (get_or-map f a k 0 0 (omega arith) ∙ sym (ap f (entry_get a k)))

-- the entry of a list backwards
pub entry-reverse
    : (a : List ℕ) (i : ℕ)
    → 1 ≤ i
    → i ≤ length a
    → entry (reverse a) i ≡ entry a (length a + 1 - i)
entry-reverse a zero low high = absurd (omega arith)
entry-reverse a (suc k) low high =
    entry_get (reverse a) k ∙ (get_or-reverse a k 0 (omega arith) ∙ sym (entry_at a
    (length a + 1 - suc k) (length a - 1 - k) (omega arith)))

-- ---- Places ----

-- where the first entry is the one that is looked for, its place is 1
pub place_of-here : (x : ℕ) (a : List ℕ) → place_of (x ∷ a) x ≡ 1
place_of-here x a = simp (eq-eqb x x refl)

-- where it is another, the place is one past that in the rest
pub place_of-there : (x e : ℕ) (a : List ℕ) → (x ≡ e → ⊥) → place_of (x ∷ a) e ≡ suc (place_of a e)
place_of-there x e a other = simp (ne_eqb x e other)

-- a place is at least 1
pub place_low : (a : List ℕ) (e : ℕ) → 1 ≤ place_of a e
place_low [] e = omega arith
place_low (x ∷ a) e = elim (cases_eq x e) [
  | inl same ↦ rw (same, place_of-here e a) (omega arith)
  | inr other ↦ rw (place_of-there x e a other) (omega arith)
]

-- what has no later place than the last stands at its place
pub entry-place_of : (a : List ℕ) (e : ℕ) → place_of a e ≤ length a → entry a (place_of a e) ≡ e
entry-place_of [] e within = absurd (omega arith)
entry-place_of (x ∷ a) e within = elim (cases_eq x e) [
  | inl same ↦ rw (same, place_of-here e a) refl
  | inr other ↦
      let there = place_of-there x e a other in
      rw there (entry_next x a (place_of a e) (place_low a e)
      ∙ entry-place_of a e (omega (arith, there, within)))
]
  where
    entry_next : (x : ℕ) (a : List ℕ) (k : ℕ) → 1 ≤ k → entry (x ∷ a) (suc k) ≡ entry a k
    entry_next x a zero low = absurd (omega arith)
    entry_next x a (suc k) low = refl

-- no entry stands before its place
pub place_least : (a : List ℕ) (e k : ℕ) → 1 ≤ k → k ≤ length a → entry a k ≡ e → place_of a e ≤ k
place_least a e zero low high at = absurd (omega arith)
place_least [] e (suc k) low high at = absurd (omega arith)
place_least (x ∷ a) e (suc zero) low high at = rw (at, place_of-here e a) (omega arith)
place_least (x ∷ a) e (suc (suc k)) low high at = elim (cases_eq x e) [
  | inl same ↦ rw (same, place_of-here e a) (omega arith)
  | inr other ↦
      let rest = place_least a e (suc k) (omega arith) (omega arith) at in
      rw (place_of-there x e a other) (omega (arith, rest))
]

-- ---- Orders ----

-- What is needed of a list of n entries and a function that undoes its entries.
pub record Undoes (n : ℕ) (a : List ℕ) (place : ℕ → ℕ) : Type 0 where
  pub size : length a ≡ n
  pub within : (i : ℕ) → 1 ≤ i → i ≤ n → (1 ≤ entry a i) × (entry a i ≤ n)
  pub back : (i : ℕ) → 1 ≤ i → i ≤ n → place (entry a i) ≡ i
  pub forth : (e : ℕ) → 1 ≤ e → e ≤ n → (1 ≤ place e) × (place e ≤ n) × (entry a (place e) ≡ e)

-- such a function gives the places
pub place_of-from
    : (n : ℕ) (a : List ℕ) (place : ℕ → ℕ)
    → Undoes n a place
    → (e : ℕ)
    → 1 ≤ e
    → e ≤ n
    → place_of a e ≡ place e
place_of-from n a place undoes e low high =
    let (least, most, at) = undoes.forth e low high in
    let before = place_least a e (place e) least (omega (arith, undoes.size, most)) at in
    let first = place_low a e in
    let found = entry-place_of a e (omega (arith, undoes.size, most, before)) in
    sym (undoes.back (place_of a e) first (omega (arith, most, before))) ∙ ap place found

-- and such a list is an order
pub IsOrder-from : (n : ℕ) (a : List ℕ) (place : ℕ → ℕ) → Undoes n a place → IsOrder n a
IsOrder-from n a place undoes = record {
  size = undoes.size;
  within = undoes.within;
  distinct = λ i low high.
      let (least, most) = undoes.within i low high in
      place_of-from n a place undoes (entry a i) least most ∙ undoes.back i low high;
  has = λ e low high.
      let (least, most, at) = undoes.forth e low high in
      rw (place_of-from n a place undoes e low high) most;
}

-- the entry at the place of a number is the number
pub IsOrder-entry
    : {n : ℕ} {a : List ℕ}
    → IsOrder n a
    → (e : ℕ)
    → 1 ≤ e
    → e ≤ n
    → entry a (place_of a e) ≡ e
IsOrder-entry {n} {a} order e low high =
    entry-place_of a e (omega (arith, order.size, order.has e low high))

-- ---- The identity and the half turn ----

-- the identity has n entries
pub length-identity : (n : ℕ) → length (identity n) ≡ n
length-identity n = length-range_with_len 1 n

-- each entry of the identity is its place
pub entry-identity : (n i : ℕ) → 1 ≤ i → i ≤ n → entry (identity n) i ≡ i
entry-identity n zero low high = absurd (omega arith)
entry-identity n (suc k) low high =
    entry_get (identity n) k ∙ (get_or-range_with_len 1 n k 0 (omega arith) ∙ omega arith)

-- places undo the entries of the identity
pub Undoes-identity : (n : ℕ) → Undoes n (identity n) (λ e. e)
Undoes-identity n = record {
  size = length-identity n;
  within = λ i low high. rw (entry-identity n i low high) (low, high);
  back = entry-identity n;
  forth = λ e low high. (low, high, entry-identity n e low high);
}

-- the identity is an order
pub IsOrder-identity : (n : ℕ) → IsOrder n (identity n)
IsOrder-identity n = IsOrder-from n (identity n) (λ e. e) (Undoes-identity n)

-- a number's place in the identity is the number
pub place_of-identity : (n e : ℕ) → 1 ≤ e → e ≤ n → place_of (identity n) e ≡ e
place_of-identity n = place_of-from n (identity n) (λ e. e) (Undoes-identity n)

-- the half turn has n entries
pub length-half_turn : (n : ℕ) → length (half_turn n) ≡ n
length-half_turn n = length-reverse (identity n) ∙ length-identity n

-- the entries of the half turn
pub entry-half_turn : (n i : ℕ) → 1 ≤ i → i ≤ n → entry (half_turn n) i ≡ n + 1 - i
entry-half_turn n i low high =
    let long = length-identity n in
    entry-reverse (identity n) i low (omega (arith, long, high))
    ∙ rw long (entry-identity n (n + 1 - i) (omega arith) (omega arith))

-- the half turn undoes itself
pub Undoes-half_turn : (n : ℕ) → Undoes n (half_turn n) (λ e. n + 1 - e)
Undoes-half_turn n = record {
  size = length-half_turn n;
  within = λ i low high. rw (entry-half_turn n i low high) (omega arith, omega arith);
  back = λ i low high. rw (entry-half_turn n i low high) (omega arith);
  forth = λ e low high. (
    omega arith,
    omega arith,
    entry-half_turn n (n + 1 - e) (omega arith) (omega arith)
        ∙ omega arith,
  );
}

-- the half turn is an order
pub IsOrder-half_turn : (n : ℕ) → IsOrder n (half_turn n)
IsOrder-half_turn n = IsOrder-from n (half_turn n) (λ e. n + 1 - e) (Undoes-half_turn n)

-- a number's place in the half turn
pub place_of-half_turn : (n e : ℕ) → 1 ≤ e → e ≤ n → place_of (half_turn n) e ≡ n + 1 - e
place_of-half_turn n = place_of-from n (half_turn n) (λ e. n + 1 - e) (Undoes-half_turn n)

-- ---- The list of places ----

-- there are as many places as entries
pub length-places_of : (a : List ℕ) → length (places_of a) ≡ length a
length-places_of a = length-map-range_with_len (place_of a) 1 (length a)

-- the entries of the list of places are places
pub entry-places_of : (a : List ℕ) (e : ℕ) → 1 ≤ e → e ≤ length a → entry (places_of a) e ≡ place_of a e
entry-places_of a zero low high = absurd (omega arith)
entry-places_of a (suc k) low high =
    entry_get (places_of a) k ∙ get_or-map-range_with_len (place_of a) 1 (length a) k (suc k) 0 (omega arith)
    (omega arith)

-- entries undo the places of an order
pub Undoes-places_of : {n : ℕ} {a : List ℕ} → IsOrder n a → Undoes n (places_of a) (entry a)
Undoes-places_of {n} {a} order = record {
  size = length-places_of a ∙ order.size;
  within = λ i low high.
      rw (at i low high) (place_low a i, order.has i low high);
  back = λ i low high. rw (at i low high) (IsOrder-entry order i low high);
  forth = λ e low high.
      let (least, most) = order.within e low high in
      (least, most, at (entry a e) least most ∙ order.distinct e low high);
}
  where
    at : (e : ℕ) → 1 ≤ e → e ≤ n → entry (places_of a) e ≡ place_of a e
    at e low high = entry-places_of a e low (omega (arith, order.size, high))

-- the places of an order are an order
pub IsOrder-places_of : {n : ℕ} {a : List ℕ} → IsOrder n a → IsOrder n (places_of a)
IsOrder-places_of {n} {a} order = IsOrder-from n (places_of a) (entry a) (Undoes-places_of order)

-- a list of n entries with the places of an order in it has these as its list of places
pub places_of-from
    : (n : ℕ) (a b : List ℕ)
    → length a ≡ n
    → length b ≡ n
    → ((e : ℕ) → 1 ≤ e → e ≤ n → place_of a e ≡ entry b e)
    → places_of a ≡ b
places_of-from n a b long_a long_b same =
    same_entries (places_of a) b (length-places_of a ∙ (long_a ∙ sym long_b))
    (λ e low high. let within : e ≤ length a = omega (arith, length-places_of a, high) in
    entry-places_of a e low within ∙ same e low (omega (arith, long_a, within)))

-- the places of the identity
pub places_of-identity : (n : ℕ) → places_of (identity n) ≡ identity n
places_of-identity n =
    places_of-from n (identity n) (identity n) (length-identity n) (length-identity n)
    (λ e low high. place_of-identity n e low high ∙ sym (entry-identity n e low high))

-- the places of the half turn
pub places_of-half_turn : (n : ℕ) → places_of (half_turn n) ≡ half_turn n
places_of-half_turn n =
    places_of-from n (half_turn n) (half_turn n) (length-half_turn n) (length-half_turn n)
    (λ e low high. place_of-half_turn n e low high ∙ sym (entry-half_turn n e low high))

-- an order with the places of the identity is the identity
pub identity-from_places : {n : ℕ} {a : List ℕ} → IsOrder n a → places_of a ≡ identity n → a ≡ identity n
identity-from_places {n} {a} order placed =
    same_entries a (identity n) (order.size ∙ sym (length-identity n))
    (λ i low high.
    let fits : i ≤ n = omega (arith, order.size, high) in
    let (least, most) = order.within i low fits in
    let at = entry-places_of a (entry a i) least (omega (arith, order.size, most)) in
    let value : entry (places_of a) (entry a i) ≡ entry a i =
    rw placed (entry-identity n (entry a i) least most) in
    sym value ∙ (at ∙ (order.distinct i low fits ∙ sym (entry-identity n i low fits))))
