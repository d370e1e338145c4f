-- Exchanges of neighbouring places, of neighbouring values, and the half turn of an arrangement.
--
-- An exchange of places of an order exchanges values of its places, and the other way round
-- (`places_of-swapped`, `places_of-values_swapped`): so what is shown of places holds of values too.
-- All three keep orders.
use Rattle.std.proofs.Common.{ℕ, zero, suc, ◌≡◌, ◌⊎◌, inl, inr, ◌+◌, ◌-◌, ◌<◌, ◌≤◌, ◌∙◌, List, [], ◌∷◌, length, reverse, refl, sym, ap, arith}
use Rattle.std.proofs.lemmas.Bool.{cases_eq, cases_lt, eq-eqb, ne_eqb}
use Rattle.std.proofs.lemmas.List.{length-reverse, length-map}
use Rattle.perm_braid.specs.Arrangements.{entry, place_of, places_of, swapped, neighbour, values_swapped, flip, IsOrder}
use Rattle.perm_braid.proofs.PlaceLemmas.{entry-map, entry-reverse, place_low, Undoes, place_of-from, IsOrder-from, IsOrder-entry, length-places_of, entry-places_of, places_of-from}

-- ---- Neighbours ----

-- What the other one of i and i + 1 is, case by case.
pub record IsNeighbour (i e f : ℕ) : Type 0 where
  pub low : e < i → f ≡ e
  pub here : e ≡ i → f ≡ i + 1
  pub next : e ≡ i + 1 → f ≡ i
  pub high : i + 1 < e → f ≡ e

-- that is what it is
pub neighbour_is : (i e : ℕ) → IsNeighbour i e (neighbour i e)
neighbour_is i e = elim (cases_eq e i) [
  | inl same ↦ rw (same, here i i refl) (record {
    low = λ p. absurd (omega arith);
    here = λ p. refl;
    next = λ p. absurd (omega arith);
    high = λ p. absurd (omega arith);
  })
  | inr first ↦ elim (cases_eq e (i + 1)) [
    | inl same ↦ rw (next i e first same) (record {
      low = λ p. absurd (omega arith);
      here = λ p. absurd (first p);
      next = λ p. refl;
      high = λ p. absurd (omega arith);
    })
    | inr second ↦ rw (other i e first second) (record {
      low = λ p. refl;
      here = λ p. absurd (first p);
      next = λ p. absurd (second p);
      high = λ p. refl;
    })
  ]
]
  where
    here : (i e : ℕ) → e ≡ i → neighbour i e ≡ i + 1
    here i e same = simp (eq-eqb e i same)

    next : (i e : ℕ) → (e ≡ i → ⊥) → e ≡ i + 1 → neighbour i e ≡ i
    next i e first same = simp (ne_eqb e i first, eq-eqb e (i + 1) same)

    other : (i e : ℕ) → (e ≡ i → ⊥) → (e ≡ i + 1 → ⊥) → neighbour i e ≡ e
    other i e first second = simp (ne_eqb e i first, ne_eqb e (i + 1) second)

-- The four cases, for what is decided by counting.
abbrev pub NeighbourCase : ℕ → ℕ → ℕ → Type 0
NeighbourCase i e f = (((e < i) × (f ≡ e)) ⊎ ((e ≡ i) × (f ≡ i + 1))) ⊎
    (((e ≡ i + 1) × (f ≡ i)) ⊎ ((i + 1 < e) × (f ≡ e)))

-- one of them holds
pub neighbour_case : (i e : ℕ) → NeighbourCase i e (neighbour i e)
neighbour_case i e =
    let one = neighbour_is i e in
    elim (cases_lt e i) [
      | inl below ↦ inl (inl (below, one.low below))
      | inr above ↦ elim (cases_eq e i) [
        | inl same ↦ inl (inr (same, one.here same))
        | inr beyond ↦ elim (cases_eq e (i + 1)) [
          | inl same ↦ inr (inl (same, one.next same))
          | inr far ↦ let high : i + 1 < e = omega arith in inr (inr (high, one.high high))
        ]
      ]
    ]

-- a number is a neighbour of its neighbour
pub neighbour-neighbour : (i e : ℕ) → neighbour i (neighbour i e) ≡ e
neighbour-neighbour i e =
    omega (arith, neighbour_case i e, neighbour_case i (neighbour i e))

-- a neighbour is within what i and i + 1 are within
pub neighbour_within
    : (n i e : ℕ)
    → 1 ≤ i
    → i < n
    → 1 ≤ e
    → e ≤ n
    → (1 ≤ neighbour i e) × (neighbour i e ≤ n)
neighbour_within n i e low high least most =
    let one = neighbour_case i e in (omega (arith, one), omega (arith, one))

-- ---- Exchanges of places ----

-- an exchange keeps the length
pub length-swapped : (i : ℕ) (a : List ℕ) → length (swapped i a) ≡ length a
length-swapped zero a = refl
length-swapped (suc i) [] = refl
length-swapped (suc zero) (x ∷ []) = refl
length-swapped (suc zero) (x ∷ y ∷ a) = refl
length-swapped (suc (suc i)) (x ∷ a) = ap suc (length-swapped (suc i) a)

-- the entry at the first of the two places
pub entry-swapped_here
    : (i j : ℕ) (a : List ℕ)
    → 1 ≤ i
    → j ≡ i + 1
    → j ≤ length a
    → entry (swapped i a) i ≡ entry a j
entry-swapped_here zero j a low next high = absurd (omega arith)
entry-swapped_here (suc i) j [] low next high = absurd (omega arith)
entry-swapped_here (suc zero) j (x ∷ []) low next high = absurd (omega arith)
entry-swapped_here (suc zero) j (x ∷ y ∷ a) low next high = let e : j ≡ 2 = omega arith in rw e refl
entry-swapped_here (suc (suc i)) zero (x ∷ a) low next high = absurd (omega arith)
entry-swapped_here (suc (suc i)) (suc zero) (x ∷ a) low next high = absurd (omega arith)
entry-swapped_here (suc (suc i)) (suc (suc j)) (x ∷ a) low next high =
    entry-swapped_here (suc i) (suc j) a (omega arith) (omega arith) (omega arith)

-- the entry at the second of the two places
pub entry-swapped_next
    : (i j : ℕ) (a : List ℕ)
    → 1 ≤ i
    → j ≡ i + 1
    → j ≤ length a
    → entry (swapped i a) j ≡ entry a i
entry-swapped_next zero j a low next high = absurd (omega arith)
entry-swapped_next (suc i) j [] low next high = absurd (omega arith)
entry-swapped_next (suc zero) j (x ∷ []) low next high = absurd (omega arith)
entry-swapped_next (suc zero) j (x ∷ y ∷ a) low next high = let e : j ≡ 2 = omega arith in rw e refl
entry-swapped_next (suc (suc i)) zero (x ∷ a) low next high = absurd (omega arith)
entry-swapped_next (suc (suc i)) (suc zero) (x ∷ a) low next high = absurd (omega arith)
entry-swapped_next (suc (suc i)) (suc (suc j)) (x ∷ a) low next high =
    entry-swapped_next (suc i) (suc j) a (omega arith) (omega arith) (omega arith)

-- the other entries
pub entry-swapped_other
    : (i j k : ℕ) (a : List ℕ)
    → j ≡ i + 1
    → (k < i) ⊎ (j < k)
    → entry (swapped i a) k ≡ entry a k
entry-swapped_other zero j k a next other = refl
entry-swapped_other (suc i) j k [] next other = refl
entry-swapped_other (suc zero) j k (x ∷ []) next other = refl
entry-swapped_other (suc zero) j zero (x ∷ y ∷ a) next other = refl
entry-swapped_other (suc zero) j (suc zero) (x ∷ y ∷ a) next other = absurd (omega arith)
entry-swapped_other (suc zero) j (suc (suc zero)) (x ∷ y ∷ a) next other = absurd (omega arith)
entry-swapped_other (suc zero) j (suc (suc (suc k))) (x ∷ y ∷ a) next other = refl
entry-swapped_other (suc (suc i)) j zero (x ∷ a) next other = refl
entry-swapped_other (suc (suc i)) j (suc zero) (x ∷ a) next other = refl
entry-swapped_other (suc (suc i)) zero (suc (suc k)) (x ∷ a) next other = absurd (omega arith)
entry-swapped_other (suc (suc i)) (suc j) (suc (suc k)) (x ∷ a) next other =
    entry-swapped_other (suc i) j (suc k) a (omega arith)
    (elim other [ inl below ↦ inl (omega arith) | inr above ↦ inr (omega arith) ])

-- the entries after an exchange
pub entry-swapped
    : (i k : ℕ) (a : List ℕ)
    → 1 ≤ i
    → i < length a
    → entry (swapped i a) k ≡ entry a (neighbour i k)
entry-swapped i k a low high =
    let one = neighbour_is i k in
    elim (cases_lt k i) [
      | inl below ↦ rw (one.low below) (entry-swapped_other i (i + 1) k a refl (inl below))
      | inr above ↦ elim (cases_eq k i) [
        | inl same ↦ rw (one.here same, same) (entry-swapped_here i (i + 1) a low refl (omega arith))
        | inr beyond ↦ elim (cases_eq k (i + 1)) [
          | inl same ↦ rw (one.next same, same) (entry-swapped_next i (i + 1) a low refl (omega arith))
          | inr far ↦ rw (one.high (omega arith)) (entry-swapped_other i (i + 1) k a refl (inr (omega arith)))
        ]
      ]
    ]

-- places undo the entries after an exchange
pub Undoes-swapped
    : {n : ℕ} {a : List ℕ}
    → IsOrder n a
    → (i : ℕ)
    → 1 ≤ i
    → i < n
    → Undoes n (swapped i a) (λ e. neighbour i (place_of a e))
Undoes-swapped {n} {a} order i low high = record {
  size = length-swapped i a ∙ order.size;
  within = λ k least most.
      let (l, m) = neighbour_within n i k low high least most in
      rw (at k) (order.within (neighbour i k) l m);
  back = λ k least most.
      let (l, m) = neighbour_within n i k low high least most in
      rw (at k, order.distinct (neighbour i k) l m) (neighbour-neighbour i k);
  forth = λ e least most.
      let (l, m) = neighbour_within n i (place_of a e) low high (place_low a e) (order.has e least most) in (
        l,
        m,
        at (neighbour i (place_of a e)) ∙ rw (neighbour-neighbour i (place_of a e))
            (IsOrder-entry order e least most),
      );
}
  where
    at : (k : ℕ) → entry (swapped i a) k ≡ entry a (neighbour i k)
    at k = entry-swapped i k a low (omega (arith, order.size, high))

-- an exchange of places keeps orders
pub IsOrder-swapped : {n : ℕ} {a : List ℕ} → IsOrder n a → (i : ℕ) → 1 ≤ i → i < n → IsOrder n (swapped i a)
IsOrder-swapped {n} {a} order i low high =
    IsOrder-from n (swapped i a) (λ e. neighbour i (place_of a e)) (Undoes-swapped order i low high)

-- the places after an exchange of places
pub place_of-swapped
    : {n : ℕ} {a : List ℕ}
    → IsOrder n a
    → (i e : ℕ)
    → 1 ≤ i
    → i < n
    → 1 ≤ e
    → e ≤ n
    → place_of (swapped i a) e ≡ neighbour i (place_of a e)
place_of-swapped {n} {a} order i e low high least most =
    place_of-from n (swapped i a) (λ e. neighbour i (place_of a e)) (Undoes-swapped order i low high) e least
    most

-- ---- Exchanges of values ----

-- an exchange of values keeps the length
pub length-values_swapped : (i : ℕ) (a : List ℕ) → length (values_swapped i a) ≡ length a
length-values_swapped i a = length-map a (neighbour i)

-- the entries after an exchange of values
pub entry-values_swapped
    : (i k : ℕ) (a : List ℕ)
    → 1 ≤ k
    → k ≤ length a
    → entry (values_swapped i a) k ≡ neighbour i (entry a k)
entry-values_swapped i k a = entry-map (neighbour i) a k

-- places undo the entries after an exchange of values
pub Undoes-values_swapped
    : {n : ℕ} {a : List ℕ}
    → IsOrder n a
    → (i : ℕ)
    → 1 ≤ i
    → i < n
    → Undoes n (values_swapped i a) (λ e. place_of a (neighbour i e))
Undoes-values_swapped {n} {a} order i low high = record {
  size = length-values_swapped i a ∙ order.size;
  within = λ k least most.
      let (l, m) = order.within k least most in
      rw (at k least most) (neighbour_within n i (entry a k) low high l m);
  back = λ k least most.
      rw (at k least most, neighbour-neighbour i (entry a k)) (order.distinct k least most);
  forth = λ e least most.
      let (l, m) = neighbour_within n i e low high least most in (
        place_low a (neighbour i e),
        order.has (neighbour i e) l m,
        at (place_of a (neighbour i e)) (place_low a (neighbour i e)) (order.has (neighbour i e) l m)
            ∙ rw (IsOrder-entry order (neighbour i e) l m) (neighbour-neighbour i e),
      );
}
  where
    at : (k : ℕ) → 1 ≤ k → k ≤ n → entry (values_swapped i a) k ≡ neighbour i (entry a k)
    at k least most = entry-values_swapped i k a least (omega (arith, order.size, most))

-- an exchange of values keeps orders
pub IsOrder-values_swapped
    : {n : ℕ} {a : List ℕ}
    → IsOrder n a
    → (i : ℕ)
    → 1 ≤ i
    → i < n
    → IsOrder n (values_swapped i a)
IsOrder-values_swapped {n} {a} order i low high =
    IsOrder-from n (values_swapped i a) (λ e. place_of a (neighbour i e))
    (Undoes-values_swapped order i low high)

-- the places after an exchange of values
pub place_of-values_swapped
    : {n : ℕ} {a : List ℕ}
    → IsOrder n a
    → (i e : ℕ)
    → 1 ≤ i
    → i < n
    → 1 ≤ e
    → e ≤ n
    → place_of (values_swapped i a) e ≡ place_of a (neighbour i e)
place_of-values_swapped {n} {a} order i e low high least most =
    place_of-from n (values_swapped i a) (λ e. place_of a (neighbour i e))
    (Undoes-values_swapped order i low high) e least most

-- ---- Each as the other on places ----

-- an exchange of places exchanges values of the places
pub places_of-swapped
    : {n : ℕ} {a : List ℕ}
    → IsOrder n a
    → (i : ℕ)
    → 1 ≤ i
    → i < n
    → places_of (swapped i a) ≡ values_swapped i (places_of a)
places_of-swapped {n} {a} order i low high =
    places_of-from n (swapped i a) (values_swapped i (places_of a)) (length-swapped i a ∙ order.size)
    (length-values_swapped i (places_of a) ∙ (length-places_of a ∙ order.size))
    (λ e least most.
    let long = length-places_of a in
    let size = order.size in
    place_of-swapped order i e low high least most
    ∙ (sym (ap (neighbour i) (entry-places_of a e least (omega (arith, size, most))))
    ∙ sym (entry-values_swapped i e (places_of a) least (omega (arith, long, size, most)))))

-- an exchange of values exchanges places of the places
pub places_of-values_swapped
    : {n : ℕ} {a : List ℕ}
    → IsOrder n a
    → (i : ℕ)
    → 1 ≤ i
    → i < n
    → places_of (values_swapped i a) ≡ swapped i (places_of a)
places_of-values_swapped {n} {a} order i low high =
    places_of-from n (values_swapped i a) (swapped i (places_of a)) (length-values_swapped i a ∙ order.size)
    (length-swapped i (places_of a) ∙ (length-places_of a ∙ order.size))
    (λ e least most.
    let long = length-places_of a in
    let size = order.size in
    let (l, m) = neighbour_within n i e low high least most in
    place_of-values_swapped order i e low high least most
    ∙ (sym (entry-places_of a (neighbour i e) l (omega (arith, size, m)))
    ∙ sym (entry-swapped i e (places_of a) low (omega (arith, long, size, high)))))

-- ---- The half turn of an arrangement ----

-- half a turn keeps the length
pub length-flip : (a : List ℕ) → length (flip a) ≡ length a
length-flip a = length-map (reverse a) (λ e. length a + 1 - e) ∙ length-reverse a

-- the entries after half a turn
pub entry-flip
    : (n i : ℕ) (a : List ℕ)
    → length a ≡ n
    → 1 ≤ i
    → i ≤ n
    → entry (flip a) i ≡ n + 1 - entry a (n + 1 - i)
entry-flip n i a long low high =
    let within : i ≤ length (reverse a) = omega (arith, length-reverse a, long, high) in
    entry-map (λ e. length a + 1 - e) (reverse a) i low within
    ∙ rw (entry-reverse a i low (omega (arith, long, high)), long) refl

-- places undo the entries after half a turn
pub Undoes-flip : {n : ℕ} {a : List ℕ} → IsOrder n a → Undoes n (flip a) (λ e. n + 1 - place_of a (n + 1 - e))
Undoes-flip {n} {a} order = record {
  size = length-flip a ∙ order.size;
  within = λ i low high.
      let inside = order.within (n + 1 - i) (omega arith) (omega arith) in
      rw (at i low high) (omega (arith, inside), omega (arith, inside));
  back = λ i low high.
      let inside = order.within (n + 1 - i) (omega arith) (omega arith) in
      let once : n + 1 - (n + 1 - entry a (n + 1 - i)) ≡ entry a (n + 1 - i) = omega (arith, inside) in
      rw (at i low high, once, order.distinct (n + 1 - i) (omega arith) (omega arith)) (omega arith);
  forth = λ e low high.
      let least = place_low a (n + 1 - e) in
      let most = order.has (n + 1 - e) (omega arith) (omega arith) in
      let once : n + 1 - (n + 1 - place_of a (n + 1 - e)) ≡ place_of a (n + 1 - e) =
      omega (arith, least, most) in (
        omega (arith, least, most),
        omega (arith, least, most),
        at (n + 1 - place_of a (n + 1 - e)) (omega (arith, least, most)) (omega (arith, least, most))
            ∙ rw (once, IsOrder-entry order (n + 1 - e) (omega arith) (omega arith)) (omega arith),
      );
}
  where
    at : (i : ℕ) → 1 ≤ i → i ≤ n → entry (flip a) i ≡ n + 1 - entry a (n + 1 - i)
    at i low high = entry-flip n i a order.size low high

-- half a turn keeps orders
pub IsOrder-flip : {n : ℕ} {a : List ℕ} → IsOrder n a → IsOrder n (flip a)
IsOrder-flip {n} {a} order = IsOrder-from n (flip a) (λ e. n + 1 - place_of a (n + 1 - e)) (Undoes-flip order)

-- the places after half a turn are the places, turned by half a turn
pub places_of-flip : {n : ℕ} {a : List ℕ} → IsOrder n a → places_of (flip a) ≡ flip (places_of a)
places_of-flip {n} {a} order =
    let size = order.size in
    places_of-from n (flip a) (flip (places_of a)) (length-flip a ∙ size)
    (length-flip (places_of a) ∙ (length-places_of a ∙ size))
    (λ e low high.
    place_of-from n (flip a) (λ e. n + 1 - place_of a (n + 1 - e)) (Undoes-flip order) e low high
    ∙ (sym (ap (λ k. n + 1 - k) (entry-places_of a (n + 1 - e) (omega arith) (omega (arith, size, low))))
    ∙ sym (entry-flip n e (places_of a) (length-places_of a ∙ size) low high)))
