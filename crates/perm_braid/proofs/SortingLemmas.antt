-- Sorting an order by exchanges of neighbours.
--
-- An exchange at a descent lowers the number of pairs that are out of order by one. An order with no
-- descent is the identity.
use Rattle.std.proofs.Common.{ℕ, zero, suc, ◌≡◌, ◌⊎◌, inl, inr, ◌+◌, ◌-◌, ◌<◌, ◌≤◌, ◌∙◌, Bool, true, false, cond, List, [], ◌∷◌, length, refl, sym, ap, arith}
use Rattle.std.specs.Prelude.{nat_lt}
use Rattle.std.proofs.lemmas.Bool.{cases_eq, cases_lt, lt-ltb, le-ltb}
use Rattle.perm_braid.specs.Arrangements.{entry, place_of, swapped, identity, IsOrder, IsRightDescent}
use Rattle.perm_braid.proofs.PlaceLemmas.{same_entries, length-identity, entry-identity}

-- ---- Pairs out of order ----

-- How many entries of the list are less than x.
abbrev pub count_below : ℕ → List ℕ → ℕ
count_below x [] = 0
count_below x (y ∷ b) = cond (nat_lt y x) (suc (count_below x b)) (count_below x b)

-- How many pairs of entries are out of order.
abbrev pub inversions : List ℕ → ℕ
inversions [] = 0
inversions (x ∷ b) = count_below x b + inversions b

-- an exchange doesn't change how many entries are less
count_below-swapped : (x i : ℕ) (b : List ℕ) → count_below x (swapped i b) ≡ count_below x b
count_below-swapped x zero b = refl
count_below-swapped x (suc i) [] = refl
count_below-swapped x (suc zero) (y ∷ []) = refl
count_below-swapped x (suc zero) (y ∷ z ∷ b) = go (nat_lt y x) (nat_lt z x) (count_below x b)
  where
    go : (c d : Bool) (k : ℕ) → cond d (suc (cond c (suc k) k)) (cond c (suc k) k) ≡ cond c
        (suc (cond d (suc k) k)) (cond d (suc k) k)
    go true true k = refl
    go true false k = refl
    go false true k = refl
    go false false k = refl
count_below-swapped x (suc (suc i)) (y ∷ b) =
    ap (λ k. cond (nat_lt y x) (suc k) k) (count_below-swapped x (suc i) b)

-- an exchange at a descent lowers the number of pairs out of order by one
pub inversions-swapped
    : (i j : ℕ) (b : List ℕ)
    → 1 ≤ i
    → j ≡ i + 1
    → j ≤ length b
    → entry b j < entry b i
    → inversions b ≡ suc (inversions (swapped i b))
inversions-swapped zero j b low next high down = absurd (omega arith)
inversions-swapped (suc i) j [] low next high down = absurd (omega arith)
inversions-swapped (suc zero) j (x ∷ []) low next high down = absurd (omega arith)
inversions-swapped (suc zero) j (x ∷ y ∷ b) low next high down =
    let e : j ≡ 2 = omega arith in
    go (rw e at down)
  where
    go : y < x → inversions (x ∷ y ∷ b) ≡ suc (inversions (y ∷ x ∷ b))
    go down = simp (lt-ltb y x down, le-ltb x y (omega arith)) (omega arith)
inversions-swapped (suc (suc i)) zero (x ∷ b) low next high down = absurd (omega arith)
inversions-swapped (suc (suc i)) (suc zero) (x ∷ b) low next high down = absurd (omega arith)
inversions-swapped (suc (suc i)) (suc (suc j)) (x ∷ b) low next high down =
    let rest = inversions-swapped (suc i) (suc j) b (omega arith) (omega arith) (omega arith) down in
    let same = count_below-swapped x (suc i) b in
    omega (arith, rest, same)

-- ---- Descents ----

-- No place of the first n is a descent.
abbrev pub IsStuck : ℕ → List ℕ → Type 0
IsStuck n b = (i : ℕ) → 1 ≤ i → i < n → IsRightDescent b i → ⊥

-- The least descent.
pub record IsFirstDescent (n : ℕ) (b : List ℕ) (i : ℕ) : Type 0 where
  pub low : 1 ≤ i
  pub high : i < n
  pub down : IsRightDescent b i
  pub first : (j : ℕ) → 1 ≤ j → j < i → IsRightDescent b j → ⊥

-- there is a least descent or none
pub first_descent : (n : ℕ) (b : List ℕ) → ((i : ℕ) × IsFirstDescent n b i) ⊎ IsStuck n b
first_descent zero b = inr (λ i low high down. absurd (omega arith))
first_descent (suc n) b = go (first_descent n b)
  where
    go
        : ((i : ℕ) × IsFirstDescent n b i) ⊎ IsStuck n b
        → ((i : ℕ) × IsFirstDescent (suc n) b i) ⊎ IsStuck (suc n) b
    go (inl (i, found)) = inl (
      i,
      record {
        low = found.low;
        high = omega (arith, found.high);
        down =
            found.down;
        first = found.first;
      },
    )
    go (inr stuck) = elim (cases_eq n 0) [
      | inl none ↦ inr (λ i low high down. absurd (omega arith))
      | inr some ↦ elim (cases_lt (entry b (n + 1)) (entry b n)) [
        | inl down ↦ inl (
          n,
          record {
            low = omega arith;
            high = omega arith;
            down = down;
            first =
                λ j low high. stuck j low high;
          },
        )
        | inr up ↦ inr (λ i low high down. elim (cases_eq i n) [
          | inl same ↦ absurd (let e : entry b (n + 1) < entry b n = rw same at down in omega arith)
          | inr other ↦ stuck i low (omega arith) down
        ])
      ]
    ]

-- two places of an order have different entries
pub entries_differ
    : {n : ℕ} {a : List ℕ}
    → IsOrder n a
    → (i j : ℕ)
    → 1 ≤ i
    → i < j
    → j ≤ n
    → entry a i ≡ entry a j
    → ⊥
entries_differ {n} {a} order i j low less high same =
    let one = order.distinct i low (omega arith) in
    let two = order.distinct j (omega arith) high in
    let both : place_of a (entry a i) ≡ place_of a (entry a j) = ap (place_of a) same in
    absurd (omega (arith, one, two, both))

-- the entries at a place that is no descent rise
pub entries_rise
    : {n : ℕ} {b : List ℕ}
    → IsOrder n b
    → (i : ℕ)
    → 1 ≤ i
    → i < n
    → (IsRightDescent b i → ⊥)
    → entry b i < entry b (i + 1)
entries_rise {n} {b} order i low high rises = elim (cases_lt (entry b i) (entry b (i + 1))) [
  | inl up ↦ up
  | inr down ↦ elim (cases_eq (entry b i) (entry b (i + 1))) [
    | inl same ↦ absurd (entries_differ order i (i + 1) low (omega arith) (omega arith) same)
    | inr other ↦ absurd (rises (omega arith))
  ]
]

-- so they are no less than their places
stuck_low : {n : ℕ} {b : List ℕ} → IsOrder n b → IsStuck n b → (k : ℕ) → k < n → suc k ≤ entry b (suc k)
stuck_low order stuck zero high = (order.within 1 (omega arith) (omega arith)).0
stuck_low {n} {b} order stuck (suc k) high =
    let before = stuck_low order stuck k (omega arith) in
    let up = entries_rise order (suc k) (omega arith) (omega arith)
    (stuck (suc k) (omega arith) (omega arith)) in
    let e : suc k + 1 ≡ suc (suc k) = omega arith in
    let next : entry b (suc k) < entry b (suc (suc k)) = rw e at up in
    omega (arith, before, next)

-- and no more
stuck_high : {n : ℕ} {b : List ℕ} → IsOrder n b → IsStuck n b → (d i : ℕ) → i + d ≡ n → 1 ≤ i → entry b i ≤ i
stuck_high order stuck zero i at low = let inside =
    order.within i low (omega arith) in omega (arith, inside, at)
stuck_high order stuck (suc d) i at low =
    let after = stuck_high order stuck d (i + 1) (omega arith) (omega arith) in
    let up = entries_rise order i low (omega arith) (stuck i low (omega arith)) in
    omega (arith, after, up)

-- an order with no descent is the identity
pub identity-from_stuck : {n : ℕ} {b : List ℕ} → IsOrder n b → IsStuck n b → b ≡ identity n
identity-from_stuck {n} {b} order stuck =
    same_entries b (identity n) (order.size ∙ sym (length-identity n))
    (λ i low high. at i low (omega (arith, order.size, high)))
  where
    at : (i : ℕ) → 1 ≤ i → i ≤ n → entry b i ≡ entry (identity n) i
    at zero low high = absurd (omega arith)
    at (suc k) low high =
        let most = stuck_high order stuck (n - suc k) (suc k) (omega arith) low in
        let most_not_less = stuck_low order stuck k (omega arith) in
        let e : entry b (suc k) ≡ suc k = omega arith in
        e ∙ sym (entry-identity n (suc k) low high)

-- the identity has no descent
pub IsStuck-identity : (n : ℕ) → IsStuck n (identity n)
IsStuck-identity n i low high down =
    let here = entry-identity n i low (omega arith) in
    let next = entry-identity n (i + 1) (omega arith) (omega arith) in
    absurd (omega (arith, here, next, down))

-- ---- Exchanges one after another ----

-- exchanges at far places commute
pub swapped_far
    : (i j : ℕ) (b : List ℕ)
    → i + 2 ≤ j
    → swapped i (swapped j b) ≡ swapped j (swapped i b)
swapped_far zero j b far = refl
swapped_far (suc i) zero b far = absurd (omega arith)
swapped_far (suc i) (suc zero) b far = absurd (omega arith)
swapped_far (suc i) (suc (suc zero)) b far = absurd (omega arith)
swapped_far (suc i) (suc (suc (suc j))) [] far = refl
swapped_far (suc zero) (suc (suc (suc j))) (x ∷ []) far = refl
swapped_far (suc zero) (suc (suc (suc j))) (x ∷ y ∷ b) far = refl
swapped_far (suc (suc i)) (suc (suc (suc j))) (x ∷ b) far =
    ap (λ c. x ∷ c) (swapped_far (suc i) (suc (suc j)) b (omega arith))

-- the two sides of the braid relation exchange the same
pub swapped_near
    : (i j : ℕ) (b : List ℕ)
    → 1 ≤ i
    → j ≡ i + 1
    → j < length b
    → swapped i (swapped j (swapped i b)) ≡ swapped j (swapped i (swapped j b))
swapped_near zero j b low next high = absurd (omega arith)
swapped_near (suc i) zero b low next high = absurd (omega arith)
swapped_near (suc i) (suc j) [] low next high = absurd (omega arith)
swapped_near (suc zero) (suc j) (x ∷ []) low next high = absurd (omega arith)
swapped_near (suc zero) (suc j) (x ∷ y ∷ []) low next high = absurd (omega arith)
swapped_near (suc zero) (suc j) (x ∷ y ∷ z ∷ b) low next high = let e : j ≡ 1 = omega arith in rw e refl
swapped_near (suc (suc i)) (suc zero) (x ∷ b) low next high = absurd (omega arith)
swapped_near (suc (suc i)) (suc (suc j)) (x ∷ b) low next high =
    ap (λ c. x ∷ c) (swapped_near (suc i) (suc j) b (omega arith) (omega arith) (omega arith))

-- an exchange at a descent, undone, is none
pub swapped-swapped : (i : ℕ) (b : List ℕ) → swapped i (swapped i b) ≡ b
swapped-swapped zero b = refl
swapped-swapped (suc i) [] = refl
swapped-swapped (suc zero) (x ∷ []) = refl
swapped-swapped (suc zero) (x ∷ y ∷ b) = refl
swapped-swapped (suc (suc i)) (x ∷ b) = ap (λ c. x ∷ c) (swapped-swapped (suc i) b)
