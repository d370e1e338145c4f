-- The word of an order has that order as its arrangement (`arranged-word`), and no two of its strands
-- cross twice (`IsSimple-word`).
use Rattle.std.proofs.Common.{ℕ, ◌≡◌, inl, inr, ◌+◌, ◌<◌, ◌≤◌, List, [], ◌∷◌, map, refl, sym, ap, arith}
use Rattle.std.proofs.lemmas.Bool.{cases_eq}
use Rattle.braid_word.specs.Words.{Letter, IsOn}
use Rattle.perm_braid.specs.Arrangements.{entry, place_of, swapped, neighbour, values_swapped, identity, IsOrder}
use Rattle.perm_braid.specs.SimpleWords.{arranged, arranged_from, IsRisingFrom, IsSimple, IsWordOf, nothing, least}
use Rattle.perm_braid.proofs.PlaceLemmas.{IsOrder-identity, IsOrder-entry, entry-identity}
use Rattle.perm_braid.proofs.SwapLemmas.{neighbour_case, neighbour-neighbour, entry-values_swapped, place_of-swapped, place_of-values_swapped, IsOrder-swapped, IsOrder-values_swapped}
use Rattle.perm_braid.proofs.SimpleWordLemmas.{IsOn-word, swapped-map, values_swapped-identity}

-- ---- The arrangement of the word ----

-- a function on each entry goes with the letters of a word
arranged_from-map
    : (f : ℕ → ℕ) (b : List ℕ) (w : List Letter)
    → arranged_from (map f b) w ≡ map f (arranged_from b w)
arranged_from-map f b [] = refl
arranged_from-map f b (x ∷ w) = rw (swapped-map f x.index b) (arranged_from-map f (swapped x.index b) w)

-- exchanging two values twice is nothing
pub values_swapped-values_swapped : (i : ℕ) (a : List ℕ) → values_swapped i (values_swapped i a) ≡ a
values_swapped-values_swapped i [] = refl
values_swapped-values_swapped i (x ∷ a) =
    rw (neighbour-neighbour i x) (ap (λ c. x ∷ c) (values_swapped-values_swapped i a))

-- the word of an order has that order as its arrangement
pub arranged-word : {n : ℕ} {a : List ℕ} {w : List Letter} → IsWordOf n a w → arranged n w ≡ a
arranged-word (nothing is) = sym is
arranged-word {n} {a} (least {w = w} i low high down first rest) =
    rw (
      ← values_swapped-identity n i low high,
      arranged_from-map (neighbour i) (identity n) w,
      arranged-word rest,
    )
    (values_swapped-values_swapped i a)

-- ---- The word is simple ----

-- where i stands before i + 1 after an exchange of rising entries, these aren't i and i + 1
crosses_not
    : {n : ℕ} {b : List ℕ}
    → IsOrder n b
    → (i j : ℕ)
    → 1 ≤ i
    → i < n
    → 1 ≤ j
    → j < n
    → entry b j < entry b (j + 1)
    → place_of (swapped j b) i < place_of (swapped j b) (i + 1)
    → (place_of b i < place_of b (i + 1))
    × (entry (values_swapped i b) j < entry (values_swapped i b) (j + 1))
crosses_not {n} {b} order i j low_i high_i low high up after =
    let one = place_of-swapped order j i low high low_i (omega arith) in
    let two = place_of-swapped order j (i + 1) low high (omega arith) (omega arith) in
    let place_one = neighbour_case j (place_of b i) in
    let place_two = neighbour_case j (place_of b (i + 1)) in
    let at_one = IsOrder-entry order i low_i (omega arith) in
    let at_two = IsOrder-entry order (i + 1) (omega arith) (omega arith) in
    let back_one = order.distinct j low (omega arith) in
    let back_two = order.distinct (j + 1) (omega arith) (omega arith) in
    let turned : (place_of b i ≡ j + 1) → (place_of b (i + 1) ≡ j) → ⊥ = λ p q.
    let first : entry b (j + 1) ≡ i = rw p at at_one in
    let second : entry b j ≡ i + 1 = rw q at at_two in
    absurd (omega arith) in
    let straight : (entry b j ≡ i) → (entry b (j + 1) ≡ i + 1) → ⊥ = λ p q.
    let first : place_of b i ≡ j = rw p at back_one in
    let second : place_of b (i + 1) ≡ j + 1 = rw q at back_two in
    absurd (omega (arith, one, two, place_one, place_two, after)) in
    let here = entry-values_swapped i j b low (omega (arith, order.size, high)) in
    let next = entry-values_swapped i (j + 1) b (omega arith) (omega (arith, order.size, high)) in
    let value_one = neighbour_case i (entry b j) in
    let value_two = neighbour_case i (entry b (j + 1)) in
    let before : place_of b i < place_of b (i + 1) = elim (cases_eq (place_of b i) (j + 1)) [
      | inl p ↦ elim (cases_eq (place_of b (i + 1)) j) [
        | inl q ↦ absurd (turned p q)
        | inr other ↦ omega (arith, one, two, place_one, place_two, after)
      ]
      | inr other ↦ omega (arith, one, two, place_one, place_two, after)
    ] in
    let rises : entry (values_swapped i b) j < entry (values_swapped i b) (j + 1) =
    elim (cases_eq (entry b j) i) [
      | inl p ↦ elim (cases_eq (entry b (j + 1)) (i + 1)) [
        | inl q ↦ absurd (straight p q)
        | inr other ↦ omega (arith, here, next, value_one, value_two, up)
      ]
      | inr other ↦ omega (arith, here, next, value_one, value_two, up)
    ] in
    (before, rises)

-- where i ends before i + 1, the strands i and i + 1 don't cross, and can be exchanged
rising-values_swapped
    : {n : ℕ} {b : List ℕ} (w : List Letter)
    → IsOrder n b
    → (i : ℕ)
    → 1 ≤ i
    → i < n
    → IsOn n w
    → IsRisingFrom b w
    → place_of (arranged_from b w) i < place_of (arranged_from b w) (i + 1)
    → (place_of b i < place_of b (i + 1)) × IsRisingFrom (values_swapped i b) w
rising-values_swapped [] order i low high on rising before = (before, tt)
rising-values_swapped {n} {b} (x ∷ w) order i low high on rising before =
    let j = x.index in
    let rest = rising-values_swapped w (IsOrder-swapped order j on.0.0 on.0.1) i low high on.1 rising.2
    before in
    let held = crosses_not order i j low high on.0.0 on.0.1 rising.1 rest.0 in
    (held.0, (rising.0, held.1, rw (swapped-map (neighbour i) j b) rest.1))

-- the letters of the word find rising entries
rising-word
    : {n : ℕ} {a : List ℕ} {w : List Letter}
    → IsOrder n a
    → IsWordOf n a w
    → IsRisingFrom (identity n) w
rising-word order (nothing is) = tt
rising-word {n} {a} order (least {w = w} i low high down first rest) =
    let turned = IsOrder-values_swapped order i low high in
    let here = place_of-values_swapped order i i low high low (omega arith) in
    let next = place_of-values_swapped order i (i + 1) low high (omega arith) (omega arith) in
    let up : neighbour i i ≡ i + 1 = omega (arith, neighbour_case i i) in
    let back : neighbour i (i + 1) ≡ i = omega (arith, neighbour_case i (i + 1)) in
    let before : place_of (values_swapped i a) i < place_of (values_swapped i a) (i + 1) =
    rw (here, next, up, back) down in
    let ends : place_of (arranged_from (identity n) w) i < place_of (arranged_from (identity n) w) (i + 1) =
    rw (arranged-word rest) before in
    let held = rising-values_swapped w (IsOrder-identity n) i low high (IsOn-word rest)
    (rising-word turned rest) ends in (
      refl,
      rw (entry-identity n i low (omega arith), entry-identity n (i + 1) (omega arith) (omega arith))
          (omega arith),
      rw (← values_swapped-identity n i low high) held.1,
    )

-- the word of an order is simple
pub IsSimple-word : {n : ℕ} {a : List ℕ} {w : List Letter} → IsOrder n a → IsWordOf n a w → IsSimple n w
IsSimple-word order is = (IsOn-word is, rising-word order is)
