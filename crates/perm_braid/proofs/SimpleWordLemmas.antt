-- Words of arrangements.
--
-- Each order has exactly one word (`word_exists`, `word_unique`). The word of an order sorts its places, so
-- all that is known of words that sort is known of it: a letter at a left descent can stand in front
-- (`IsWordOf-front`), and one at a place that is no right descent can be added at the end (`IsWordOf-end`).
use Rattle.std.proofs.Common.{ℕ, zero, suc, ◌≡◌, inl, inr, ◌+◌, ◌<◌, ◌≤◌, ◌∙◌, List, [], ◌∷◌, ◌++◌, map, refl, sym, ap, arith}
use Rattle.std.proofs.lemmas.Bool.{cases_eq, cases_lt}
use Rattle.braid_word.specs.Words.{Letter, IsOn}
use Rattle.braid_word.specs.Equivalence.{EquivalentOn}
use Rattle.perm_braid.specs.Arrangements.{entry, place_of, places_of, swapped, neighbour, values_swapped, identity, IsOrder, IsRightDescent, IsLeftDescent}
use Rattle.perm_braid.specs.SimpleWords.{generator, IsWordOf, nothing, least}
use Rattle.perm_braid.proofs.PlaceLemmas.{same_entries, place_of-from, Undoes-places_of, IsOrder-identity, IsOrder-entry, length-identity, entry-identity, entry-places_of, IsOrder-places_of, identity-from_places, places_of-identity}
use Rattle.perm_braid.proofs.SwapLemmas.{neighbour_case, neighbour_within, length-swapped, length-values_swapped, entry-swapped, entry-values_swapped, place_of-swapped, IsOrder-swapped, IsOrder-values_swapped, places_of-swapped, places_of-values_swapped}
use Rattle.perm_braid.proofs.SortingLemmas.{inversions, IsFirstDescent, first_descent, identity-from_stuck, IsStuck-identity, swapped-swapped, entries_rise}
use Rattle.perm_braid.proofs.SortingWordLemmas.{lowers, IsSorting, sorted, step, IsSorting-equivalent}

-- ---- Left descents are descents of the places ----

-- a left descent is a right descent of the places
pub descent_of_places
    : {n : ℕ} {a : List ℕ}
    → IsOrder n a
    → (i : ℕ)
    → 1 ≤ i
    → i < n
    → IsLeftDescent a i
    → IsRightDescent (places_of a) i
descent_of_places {n} {a} order i low high down =
    let here = entry-places_of a i low (omega (arith, order.size, high)) in
    let next = entry-places_of a (i + 1) (omega arith) (omega (arith, order.size, high)) in
    omega (arith, here, next, down)

-- and the other way round
pub descent_from_places
    : {n : ℕ} {a : List ℕ}
    → IsOrder n a
    → (i : ℕ)
    → 1 ≤ i
    → i < n
    → IsRightDescent (places_of a) i
    → IsLeftDescent a i
descent_from_places {n} {a} order i low high down =
    let here = entry-places_of a i low (omega (arith, order.size, high)) in
    let next = entry-places_of a (i + 1) (omega arith) (omega (arith, order.size, high)) in
    omega (arith, here, next, down)

-- the identity has no left descent
pub identity_rises : (n i : ℕ) → 1 ≤ i → i < n → IsLeftDescent (identity n) i → ⊥
identity_rises n i low high down =
    IsStuck-identity n i low high
    (rw (places_of-identity n) at (descent_of_places (IsOrder-identity n) i low high down))

-- an order with no left descent is the identity
pub identity-from_rising
    : {n : ℕ} {a : List ℕ}
    → IsOrder n a
    → ((i : ℕ) → 1 ≤ i → i < n → IsLeftDescent a i → ⊥)
    → a ≡ identity n
identity-from_rising order rising =
    identity-from_places order (identity-from_stuck (IsOrder-places_of order)
    (λ i low high down. rising i low high (descent_from_places order i low high down)))

-- ---- The word of an order ----

-- the word of an order sorts its places
pub IsSorting-word
    : {n : ℕ} {a : List ℕ} {w : List Letter}
    → IsOrder n a
    → IsWordOf n a w
    → IsSorting n (places_of a) w
IsSorting-word {n} order (nothing is) = sorted (rw is (places_of-identity n))
IsSorting-word {n} order (least i low high down first rest) =
    step i low high (descent_of_places order i low high down)
    (rw (places_of-values_swapped order i low high) at (IsSorting-word
    (IsOrder-values_swapped order i low high) rest))

-- the word of an order is on as many strands
pub IsOn-word : {n : ℕ} {a : List ℕ} {w : List Letter} → IsWordOf n a w → IsOn n w
IsOn-word (nothing is) = tt
IsOn-word (least i low high down first rest) = ((low, high), IsOn-word rest)

-- the least descent of the places, and the word of what is left
word_step
    : {n : ℕ} {a : List ℕ} {w : List Letter}
    → IsOrder n a
    → (i : ℕ)
    → IsFirstDescent n (places_of a) i
    → IsWordOf n (values_swapped i a) w
    → IsWordOf n a (generator i ∷ w)
word_step order i found rest =
    least i found.low found.high (descent_from_places order i found.low found.high found.down)
    (λ j low less down. found.first j low less
    (descent_of_places order j low (omega (arith, less, found.high)) down))
    rest

-- what is left has fewer pairs of places out of order
pub word_lowers
    : {n : ℕ} {a : List ℕ}
    → IsOrder n a
    → (i : ℕ)
    → 1 ≤ i
    → i < n
    → IsRightDescent (places_of a) i
    → inversions (places_of a) ≡ suc (inversions (places_of (values_swapped i a)))
word_lowers order i low high down =
    rw (places_of-values_swapped order i low high) (lowers (IsOrder-places_of order) i low high down)

-- an order has a word if its places have at most k pairs out of order
word_within
    : (n k : ℕ) (a : List ℕ)
    → inversions (places_of a) ≤ k
    → IsOrder n a
    → (w : List Letter) × IsWordOf n a w
word_within n zero a few order = elim (first_descent n (places_of a)) [
  | inl some ↦
      let (i, found) = some in
      let less = word_lowers order i found.low found.high found.down in absurd (omega (arith, less, few))
  | inr stuck ↦
      ([], nothing (identity-from_places order (identity-from_stuck (IsOrder-places_of order) stuck)))
]
word_within n (suc k) a few order = elim (first_descent n (places_of a)) [
  | inl some ↦
      let (i, found) = some in
      let less = word_lowers order i found.low found.high found.down in
      let (w, rest) = word_within n k (values_swapped i a) (omega (arith, less, few))
      (IsOrder-values_swapped order i found.low found.high) in
      (generator i ∷ w, word_step order i found rest)
  | inr stuck ↦
      ([], nothing (identity-from_places order (identity-from_stuck (IsOrder-places_of order) stuck)))
]

-- each order has a word
pub word_exists : {n : ℕ} {a : List ℕ} → IsOrder n a → (w : List Letter) × IsWordOf n a w
word_exists {n} {a} order = word_within n (inversions (places_of a)) a (omega arith) order

-- and only one
pub word_unique : {n : ℕ} {a : List ℕ} {u v : List Letter} → IsWordOf n a u → IsWordOf n a v → u ≡ v
word_unique (nothing is) (nothing same) = refl
word_unique {n} (nothing is) (least j low high down first rest) =
    absurd (identity_rises n j low high (rw is at down))
word_unique {n} (least i low high down first rest) (nothing is) =
    absurd (identity_rises n i low high (rw is at down))
word_unique {n} {a} (least {w = u} i low high down first rest)
    (least {w = v} j low_j high_j down_j first_j rest_j) =
    elim (cases_lt i j) [
      | inl less ↦ absurd (first_j i low less down)
      | inr above ↦ elim (cases_lt j i) [
        | inl less ↦ absurd (first j low_j less down_j)
        | inr below ↦
            let same : i ≡ j = omega arith in
            let other : IsWordOf n (values_swapped i a) v = rw same rest_j in
            rw (same, word_unique rest other) refl
      ]
    ]

-- ---- Letters in front ----

-- a letter at a left descent can stand in front
pub IsWordOf-front
    : {n : ℕ} {a : List ℕ} {u v : List Letter}
    → IsOrder n a
    → (i : ℕ)
    → 1 ≤ i
    → i < n
    → IsLeftDescent a i
    → IsWordOf n a u
    → IsWordOf n (values_swapped i a) v
    → EquivalentOn n u (generator i ∷ v)
IsWordOf-front order i low high down one two =
    let rest = IsSorting-word (IsOrder-values_swapped order i low high) two in
    IsSorting-equivalent (IsOrder-places_of order) (IsSorting-word order one)
    (step i low high (descent_of_places order i low high down)
    (rw (places_of-values_swapped order i low high) at rest))

-- ---- Letters at the end ----

-- a function on each entry goes with exchanges of places
pub swapped-map : (f : ℕ → ℕ) (i : ℕ) (b : List ℕ) → swapped i (map f b) ≡ map f (swapped i b)
swapped-map f zero b = refl
swapped-map f (suc i) [] = refl
swapped-map f (suc zero) (x ∷ []) = refl
swapped-map f (suc zero) (x ∷ y ∷ b) = refl
swapped-map f (suc (suc i)) (x ∷ b) = ap (λ c. f x ∷ c) (swapped-map f (suc i) b)

-- on the identity, values are exchanged as places are
pub values_swapped-identity
    : (n i : ℕ)
    → 1 ≤ i
    → i < n
    → values_swapped i (identity n) ≡ swapped i (identity n)
values_swapped-identity n i low high =
    let long = length-identity n in
    same_entries (values_swapped i (identity n)) (swapped i (identity n))
    (length-values_swapped i (identity n) ∙ sym (length-swapped i (identity n)))
    (λ k least most.
    let fits : k ≤ n = omega (arith, length-values_swapped i (identity n), long, most) in
    let (l, m) = neighbour_within n i k low high least fits in
    entry-values_swapped i k (identity n) least (omega (arith, long, fits))
    ∙ (ap (neighbour i) (entry-identity n k least fits)
    ∙ sym (entry-swapped i k (identity n) low (omega (arith, long, high))
    ∙ entry-identity n (neighbour i k) l m)))

-- a descent stays one where the values i and i + 1 are exchanged, if i stands before i + 1
descent-values_swapped
    : {n : ℕ} {b : List ℕ}
    → IsOrder n b
    → (i j : ℕ)
    → 1 ≤ j
    → j < n
    → place_of b i < place_of b (i + 1)
    → IsRightDescent b j
    → IsRightDescent (values_swapped i b) j
descent-values_swapped {n} {b} order i j low high before down =
    let here = entry-values_swapped i j b low (omega (arith, order.size, high)) in
    let next = entry-values_swapped i (j + 1) b (omega arith) (omega (arith, order.size, high)) in
    let one = order.distinct j low (omega arith) in
    let two = order.distinct (j + 1) (omega arith) (omega arith) in
    let not_both : (entry b j ≡ i + 1) → (entry b (j + 1) ≡ i) → ⊥ = λ p q.
    let first : place_of b (i + 1) ≡ j = rw p at one in
    let second : place_of b i ≡ j + 1 = rw q at two in
    absurd (omega arith) in
    let case_here = neighbour_case i (entry b j) in
    let case_next = neighbour_case i (entry b (j + 1)) in
    rw (here, next) (elim (cases_eq (entry b j) (i + 1)) [
      | inl p ↦ elim (cases_eq (entry b (j + 1)) i) [
        | inl q ↦ absurd (not_both p q)
        | inr other ↦ omega (arith, case_here, case_next, down)
      ]
      | inr other ↦ omega (arith, case_here, case_next, down)
    ])

-- an exchange at a descent leaves i before i + 1
before-swapped
    : {n : ℕ} {b : List ℕ}
    → IsOrder n b
    → (i j : ℕ)
    → 1 ≤ i
    → i < n
    → 1 ≤ j
    → j < n
    → place_of b i < place_of b (i + 1)
    → IsRightDescent b j
    → place_of (swapped j b) i < place_of (swapped j b) (i + 1)
before-swapped {n} {b} order i j low_i high_i low high before down =
    let here = place_of-swapped order j i low high low_i (omega arith) in
    let next = place_of-swapped order j (i + 1) low high (omega arith) (omega arith) in
    let one = IsOrder-entry order i low_i (omega arith) in
    let two = IsOrder-entry order (i + 1) (omega arith) (omega arith) in
    let not_both : (place_of b i ≡ j) → (place_of b (i + 1) ≡ j + 1) → ⊥ = λ p q.
    let first : entry b j ≡ i = rw p at one in
    let second : entry b (j + 1) ≡ i + 1 = rw q at two in
    absurd (omega arith) in
    let case_here = neighbour_case j (place_of b i) in
    let case_next = neighbour_case j (place_of b (i + 1)) in
    rw (here, next) (elim (cases_eq (place_of b i) j) [
      | inl p ↦ elim (cases_eq (place_of b (i + 1)) (j + 1)) [
        | inl q ↦ absurd (not_both p q)
        | inr other ↦ omega (arith, case_here, case_next, before)
      ]
      | inr other ↦ omega (arith, case_here, case_next, before)
    ])

-- where i stands before i + 1, one letter more sorts what has them exchanged
IsSorting-end
    : {n : ℕ} {b : List ℕ} {w : List Letter}
    → IsOrder n b
    → (i : ℕ)
    → 1 ≤ i
    → i < n
    → place_of b i < place_of b (i + 1)
    → IsSorting n b w
    → IsSorting n (values_swapped i b) (w ++ generator i ∷ [])
IsSorting-end {n} {b} order i low high before (sorted is) =
    rw (is, values_swapped-identity n i low high) (one_letter n i low high)
  where
    one_letter : (n i : ℕ) → 1 ≤ i → i < n → IsSorting n (swapped i (identity n)) (generator i ∷ [])
    one_letter n i low high = step i low high
        (let long = length-identity n in
        let here = entry-swapped i i (identity n) low (omega (arith, long, high)) in
        let next = entry-swapped i (i + 1) (identity n) low (omega (arith, long, high)) in
        let case_here = neighbour_case i i in
        let case_next = neighbour_case i (i + 1) in
        let up : neighbour i i ≡ i + 1 = omega (arith, case_here) in
        let back : neighbour i (i + 1) ≡ i = omega (arith, case_next) in
        rw (
          here,
          next,
          up,
          back,
          entry-identity n i low (omega arith),
          entry-identity n (i + 1) (omega arith)
              (omega arith),
        ) (omega arith))
        (sorted (swapped-swapped i (identity n)))
IsSorting-end {n} {b} order i low high before (step {w = w} j low_j high_j down rest) =
    step j low_j high_j (descent-values_swapped order i j low_j high_j before down)
    (rw (swapped-map (neighbour i) j b)
    (IsSorting-end (IsOrder-swapped order j low_j high_j) i low high
    (before-swapped order i j low high low_j high_j before down) rest))

-- a letter at a place that is no right descent can be added at the end
pub IsWordOf-end
    : {n : ℕ} {a : List ℕ} {u v : List Letter}
    → IsOrder n a
    → (i : ℕ)
    → 1 ≤ i
    → i < n
    → (IsRightDescent a i → ⊥)
    → IsWordOf n a u
    → IsWordOf n (swapped i a) v
    → EquivalentOn n v (u ++ generator i ∷ [])
IsWordOf-end {n} {a} order i low high rises one two =
    let placed = IsOrder-places_of order in
    let at_i = place_of-from n (places_of a) (entry a) (Undoes-places_of order) i low (omega arith) in
    let at_j = place_of-from n (places_of a) (entry a) (Undoes-places_of order) (i + 1) (omega arith)
    (omega arith) in
    let before : place_of (places_of a) i < place_of (places_of a) (i + 1) =
    rw (at_i, at_j) (entries_rise order i low high rises) in
    let longer = IsSorting-end placed i low high before (IsSorting-word order one) in
    IsSorting-equivalent (IsOrder-places_of (IsOrder-swapped order i low high))
    (IsSorting-word (IsOrder-swapped order i low high) two) (rw (places_of-swapped order i low high) longer)
