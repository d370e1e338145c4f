-- The words of sortings.
--
-- All words that sort an order, each letter at a descent, are equivalent (`IsSorting-equivalent`, after
-- H. Matsumoto, 1964): where two words begin with different letters, both beginnings can be completed to
-- the two sides of a relation, and the rest is by induction on the number of pairs out of order.
use Rattle.std.proofs.Common.{ℕ, zero, suc, ◌≡◌, inl, inr, ◌+◌, ◌<◌, ◌≤◌, false, List, [], ◌∷◌, refl, arith}
use Rattle.std.proofs.lemmas.Bool.{cases_eq, cases_lt}
use Rattle.braid_word.specs.Words.{Letter, IsOn}
use Rattle.braid_word.specs.Equivalence.{EquivalentOn, stay}
use Rattle.braid_word.proofs.EquivalenceLemmas.{EquivalentOn-sym, EquivalentOn-trans, EquivalentOn-before, EquivalentOn-after}
use Rattle.braid_word.proofs.CommutingLemmas.{EquivalentOn-swap_far, EquivalentOn-braid}
use Rattle.perm_braid.specs.Arrangements.{entry, swapped, identity, IsOrder, IsRightDescent}
use Rattle.perm_braid.specs.SimpleWords.{generator}
use Rattle.perm_braid.proofs.SwapLemmas.{length-swapped, entry-swapped_here, entry-swapped_next, entry-swapped_other, IsOrder-swapped}
use Rattle.perm_braid.proofs.SortingLemmas.{inversions, inversions-swapped, IsFirstDescent, first_descent, identity-from_stuck, IsStuck-identity, swapped_far, swapped_near}

-- ---- Words that sort ----

-- The word sorts the order b: each letter exchanges the entries of a descent, and the identity is left.
pub data IsSorting (n : ℕ) : List ℕ → List Letter → Type 0 where
  sorted : {b : List ℕ} → b ≡ identity n → IsSorting n b []
  step : {b : List ℕ} {w : List Letter} (i : ℕ) → 1 ≤ i → i < n → IsRightDescent b i
      → IsSorting n (swapped i b) w → IsSorting n b (generator i ∷ w)

-- such a word is on n strands
pub IsOn-sorting : {n : ℕ} {b : List ℕ} {w : List Letter} → IsSorting n b w → IsOn n w
IsOn-sorting (sorted is) = tt
IsOn-sorting (step i low high down rest) = ((low, high), IsOn-sorting rest)

-- an exchange at a descent of an order lowers the number of pairs out of order
pub lowers
    : {n : ℕ} {b : List ℕ}
    → IsOrder n b
    → (i : ℕ)
    → 1 ≤ i
    → i < n
    → IsRightDescent b i
    → inversions b ≡ suc (inversions (swapped i b))
lowers {n} {b} order i low high down =
    inversions-swapped i (i + 1) b low refl (omega (arith, order.size, high)) down

-- so does one at the least descent
first_lowers
    : (n : ℕ) (b : List ℕ)
    → IsOrder n b
    → (i : ℕ)
    → IsFirstDescent n b i
    → inversions b ≡ suc (inversions (swapped i b))
first_lowers n b order i found = lowers order i found.low found.high found.down

-- each order is sorted by a word
sorting_exists
    : (n k : ℕ) (b : List ℕ)
    → inversions b ≤ k
    → IsOrder n b
    → (w : List Letter) × IsSorting n b w
sorting_exists n zero b few order = elim (first_descent n b) [
  | inl some ↦
      let (i, found) = some in
      let less = first_lowers n b order i found in
      absurd (omega (arith, less, few))
  | inr stuck ↦ ([], sorted (identity-from_stuck order stuck))
]
sorting_exists n (suc k) b few order = elim (first_descent n b) [
  | inl some ↦
      let (i, found) = some in
      let less = first_lowers n b order i found in
      let (w, rest) = sorting_exists n k (swapped i b) (omega (arith, less, few))
      (IsOrder-swapped order i found.low found.high) in
      (generator i ∷ w, step i found.low found.high found.down rest)
  | inr stuck ↦ ([], sorted (identity-from_stuck order stuck))
]

-- ---- All words that sort are equivalent ----

-- Words that sort an order with at most k pairs out of order are equivalent.
abbrev pub Joins : ℕ → ℕ → Type 0
Joins n k = (b : List ℕ) (u v : List Letter) → inversions b ≤ k → IsOrder n b → IsSorting n b u
    → IsSorting n b v
    → EquivalentOn n u v

-- two words that begin with one letter
join_same
    : (n k i j : ℕ) (b : List ℕ) (u v : List Letter)
    → Joins n k
    → inversions b ≤ suc k
    → IsOrder n b
    → i ≡ j
    → 1 ≤ i
    → i < n
    → IsRightDescent b i
    → IsSorting n (swapped i b) u
    → IsSorting n (swapped j b) v
    → EquivalentOn n (generator i ∷ u) (generator j ∷ v)
join_same n k i j b u v joins few order same low high down one two =
    let less = lowers order i low high down in
    let other : IsSorting n (swapped i b) v = rw same two in
    let chain = joins (swapped i b) u v (omega (arith, less, few)) (IsOrder-swapped order i low high) one
    other in
    rw (← same) (EquivalentOn-after (generator i ∷ []) ((low, high), tt) chain)

-- two words that begin with far letters
join_far
    : (n k i j : ℕ) (b : List ℕ) (u v : List Letter)
    → Joins n k
    → inversions b ≤ suc k
    → IsOrder n b
    → i + 2 ≤ j
    → 1 ≤ i
    → j < n
    → IsRightDescent b i
    → IsRightDescent b j
    → IsSorting n (swapped i b) u
    → IsSorting n (swapped j b) v
    → EquivalentOn n (generator i ∷ u) (generator j ∷ v)
join_far n k i j b u v joins few order far low high down_i down_j one two =
    let first = IsOrder-swapped order i low (omega arith) in
    let second = IsOrder-swapped order j (omega arith) high in
    let both = IsOrder-swapped first j (omega arith) high in
    let (w, rest) = sorting_exists n (inversions (swapped j (swapped i b))) (swapped j (swapped i b))
    (omega arith) both in
    let turned : IsSorting n (swapped i (swapped j b)) w = rw (swapped_far i j b far) rest in
    let still_j : IsRightDescent (swapped i b) j =
    rw (
      entry-swapped_other i (i + 1) j b refl (inr (omega arith)),
      entry-swapped_other i (i + 1) (j + 1) b
          refl (inr (omega arith)),
    ) down_j in
    let still_i : IsRightDescent (swapped j b) i =
    rw (
      entry-swapped_other j (j + 1) i b refl (inl (omega arith)),
      entry-swapped_other j (j + 1) (i + 1) b
          refl (inl (omega arith)),
    ) down_i in
    let less_i = lowers order i low (omega arith) down_i in
    let less_j = lowers order j (omega arith) high down_j in
    let u_is = joins (swapped i b) u (generator j ∷ w) (omega (arith, less_i, few)) first one
    (step j (omega arith) high still_j rest) in
    let v_is = joins (swapped j b) v (generator i ∷ w) (omega (arith, less_j, few)) second two
    (step i low (omega arith) still_i turned) in
    EquivalentOn-trans (EquivalentOn-after (generator i ∷ []) ((low, omega arith), tt) u_is)
    (EquivalentOn-trans
    (EquivalentOn-before w (IsOn-sorting rest)
    (EquivalentOn-swap_far n (generator i) (generator j) (inl far)
    ((low, omega arith), ((omega arith, high), tt))))
    (EquivalentOn-after (generator j ∷ []) ((omega arith, high), tt) (EquivalentOn-sym v_is)))

-- two words that begin with neighbouring letters
--
-- The letters i j i and j i j lead from b to one order (`swapped_near`), and some word w sorts that order. By
-- induction on the pairs out of order u is equivalent to j i w and v to i j w, and the relation joins the
-- two.
join_near
    : (n k i j : ℕ) (b : List ℕ) (u v : List Letter)
    → Joins n k
    → inversions b ≤ suc k
    → IsOrder n b
    → j ≡ i + 1
    → 1 ≤ i
    → j < n
    → IsRightDescent b i
    → IsRightDescent b j
    → IsSorting n (swapped i b) u
    → IsSorting n (swapped j b) v
    → EquivalentOn n (generator i ∷ u) (generator j ∷ v)
join_near n k i j b u v joins few order next low high down_i down_j one two =
    let low_j : 1 ≤ j = omega arith in
    let high_i : i < n = omega arith in
    let long = order.size in
    let first = IsOrder-swapped order i low high_i in
    let second = IsOrder-swapped order j low_j high in
    let first_two = IsOrder-swapped first j low_j high in
    let three = IsOrder-swapped first_two i low high_i in
    let (w, rest) = sorting_exists n (inversions (swapped i (swapped j (swapped i b))))
    (swapped i (swapped j (swapped i b))) (omega arith) three in
    let turned : IsSorting n (swapped j (swapped i (swapped j b))) w =
    rw (← swapped_near i j b low next (omega (arith, long, high))) rest in
    let x_y : entry b j < entry b i = rw next down_i in
    let a_i : entry (swapped i b) i ≡ entry b j =
    entry-swapped_here i j b low next (omega (arith, long, high)) in
    let a_j : entry (swapped i b) j ≡ entry b i =
    entry-swapped_next i j b low next (omega (arith, long, high)) in
    let a_k : entry (swapped i b) (j + 1) ≡ entry b (j + 1) =
    entry-swapped_other i j (j + 1) b next (inr (omega arith)) in
    let c_j : entry (swapped j b) j ≡ entry b (j + 1) =
    entry-swapped_here j (j + 1) b low_j refl (omega (arith, long, high)) in
    let c_k : entry (swapped j b) (j + 1) ≡ entry b j =
    entry-swapped_next j (j + 1) b low_j refl (omega (arith, long, high)) in
    let c_i : entry (swapped j b) i ≡ entry b i =
    entry-swapped_other j (j + 1) i b refl (inl (omega arith)) in
    let long_i = length-swapped i b in
    let long_j = length-swapped j b in
    let aa_i : entry (swapped j (swapped i b)) i ≡ entry (swapped i b) i =
    entry-swapped_other j (j + 1) i (swapped i b) refl (inl (omega arith)) in
    let aa_j : entry (swapped j (swapped i b)) j ≡ entry (swapped i b) (j + 1) =
    entry-swapped_here j (j + 1) (swapped i b) low_j refl (omega (arith, long, long_i, high)) in
    let cc_j : entry (swapped i (swapped j b)) j ≡ entry (swapped j b) i =
    entry-swapped_next i j (swapped j b) low next (omega (arith, long, long_j, high)) in
    let cc_k : entry (swapped i (swapped j b)) (j + 1) ≡ entry (swapped j b) (j + 1) =
    entry-swapped_other i j (j + 1) (swapped j b) next (inr (omega arith)) in
    let a_down : IsRightDescent (swapped i b) j = omega (arith, a_j, a_k, down_j, x_y) in
    let aa_down : IsRightDescent (swapped j (swapped i b)) i =
    rw (← next) (omega (arith, aa_i, aa_j, a_i, a_k, down_j)) in
    let c_down : IsRightDescent (swapped j b) i = rw (← next) (omega (arith, c_i, c_j, down_j, x_y)) in
    let cc_down : IsRightDescent (swapped i (swapped j b)) j = omega (arith, cc_j, cc_k, c_i, c_k, x_y) in
    let less_i = lowers order i low high_i down_i in
    let less_j = lowers order j low_j high down_j in
    let u_is = joins (swapped i b) u (generator j ∷ generator i ∷ w) (omega (arith, less_i, few)) first one
    (step j low_j high a_down (step i low high_i aa_down rest)) in
    let v_is = joins (swapped j b) v (generator i ∷ generator j ∷ w) (omega (arith, less_j, few)) second two
    (step i low high_i c_down (step j low_j high cc_down turned)) in
    EquivalentOn-trans (EquivalentOn-after (generator i ∷ []) ((low, high_i), tt) u_is)
    (EquivalentOn-trans
    (EquivalentOn-before w (IsOn-sorting rest)
    (EquivalentOn-braid n i j false (inl next) ((low, high_i), ((low_j, high), tt))))
    (EquivalentOn-after (generator j ∷ []) ((low_j, high), tt) (EquivalentOn-sym v_is)))

-- two words whose first letters are in this order
join_ordered
    : (n k i j : ℕ) (b : List ℕ) (u v : List Letter)
    → Joins n k
    → inversions b ≤ suc k
    → IsOrder n b
    → i < j
    → 1 ≤ i
    → j < n
    → IsRightDescent b i
    → IsRightDescent b j
    → IsSorting n (swapped i b) u
    → IsSorting n (swapped j b) v
    → EquivalentOn n (generator i ∷ u) (generator j ∷ v)
join_ordered n k i j b u v joins few order less low high down_i down_j one two = elim (cases_eq j (i + 1)) [
  | inl next ↦ join_near n k i j b u v joins few order next low high down_i down_j one two
  | inr far ↦ join_far n k i j b u v joins few order (omega arith) low high down_i down_j one two
]

-- all words that sort an order are equivalent
IsSorting-joins : (n k : ℕ) → Joins n k
IsSorting-joins n k b [] [] few order (sorted is) (sorted same) = stay tt
IsSorting-joins n k b [] _ few order (sorted is) (step j low high down two) =
    absurd (IsStuck-identity n j low high (rw is at down))
IsSorting-joins n k b _ [] few order (step i low high down one) (sorted is) =
    absurd (IsStuck-identity n i low high (rw is at down))
IsSorting-joins n zero b _ _ few order (step i low high down one) (step j low_j high_j down_j two) =
    let less = lowers order i low high down in absurd (omega (arith, less, few))
IsSorting-joins n (suc k) b _ _ few order (step {w = u} i low high down one)
    (step {w = v} j low_j high_j down_j two) =
    elim (cases_eq i j) [
      | inl same ↦ join_same n k i j b u v (IsSorting-joins n k) few order same low high down one two
      | inr other ↦ elim (cases_lt i j) [
        | inl less ↦
            join_ordered n k i j b u v (IsSorting-joins n k) few order less low high_j down down_j one two
        | inr more ↦ EquivalentOn-sym (join_ordered n k j i b v u (IsSorting-joins n k) few order
            (omega arith) low_j high down_j down two one)
      ]
    ]

-- all words that sort an order are equivalent
pub IsSorting-equivalent
    : {n : ℕ} {b : List ℕ} {u v : List Letter}
    → IsOrder n b
    → IsSorting n b u
    → IsSorting n b v
    → EquivalentOn n u v
IsSorting-equivalent {n} {b} {u} {v} order one two =
    IsSorting-joins n (inversions b) b u v (omega arith) order one two
