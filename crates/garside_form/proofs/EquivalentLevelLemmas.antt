-- Equivalent words give one settled sequence.
--
-- The two sides of each relation are two ways between the same orders, so they are taken in as one simple
-- braid (`IsSame-relation`); so equivalent words give one sequence (`IsSame-equivalent`), with half
-- turns in front that are enough for every word between them.
use Rattle.std.proofs.Common.{ℕ, zero, suc, ◌≡◌, inl, inr, ◌+◌, ◌<◌, ◌≤◌, ◌∙◌, Bool, true, false, not, List, [], ◌∷◌, ◌++◌, reverse, refl, sym, arith}
use Rattle.std.proofs.lemmas.List.{reverse-reverse}
use Rattle.braid_word.specs.Words.{Letter, letter, IsOn}
use Rattle.braid_word.specs.Equivalence.{Relation, commutation, braiding, cancellation, left_side, right_side, DifferByOne, forward, backward, EquivalentOn, stay, move}
use Rattle.braid_word.proofs.WordLemmas.{on_left, on_right}
use Rattle.braid_word.proofs.EquivalenceLemmas.{on_first}
use Rattle.braid_word.proofs.WeightLemmas.{taken, negatives}
use Rattle.perm_braid.specs.Arrangements.{entry, swapped, IsOrder}
use Rattle.perm_braid.specs.SimpleWords.{generator}
use Rattle.perm_braid.proofs.SwapLemmas.{entry-swapped_here, entry-swapped_next, entry-swapped_other, IsOrder-swapped}
use Rattle.perm_braid.proofs.SortingLemmas.{swapped_far, swapped_near, swapped-swapped}
use Rattle.garside_form.proofs.LeadingLemmas.{IsBefore, neighbours_before}
use Rattle.garside_form.proofs.SettleLemmas.{IsBetween}
use Rattle.garside_form.proofs.LevelLemmas.{IsOrder-reverse, IsBetween-reverse, IsSame, in_front, push, IsSame-push, IsSame-in_front, IsSame-trans, IsSame-sym, AreOrders-in_front, push-merge, push-half_turn}
use Rattle.garside_form.proofs.WordLevelLemmas.{turned_by, IsOrder-turned, lower, levels, lower_fits, AreOrders-levels, IsSettledFrom-levels, levels-more, arrive, cross, levels-ways}

-- ---- Relations ----

-- an exchange turns its pair
pub turns_own
    : {n : ℕ} {x : List ℕ} (i : ℕ)
    → IsOrder n x
    → 1 ≤ i
    → i < n
    → IsBefore (swapped i x) (entry x (i + 1)) (entry x i)
turns_own {n} {x} i order low high =
    rw (
      entry-swapped_here i (i + 1) x low refl (omega (arith, order.size, high)),
      entry-swapped_next i
          (i + 1) x low refl (omega (arith, order.size, high)),
    )
    at (neighbours_before (IsOrder-swapped order i low high) i low high)

-- far letters commute
IsSame-commutation
    : {n : ℕ} {x : List ℕ} (i j : ℕ) (w : List Letter) (d : ℕ)
    → i + 2 ≤ j
    → 1 ≤ i
    → j < n
    → IsOrder n x
    → IsOn n w
    → IsSame (levels (generator i ∷ generator j ∷ w) d x) (levels (generator j ∷ generator i ∷ w) d x)
IsSame-commutation {n} {x} i j w d far low high order on =
    levels-ways {z = swapped j (swapped i x)} {u = generator i ∷ generator j ∷ []}
    {v = generator j ∷ generator i ∷ []} w d order in_z on
    (cross i low high_i turned_i (cross j low_j high (turns_own j next_i low_j high) (arrive refl)))
    (cross j low_j high turned_j (cross i low high_i turned_k (arrive (swapped_far i j x far))))
  where
    low_j : 1 ≤ j
    low_j = omega arith

    high_i : i < n
    high_i = omega arith

    next_i : IsOrder n (swapped i x)
    next_i = IsOrder-swapped order i low high_i

    next_j : IsOrder n (swapped j x)
    next_j = IsOrder-swapped order j low_j high

    in_z : IsOrder n (swapped j (swapped i x))
    in_z = IsOrder-swapped next_i j low_j high

    turned_j : IsBefore (swapped j (swapped i x)) (entry x (j + 1)) (entry x j)
    turned_j = rw (
      entry-swapped_other i (i + 1) (j + 1) x refl (inr (omega arith)),
      entry-swapped_other i
          (i + 1) j x refl (inr (omega arith)),
    )
        at (turns_own j next_i low_j high)

    turned_k : IsBefore (swapped j (swapped i x)) (entry (swapped j x) (i + 1)) (entry (swapped j x) i)
    turned_k = rw (swapped_far i j x far) at (turns_own i next_j low high_i)

    turned_i : IsBefore (swapped j (swapped i x)) (entry x (i + 1)) (entry x i)
    turned_i = rw (
      entry-swapped_other j (j + 1) (i + 1) x refl (inl (omega arith)),
      entry-swapped_other j
          (j + 1) i x refl (inl (omega arith)),
    ) at turned_k

-- neighbouring letters braid
--
-- Both sides lead from x to one order z (`swapped_near`), in which the three strands stand turned. Each
-- letter of either side crosses two strands that z has turned, so both are ways from x to z, and ways with
-- the same ends have the same levels (`levels-ways`).
IsSame-braiding
    : {n : ℕ} {x : List ℕ} (i j : ℕ) (w : List Letter) (d : ℕ)
    → j ≡ i + 1
    → 1 ≤ i
    → j < n
    → IsOrder n x
    → IsOn n w
    → IsSame (levels (generator i ∷ generator j ∷ generator i ∷ w) d x)
    (levels (generator j ∷ generator i ∷ generator j ∷ w) d x)
IsSame-braiding {n} {x} i j w d next low high order on =
    levels-ways {z = z} {u = generator i ∷ generator j ∷ generator i ∷ []}
    {v = generator j ∷ generator i ∷ generator j ∷ []} w d order in_z on
    (cross i low high_i (rw (← next, ← z_j, ← z_k) (rises j (j + 1) low_j (omega arith) (omega arith)))
    (cross j low_j high (rw (a_j, a_k, ← z_i, ← z_k) (rises i (j + 1) low (omega arith) (omega arith)))
    (cross i low high_i (turns_own i in_b low high_i) (arrive refl))))
    (cross j low_j high (rw (← z_i, ← z_j) (rises i j low (omega arith) (omega arith)))
    (cross i low high_i
    (rw (← next, c_j, c_i, ← z_i, ← z_k) (rises i (j + 1) low (omega arith) (omega arith)))
    (cross j low_j high (rw (e_k, e_j, ← z_j, ← z_k) (rises j (j + 1) low_j (omega arith) (omega arith)))
    (arrive (sym (swapped_near i j x low next (omega (arith, order.size, high))))))))
  where
    z : List ℕ
    z = swapped i (swapped j (swapped i x))

    low_j : 1 ≤ j
    low_j = omega arith

    high_i : i < n
    high_i = omega arith

    in_a : IsOrder n (swapped i x)
    in_a = IsOrder-swapped order i low high_i

    in_b : IsOrder n (swapped j (swapped i x))
    in_b = IsOrder-swapped in_a j low_j high

    in_z : IsOrder n z
    in_z = IsOrder-swapped in_b i low high_i

    in_c : IsOrder n (swapped j x)
    in_c = IsOrder-swapped order j low_j high

    in_e : IsOrder n (swapped i (swapped j x))
    in_e = IsOrder-swapped in_c i low high_i

    rises : (k l : ℕ) → 1 ≤ k → k < l → l ≤ n → IsBefore z (entry z k) (entry z l)
    rises k l low less high = let one = in_z.distinct k low (omega arith) in let two =
        in_z.distinct l (omega arith) high in omega (arith, one, two)

    a_i : entry (swapped i x) i ≡ entry x j
    a_i = entry-swapped_here i j x low next (omega (arith, order.size, high))

    a_j : entry (swapped i x) j ≡ entry x i
    a_j = entry-swapped_next i j x low next (omega (arith, order.size, high))

    a_k : entry (swapped i x) (j + 1) ≡ entry x (j + 1)
    a_k = entry-swapped_other i j (j + 1) x next (inr (omega arith))

    b_i : entry (swapped j (swapped i x)) i ≡ entry x j
    b_i = entry-swapped_other j (j + 1) i (swapped i x) refl (inl (omega arith)) ∙ a_i

    b_j : entry (swapped j (swapped i x)) j ≡ entry x (j + 1)
    b_j = entry-swapped_here j (j + 1) (swapped i x) low_j refl (omega (arith, in_a.size, high)) ∙ a_k

    b_k : entry (swapped j (swapped i x)) (j + 1) ≡ entry x i
    b_k = entry-swapped_next j (j + 1) (swapped i x) low_j refl (omega (arith, in_a.size, high)) ∙ a_j

    z_i : entry z i ≡ entry x (j + 1)
    z_i = entry-swapped_here i j (swapped j (swapped i x)) low next (omega (arith, in_b.size, high)) ∙ b_j

    z_j : entry z j ≡ entry x j
    z_j = entry-swapped_next i j (swapped j (swapped i x)) low next (omega (arith, in_b.size, high)) ∙ b_i

    z_k : entry z (j + 1) ≡ entry x i
    z_k = entry-swapped_other i j (j + 1) (swapped j (swapped i x)) next (inr (omega arith)) ∙ b_k

    c_i : entry (swapped j x) i ≡ entry x i
    c_i = entry-swapped_other j (j + 1) i x refl (inl (omega arith))

    c_j : entry (swapped j x) j ≡ entry x (j + 1)
    c_j = entry-swapped_here j (j + 1) x low_j refl (omega (arith, order.size, high))

    c_k : entry (swapped j x) (j + 1) ≡ entry x j
    c_k = entry-swapped_next j (j + 1) x low_j refl (omega (arith, order.size, high))

    e_j : entry (swapped i (swapped j x)) j ≡ entry x i
    e_j = entry-swapped_next i j (swapped j x) low next (omega (arith, in_c.size, high)) ∙ c_i

    e_k : entry (swapped i (swapped j x)) (j + 1) ≡ entry x j
    e_k = entry-swapped_other i j (j + 1) (swapped j x) next (inr (omega arith)) ∙ c_k

-- a letter beside its inverse takes a half turn and gives none
collapse
    : {n : ℕ} {x y : List ℕ} (q : List ℕ) (w : List Letter) (e : ℕ)
    → y ≡ x
    → negatives w ≤ e
    → IsOrder n x
    → IsOrder n q
    → IsOn n w
    → IsSame (push (turned_by (suc e) x) (in_front q (push q (in_front (turned_by e y) (levels w e y)))))
    (levels w (suc e) x)
collapse {n} {x} {y} q w e is fits in_x in_q on =
    rw is (IsSame-trans (push-merge (IsOrder-turned (suc e) in_x) in_q
    (AreOrders-in_front (IsOrder-turned e in_x) (AreOrders-levels w e in_x on)) between)
    (IsSame-trans (push-half_turn (levels w e x) (IsOrder-turned e in_x) (IsSettledFrom-levels w e in_x on))
    (IsSame-sym (levels-more w on e x fits in_x))))
  where
    between : IsBetween n (reverse (turned_by e x)) q (turned_by e x)
    between = rw (reverse-reverse (turned_by e x)) at (IsBetween-reverse q
        (IsOrder-reverse (IsOrder-turned e in_x)))

-- a letter beside its inverse is nothing
IsSame-cancellation
    : {n : ℕ} {x : List ℕ} (i : ℕ) (b : Bool) (w : List Letter) (d : ℕ)
    → taken b + (taken (not b) + negatives w) ≤ d
    → 1 ≤ i
    → i < n
    → IsOrder n x
    → IsOn n w
    → IsSame (levels (letter i b ∷ letter i (not b) ∷ w) d x) (levels w d x)
IsSame-cancellation i false w zero fits low high order on = absurd (omega arith)
IsSame-cancellation i true w zero fits low high order on = absurd (omega arith)
IsSame-cancellation {n} {x} i false w (suc e) fits low high order on =
    collapse (turned_by (suc e) (swapped i x)) w e (swapped-swapped i x) (omega arith) order
    (IsOrder-turned (suc e) (IsOrder-swapped order i low high)) on
IsSame-cancellation {n} {x} i true w (suc e) fits low high order on =
    collapse (turned_by e (swapped i x)) w e (swapped-swapped i x) (omega arith) order
    (IsOrder-turned e (IsOrder-swapped order i low high)) on

-- the two sides of a relation give one sequence
pub IsSame-relation
    : {n : ℕ} {x : List ℕ} (r : Relation) (w : List Letter) (d : ℕ)
    → negatives (left_side r ++ w) ≤ d
    → IsOn n (left_side r)
    → IsOrder n x
    → IsOn n w
    → IsSame (levels (left_side r ++ w) d x) (levels (right_side r ++ w) d x)
IsSame-relation (commutation i j far) w d fits on_r order on =
    IsSame-commutation i j w d far on_r.0.0 on_r.1.0.1 order on
IsSame-relation (braiding i) w d fits on_r order on =
    IsSame-braiding i (i + 1) w d refl on_r.0.0 on_r.1.0.1 order on
IsSame-relation (cancellation i b) w d fits on_r order on =
    IsSame-cancellation i b w d fits on_r.0.0 on_r.0.1 order on

-- ---- Equivalent words ----

-- words that give one sequence do so behind a word
IsSame-behind
    : {n : ℕ} (a u v : List Letter)
    → ((d : ℕ) (x : List ℕ) → negatives u ≤ d → negatives v ≤ d → IsOrder n x
    → IsSame (levels u d x) (levels v d x))
    → (d : ℕ) (x : List ℕ)
    → negatives (a ++ u) ≤ d
    → negatives (a ++ v) ≤ d
    → IsOn n a
    → IsOrder n x
    → IsSame (levels (a ++ u) d x) (levels (a ++ v) d x)
IsSame-behind [] u v same d x fits_u fits_v on order = same d x fits_u fits_v order
IsSame-behind {n} (c ∷ a) u v same d x fits_u fits_v on order =
    IsSame-push (turned_by d x) (IsSame-in_front (turned_by (lower c.negative d) (swapped c.index x))
    (IsSame-behind a u v same (lower c.negative d) (swapped c.index x)
    (lower_fits c.negative d (negatives (a ++ u)) fits_u)
    (lower_fits c.negative d (negatives (a ++ v)) fits_v) on.1 (IsOrder-swapped order c.index on.0.0 on.0.1)))

-- one relation at one place
IsSame-differ
    : {n : ℕ} {u v : List Letter}
    → DifferByOne u v
    → (d : ℕ) (x : List ℕ)
    → negatives u ≤ d
    → negatives v ≤ d
    → IsOn n u
    → IsOn n v
    → IsOrder n x
    → IsSame (levels u d x) (levels v d x)
IsSame-differ {n} (forward a w r is_u is_v) d x fits_u fits_v on_u on_v order =
    rw (is_u, is_v) (at (rw is_u at fits_u) (rw is_v at fits_v) (rw is_u at on_u))
  where
    at : negatives (a ++ (left_side r ++ w)) ≤ d → negatives (a ++ (right_side r ++ w)) ≤ d
        → IsOn n (a ++ (left_side r ++ w))
        → IsSame (levels (a ++ (left_side r ++ w)) d x) (levels (a ++ (right_side r ++ w)) d x)
    at fits_l fits_r on =
        let rest = on_right n a (left_side r ++ w) on in
        IsSame-behind a (left_side r ++ w) (right_side r ++ w)
        (λ e y few_l few_r in_y. IsSame-relation r w e few_l (on_left n (left_side r) w rest) in_y
        (on_right n (left_side r) w rest)) d x fits_l fits_r
        (on_left n a (left_side r ++ w) on) order
IsSame-differ {n} (backward a w r is_u is_v) d x fits_u fits_v on_u on_v order =
    rw (is_u, is_v) (at (rw is_u at fits_u) (rw is_v at fits_v) (rw is_v at on_v))
  where
    at : negatives (a ++ (right_side r ++ w)) ≤ d → negatives (a ++ (left_side r ++ w)) ≤ d
        → IsOn n (a ++ (left_side r ++ w))
        → IsSame (levels (a ++ (right_side r ++ w)) d x) (levels (a ++ (left_side r ++ w)) d x)
    at fits_r fits_l on =
        let rest = on_right n a (left_side r ++ w) on in
        IsSame-behind a (right_side r ++ w) (left_side r ++ w)
        (λ e y few_r few_l in_y. IsSame-sym (IsSame-relation r w e few_l (on_left n (left_side r) w rest) in_y
        (on_right n (left_side r) w rest))) d x fits_r fits_l
        (on_left n a (left_side r ++ w) on) order

-- From so many half turns on, the words give one sequence.
abbrev pub AreAlike : ℕ → ℕ → List Letter → List Letter → Type 0
AreAlike n least u v = (d : ℕ) (x : List ℕ) → least ≤ d → IsOrder n x → IsSame (levels u d x) (levels v d x)

-- equivalent words give one sequence, with half turns enough for all words of the chain
pub IsSame-equivalent : {n : ℕ} {u v : List Letter} → EquivalentOn n u v → (least : ℕ) × AreAlike n least u v
IsSame-equivalent (stay on) = (0, λ d x enough order k. refl)
IsSame-equivalent {n} {u} {v} (move {v = w} on step chain) =
    let (least, same) = IsSame-equivalent chain in (
      negatives u + negatives w + least,
      λ d x enough order.
          IsSame-trans (IsSame-differ step d x (omega arith) (omega arith) on (on_first chain) order)
          (same d x (omega arith) order),
    )
