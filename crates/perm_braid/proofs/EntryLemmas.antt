-- Slices of numbers, read and written.
--
-- The numbers 1 to n are made one after the other (`identity_more`). An exchange of two places of a slice is
-- one of neighbouring places (`swapped_from_swap_of_places`), or of neighbouring values
-- (`values_swapped_from_swap`).
use Rattle.std.proofs.Common.{ℕ, zero, suc, ◌≡◌, inl, inr, ◌+◌, ◌-◌, ◌<◌, ◌≤◌, ◌∙◌, List, [], ◌∷◌, ◌++◌, length, refl, sym, ap, arith}
use Rattle.std.specs.List.{range_with_len, swap}
use Rattle.std.proofs.lemmas.Bool.{cases_eq}
use Rattle.std.proofs.lemmas.List.Edits.{swapped_from_swap, length-swap}
use Rattle.perm_braid.specs.Arrangements.{entry, place_of, swapped, neighbour, values_swapped, identity, IsOrder}
use Rattle.perm_braid.proofs.PlaceLemmas.{entry_at, same_entries, length-identity, place_low, IsOrder-entry}
use Rattle.perm_braid.proofs.SwapLemmas.{neighbour_is, neighbour_case, entry-swapped, length-swapped, entry-values_swapped, length-values_swapped}

-- ---- The numbers 1 to n ----

-- one number more
range_more : (a n : ℕ) → range_with_len a (suc n) ≡ range_with_len a n ++ (a + n) ∷ []
range_more a zero = let e : a + 0 ≡ a = omega arith in rw e refl
range_more a (suc n) =
    let e : a + suc n ≡ (a + 1) + n = omega arith in rw e (ap (λ c. a ∷ c) (range_more (a + 1) n))

-- the numbers 1 to k, and one more
pub identity_more
    : (k : ℕ) (b c : List ℕ)
    → b ≡ identity k
    → c ≡ b ++ (k + 1) ∷ []
    → c ≡ identity (k + 1)
identity_more k b c is more =
    let e : k + 1 ≡ suc k = omega arith in
    let f : suc k ≡ 1 + k = omega arith in
    more ∙ rw (is, e, range_more 1 k, f) refl

-- there is room for one more
pub identity_room
    : (k n capacity : ℕ) (b : List ℕ)
    → b ≡ identity k
    → n ≤ capacity
    → k < n
    → length b + 1 ≤ capacity
identity_room k n capacity b is room less = let long : length b ≡ k = rw is (length-identity k) in omega arith

-- ---- Exchanges ----

-- The entries of c are those of a, with two exchanged.
pub record Exchanges (a c : List ℕ) (i j : ℕ) : Type 0 where
  pub first : entry c i ≡ entry a j
  pub second : entry c j ≡ entry a i
  pub other : (k : ℕ) → 1 ≤ k → (k ≡ i → ⊥) → (k ≡ j → ⊥) → entry c k ≡ entry a k

-- two places of a slice are exchanged
exchanges
    : (a c : List ℕ) (i j : ℕ)
    → 1 ≤ i
    → i ≤ length a
    → 1 ≤ j
    → j ≤ length a
    → c ≡ swap a (i - 1) (j - 1)
    → Exchanges a c i j
exchanges a c i j low_i high_i low_j high_j is =
    let (first, second, other) = swapped_from_swap a c (i - 1) (j - 1) 0 (omega arith) (omega arith) is in
    record {
      first = entry_at c i (i - 1) (omega arith) ∙ (first ∙ sym (entry_at a j (j - 1) (omega arith)));
      second = entry_at c j (j - 1) (omega arith) ∙ (second ∙ sym (entry_at a i (i - 1) (omega arith)));
      other = λ k low not_i not_j.
          entry_at c k (k - 1) (omega arith)
          ∙ (other (k - 1) (λ e. not_i (omega arith)) (λ e. not_j (omega arith))
          ∙ sym (entry_at a k (k - 1) (omega arith)));
    }

-- an exchange of neighbouring places
pub swapped_from_swap_of_places
    : (a c : List ℕ) (i j : ℕ)
    → 1 ≤ i
    → j ≡ i + 1
    → j ≤ length a
    → c ≡ swap a (i - 1) (j - 1)
    → c ≡ swapped i a
swapped_from_swap_of_places a c i j low next high is =
    let long : length c ≡ length a = rw is (length-swap a (i - 1) (j - 1)) in
    same_entries c (swapped i a) (long ∙ sym (length-swapped i a))
    (λ k least most. at k least (exchanges a c i j low (omega arith) (omega arith) high is)
    ∙ sym (entry-swapped i k a low (omega arith)))
  where
    at : (k : ℕ) → 1 ≤ k → Exchanges a c i j → entry c k ≡ entry a (neighbour i k)
    at k least found = elim (cases_eq k i) [
      | inl same ↦
          let up : neighbour i k ≡ j = (neighbour_is i k).here same ∙ sym next in
          rw (up, same) found.first
      | inr not_i ↦ elim (cases_eq k j) [
        | inl same ↦
            let back : neighbour i k ≡ i = (neighbour_is i k).next (same ∙ next) in
            rw (back, same) found.second
        | inr not_j ↦
            let own : neighbour i k ≡ k = omega (arith, neighbour_case i k) in
            rw own (found.other k least not_i not_j)
      ]
    ]

-- an exchange of the places of neighbouring values
pub values_swapped_from_swap
    : {n : ℕ} {a : List ℕ}
    → IsOrder n a
    → (c : List ℕ) (i p q : ℕ)
    → 1 ≤ i
    → i < n
    → p ≡ place_of a i
    → q ≡ place_of a (i + 1)
    → c ≡ swap a (p - 1) (q - 1)
    → c ≡ values_swapped i a
values_swapped_from_swap {n} {a} order c i p q low high is_p is_q is =
    let long : length c ≡ length a = rw is (length-swap a (p - 1) (q - 1)) in
    same_entries c (values_swapped i a) (long ∙ sym (length-values_swapped i a))
    (λ k least most.
    let fits : k ≤ n = omega (arith, order.size, long, most) in
    at k least fits ∙ sym (entry-values_swapped i k a least (omega (arith, order.size, fits))))
  where
    at_p : entry a p ≡ i
    at_p = rw is_p (IsOrder-entry order i low (omega arith))

    at_q : entry a q ≡ i + 1
    at_q = rw is_q (IsOrder-entry order (i + 1) (omega arith) (omega arith))

    found : Exchanges a c p q
    found =
        let first = order.has i low (omega arith) in
        let second = order.has (i + 1) (omega arith) (omega arith) in
        exchanges a c p q (rw is_p (place_low a i)) (omega (arith, is_p, first, order.size))
        (rw is_q (place_low a (i + 1))) (omega (arith, is_q, second, order.size)) is

    at : (k : ℕ) → 1 ≤ k → k ≤ n → entry c k ≡ neighbour i (entry a k)
    at k least most = elim (cases_eq k p) [
      | inl same ↦
          let here : entry a k ≡ i = rw same at_p in
          rw (same, found.first, at_q) (sym (rw (at_p) ((neighbour_is i i).here refl)))
      | inr not_p ↦ elim (cases_eq k q) [
        | inl same ↦
            rw (same, found.second, at_p) (sym (rw (at_q) ((neighbour_is i (i + 1)).next refl)))
        | inr not_q ↦
            let back = order.distinct k least most in
            let not_i : entry a k ≡ i → ⊥ = λ e. not_p (sym back ∙ (ap (place_of a) e ∙ sym is_p)) in
            let not_next : entry a k ≡ i + 1 → ⊥ = λ e. not_q (sym back ∙ (ap (place_of a) e ∙ sym is_q)) in
            let own : neighbour i (entry a k) ≡ entry a k =
            omega (arith, neighbour_case i (entry a k), not_i, not_next) in
            rw own (found.other k least not_p not_q)
      ]
    ]
