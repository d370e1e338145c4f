-- Numbers of a slice that are tested, or turned by half a turn, one after the other.
--
-- Where all that were tested stood at their places, the list is the identity (`rising_all`), or the half turn
-- (`falling_all`); where all of a reversed order were turned, it is its half turn (`turn_all`).
use Rattle.std.proofs.Common.{ℕ, ◌≡◌, inl, inr, ◌+◌, ◌-◌, ◌<◌, ◌≤◌, ◌∙◌, List, length, get_or, set, reverse, refl, sym, ap, arith}
use Rattle.std.proofs.lemmas.Bool.{cases_eq}
use Rattle.std.proofs.lemmas.List.{get_or-set_same, get_or-set_other, length-reverse}
use Rattle.perm_braid.specs.Arrangements.{entry, flip, identity, half_turn, IsOrder}
use Rattle.perm_braid.proofs.PlaceLemmas.{entry_at, same_entries, entry-map, entry-reverse, entry-identity, entry-half_turn, length-half_turn, length-identity}
use Rattle.perm_braid.proofs.SwapLemmas.{length-flip}

-- ---- Numbers tested one after the other ----

-- the entries up to k and the next one are their places
pub rising_more
    : (a : List ℕ) (k : ℕ)
    → ((i : ℕ) → 1 ≤ i → i ≤ k → entry a i ≡ i)
    → get_or a k 0 ≡ k + 1
    → (i : ℕ)
    → 1 ≤ i
    → i ≤ k + 1
    → entry a i ≡ i
rising_more a k before next i low high = elim (cases_eq i (k + 1)) [
  | inl same ↦ entry_at a i k same ∙ (next ∙ sym same)
  | inr other ↦ before i low (omega arith)
]

-- a list whose entries all are their places is the identity
pub rising_all
    : (a : List ℕ) (k : ℕ)
    → ((i : ℕ) → 1 ≤ i → i ≤ k → entry a i ≡ i)
    → length a ≤ k
    → a ≡ identity (length a)
rising_all a k all done =
    same_entries a (identity (length a)) (sym (length-identity (length a)))
    (λ i low high. all i low (omega arith) ∙ sym (entry-identity (length a) i low high))

-- a list with an entry that isn't its place is not
pub rising_not
    : (a : List ℕ) (k : ℕ)
    → k < length a
    → (get_or a k 0 ≡ k + 1 → ⊥)
    → a ≡ identity (length a)
    → ⊥
rising_not a k within other is =
    let here : entry a (k + 1) ≡ k + 1 =
    ap (λ b. entry b (k + 1)) is ∙ entry-identity (length a) (k + 1) (omega arith) (omega arith) in
    other (sym (entry_at a (k + 1) k refl) ∙ here)

-- the entries up to k and the next one are those of the half turn
pub falling_more
    : (a : List ℕ) (k : ℕ)
    → ((i : ℕ) → 1 ≤ i → i ≤ k → entry a i ≡ length a + 1 - i)
    → get_or a k 0 ≡ length a - k
    → (i : ℕ)
    → 1 ≤ i
    → i ≤ k + 1
    → entry a i ≡ length a + 1 - i
falling_more a k before next i low high = elim (cases_eq i (k + 1)) [
  | inl same ↦ entry_at a i k same ∙ (next ∙ omega arith)
  | inr other ↦ before i low (omega arith)
]

-- a list whose entries all are those of the half turn is the half turn
pub falling_all
    : (a : List ℕ) (k : ℕ)
    → ((i : ℕ) → 1 ≤ i → i ≤ k → entry a i ≡ length a + 1 - i)
    → length a ≤ k
    → a ≡ half_turn (length a)
falling_all a k all done =
    same_entries a (half_turn (length a)) (sym (length-half_turn (length a)))
    (λ i low high. all i low (omega arith) ∙ sym (entry-half_turn (length a) i low high))

-- a list with another entry is not
pub falling_not
    : (a : List ℕ) (k : ℕ)
    → k < length a
    → (get_or a k 0 ≡ length a - k → ⊥)
    → a ≡ half_turn (length a)
    → ⊥
falling_not a k within other is =
    let here : entry a (k + 1) ≡ length a + 1 - (k + 1) =
    ap (λ b. entry b (k + 1)) is ∙ entry-half_turn (length a) (k + 1) (omega arith) (omega arith) in
    other (sym (entry_at a (k + 1) k refl) ∙ (here ∙ omega arith))

-- ---- Numbers turned one after the other ----

-- the next number of a reversed order can be turned
pub turn_room
    : (a r b : List ℕ) (k : ℕ)
    → IsOrder (length a) a
    → r ≡ reverse a
    → k < length r
    → ((i : ℕ) → k < i → entry b i ≡ entry r i)
    → get_or b k 0 ≤ length r + 1
turn_room a r b k order is within rest =
    let long : length r ≡ length a = rw is (length-reverse a) in
    let here = entry_at b (k + 1) k refl in
    let back = rest (k + 1) (omega arith) in
    let old : entry r (k + 1) ≡ entry a (length a + 1 - (k + 1)) =
    rw is (entry-reverse a (k + 1) (omega arith) (omega arith)) in
    let inside = order.within (length a + 1 - (k + 1)) (omega arith) (omega arith) in
    omega (arith, here, back, old, inside, long)

-- once it is turned, one more is
pub turn_more
    : (r b : List ℕ) (k above : ℕ)
    → k < length b
    → ((i : ℕ) → 1 ≤ i → i ≤ k → entry b i ≡ above - entry r i)
    → ((i : ℕ) → k < i → entry b i ≡ entry r i)
    → (i : ℕ)
    → 1 ≤ i
    → i ≤ k + 1
    → entry (set b k (above - get_or b k 0)) i ≡ above - entry r i
turn_more r b k above within turned rest i low high = elim (cases_eq i (k + 1)) [
  | inl same ↦
      let old : get_or b k 0 ≡ entry r i = sym (entry_at b i k same) ∙ rest i (omega arith) in
      entry_at (set b k (above - get_or b k 0)) i k same
      ∙ (get_or-set_same b k (above - get_or b k 0) 0 within ∙ ap (λ e. above - e) old)
  | inr other ↦
      entry_at (set b k (above - get_or b k 0)) i (i - 1) (omega arith)
      ∙ (get_or-set_other b k (i - 1) (above - get_or b k 0) 0 (λ e. absurd (omega arith))
      ∙ (sym (entry_at b i (i - 1) (omega arith)) ∙ turned i low (omega arith)))
]

-- and the others stand as they did
pub turn_rest
    : (r b : List ℕ) (k value : ℕ)
    → ((i : ℕ) → k < i → entry b i ≡ entry r i)
    → (i : ℕ)
    → k + 1 < i
    → entry (set b k value) i ≡ entry r i
turn_rest r b k value rest i high =
    entry_at (set b k value) i (i - 1) (omega arith)
    ∙ (get_or-set_other b k (i - 1) value 0 (λ e. absurd (omega arith))
    ∙ (sym (entry_at b i (i - 1) (omega arith)) ∙ rest i (omega arith)))

-- where all are turned, that is the half turn of the order
pub turn_all
    : (a r b : List ℕ) (k : ℕ)
    → r ≡ reverse a
    → length b ≡ length r
    → length r ≤ k
    → ((i : ℕ) → 1 ≤ i → i ≤ k → entry b i ≡ length r + 1 - entry r i)
    → b ≡ flip a
turn_all a r b k is same done turned =
    let long : length r ≡ length a = rw is (length-reverse a) in
    same_entries b (flip a) (same ∙ (long ∙ sym (length-flip a)))
    (λ i low high.
    let at = entry-map (λ e. length a + 1 - e) (reverse a) i low
    (omega (arith, long, same, high, length-reverse a)) in
    let here : entry b i ≡ length a + 1 - entry (reverse a) i =
    rw (← is, ← long) (turned i low (omega arith)) in
    here ∙ sym at)
