-- A pair whose places were passed over is greedy.
--
-- The places of the second give its entries back (`place_all`). Where nothing can sink further, no right
-- descent is left that could be moved, and the pair is greedy (`settled_pair`).
use Rattle.std.proofs.Common.{ℕ, ◌≡◌, inl, inr, ◌+◌, ◌-◌, ◌<◌, ◌≤◌, ◌∙◌, Bool, true, false, List, length, set, get_or, refl, sym, ap, subst, arith}
use Rattle.std.proofs.lemmas.Bool.{cases_eq, cases_lt}
use Rattle.std.proofs.lemmas.List.{get_or-set_same, get_or-set_other}
use Rattle.perm_braid.specs.Arrangements.{entry, place_of, places_of, IsOrder, IsArrangement}
use Rattle.perm_braid.specs.GreedyPairs.{IsGreedy, Moves, KeepsProduct, IsStill, Passes}
use Rattle.perm_braid.proofs.PlaceLemmas.{entry_at, place_low, place_of-from, IsOrder-entry, length-places_of, Undoes-places_of, IsOrder-places_of, places_of-from}
use Rattle.perm_braid.proofs.SimpleWordLemmas.{descent_of_places, descent_from_places}
use Rattle.perm_braid.proofs.MoveLemmas.{KeepsProduct-moves}
use Rattle.perm_braid.proofs.EntryPlaceLemmas.{IsArrangement-like}
use Rattle.perm_braid.proofs.PassingLemmas.{Passes-moves}

-- ---- Places written ----

-- one place more is written
pub place_more
    : (a b : List ℕ) (k : ℕ)
    → IsOrder (length a) a
    → length b ≡ length a
    → k < length a
    → ((j : ℕ) → 1 ≤ j → j ≤ k → entry b (entry a j) ≡ j)
    → (j : ℕ)
    → 1 ≤ j
    → j ≤ k + 1
    → entry (set b (get_or a k 0 - 1) (k + 1)) (entry a j) ≡ j
place_more a b k order same within placed j low high =
    let e = get_or a k 0 in
    let at : entry a (k + 1) ≡ e = entry_at a (k + 1) k refl in
    let inside = order.within (k + 1) (omega arith) (omega arith) in
    let there = order.within j low (omega arith) in
    elim (cases_eq j (k + 1)) [
      | inl last ↦
          let here : entry a j ≡ e = ap (entry a) last ∙ at in
          let back : e ≡ e - 1 + 1 = omega (arith, at, inside) in
          let made = get_or-set_same b (e - 1) (k + 1) 0 (omega (arith, at, inside, same)) in
          rw here (entry_at (set b (e - 1) (k + 1)) e (e - 1) back ∙ (made ∙ sym last))
      | inr other ↦
          let i = entry a j in
          let back : i ≡ i - 1 + 1 = omega (arith, there) in
          let differ : i - 1 ≡ e - 1 → ⊥ = λ (f : i - 1 ≡ e - 1).
          let f_all : entry a j ≡ entry a (k + 1) = omega (arith, f, at, inside, there) in
          other (sym (order.distinct j low (omega arith))
          ∙ (ap (place_of a) f_all ∙ order.distinct (k + 1) (omega arith) (omega arith))) in
          entry_at (set b (e - 1) (k + 1)) i (i - 1) back
          ∙ (get_or-set_other b (e - 1) (i - 1) (k + 1) 0 differ
          ∙ (sym (entry_at b i (i - 1) back) ∙ placed j low (omega (arith, high, other))))
    ]

-- a number to be placed is one of the places
pub place_room
    : (a : List ℕ) (k : ℕ)
    → IsOrder (length a) a
    → k < length a
    → (1 ≤ get_or a k 0) × (get_or a k 0 ≤ length a)
place_room a k order within =
    let at : entry a (k + 1) ≡ get_or a k 0 = entry_at a (k + 1) k refl in
    let inside = order.within (k + 1) (omega arith) (omega arith) in
    (omega (arith, at, inside), omega (arith, at, inside))

-- where all are written, these are the places
pub place_all
    : (a b : List ℕ) (k : ℕ)
    → IsOrder (length a) a
    → length b ≡ length a
    → length a ≤ k
    → ((j : ℕ) → 1 ≤ j → j ≤ k → entry b (entry a j) ≡ j)
    → b ≡ places_of a
place_all a b k order same all placed =
    sym (places_of-from (length a) a b refl same (λ e low high.
    let most = order.has e low high in
    let there = placed (place_of a e) (place_low a e) (omega arith) in
    sym (ap (entry b) (sym (IsOrder-entry order e low high)) ∙ there)))

-- ---- The pair ----

-- nothing passes where the pair is greedy, and the other way round
IsStill-greedy
    : {n : ℕ} (p q : List ℕ)
    → IsOrder n q
    → IsGreedy n p q
    → IsStill p (places_of q) n
IsStill-greedy p q in_q greedy k low less may =
    let down = greedy k low less (descent_from_places in_q k low less may.0) in
    absurd (omega (arith, down, may))

IsGreedy-still
    : {n : ℕ} (p q : List ℕ)
    → IsOrder n q
    → IsStill p (places_of q) n
    → IsGreedy n p q
IsGreedy-still p q in_q still i low high left = elim (cases_lt (entry p (i + 1)) (entry p i)) [
  | inl down ↦ down
  | inr up ↦ absurd (still i low high (descent_of_places in_q i low high left, up))
]

-- the places of the places are the order
places_twice : {n : ℕ} {a : List ℕ} → IsOrder n a → places_of (places_of a) ≡ a
places_twice {n} {a} order =
    places_of-from n (places_of a) a (length-places_of a ∙ order.size) order.size
    (place_of-from n (places_of a) (entry a) (Undoes-places_of order))

-- What is owed of a pair whose entries and places were settled.
pub record IsTakenOver (p q c y : List ℕ) (moved : Bool) : Type 0 where
  pub first : IsArrangement c
  pub first_long : length c ≡ length p
  pub second_long : length y ≡ length p
  pub second_order : IsOrder (length y) y
  pub last : IsArrangement (places_of y)
  pub placed : y ≡ places_of (places_of y)
  pub moves : Moves (length p) p q c (places_of y)
  pub product : KeepsProduct (length p) p q c (places_of y)
  pub greedy : IsGreedy (length p) c (places_of y)
  pub told : (moved ≡ true → IsGreedy (length p) p q → ⊥) × ((IsGreedy (length p) p q → ⊥) → moved ≡ true)

-- it holds of arrangements
settled_pair
    : (p q z c y : List ℕ) (moved : Bool)
    → IsArrangement p
    → IsArrangement q
    → z ≡ places_of q
    → length p ≡ length q
    → Passes p z c y
    → IsStill c y (length p)
    → (moved ≡ true → IsStill p z (length p) → ⊥)
    → (moved ≡ false → (c ≡ p) × (y ≡ z))
    → IsTakenOver p q c y moved
settled_pair p q z c y moved is_p is_q placed equal passes still some none =
    let n = length p in
    let in_q : IsOrder n q = subst (λ k. IsOrder k q) (sym equal) is_q.order in
    let are = Passes-moves is_p.order in_q placed passes in
    let back : places_of y ≡ are.last = ap places_of are.placed ∙ places_twice are.last_order in
    let in_y : IsOrder n y = subst (λ b. IsOrder n b) (sym are.placed) (IsOrder-places_of are.last_order) in
    let long_y : length y ≡ n = in_y.size in
    let settled : IsStill c (places_of are.last) n = subst (λ b. IsStill c b n) are.placed still in
    record {
      first = IsArrangement-like is_p are.first_order;
      first_long = are.first_order.size;
      second_long = long_y;
      second_order = subst (λ k. IsOrder k y) (sym long_y) in_y;
      last = rw back (IsArrangement-like is_p are.last_order);
      placed = are.placed ∙ ap places_of (sym back);
      moves = rw back are.moves;
      product = rw back (KeepsProduct-moves is_p.order in_q are.moves);
      greedy = rw back (IsGreedy-still c are.last are.last_order settled);
      told = (
        λ e greedy. some e (subst (λ b. IsStill p b n) (sym placed) (IsStill-greedy p q in_q greedy)),
        other moved none,
      );
    }
  where
    other : (b : Bool) → (b ≡ false → (c ≡ p) × (y ≡ z)) → (IsGreedy (length p) p q → ⊥) → b ≡ true
    other true same never = refl
    other false same never =
        let (same_c, same_y) = same refl in
        let in_q : IsOrder (length p) q = subst (λ k. IsOrder k q) (sym equal) is_q.order in
        let before : IsStill p (places_of q) (length p) =
        subst (λ b. IsStill p b (length p)) (same_y ∙ placed)
        (subst (λ b. IsStill b y (length p)) same_c still) in
        absurd (never (IsGreedy-still p q in_q before))

-- and of values
pub taken_over
    : (p q : List ℕ) {a b l z c y : List ℕ} (moved : Bool)
    → a ≡ p
    → IsArrangement a × (l ≡ places_of a)
    → b ≡ q
    → IsArrangement b × (z ≡ places_of b)
    → length p ≡ length q
    → Passes a z c y
    → IsStill c y (length a)
    → (moved ≡ true → IsStill a z (length a) → ⊥)
    → (moved ≡ false → (c ≡ a) × (y ≡ z))
    → IsTakenOver p q c y moved
taken_over p q {a} {b} {l} {z} {c} {y} moved view_p (is_p, _) view_q (is_q, placed) equal passes still some
    none =
    subst (λ x. IsTakenOver x q c y moved) view_p (subst (λ x. IsTakenOver a x c y moved) view_q
    (settled_pair a b z c y moved is_p is_q placed (ap length view_p ∙ (equal ∙ sym (ap length view_q)))
    passes still some none))
