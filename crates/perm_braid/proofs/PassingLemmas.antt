-- A pair made greedy by its entries and places: each place beside its entry sinks as far as it can.
--
-- Exchanges of neighbours in the entries of the first and in the places of the second are moves of the pair
-- (`Passes-moves`). What sinks leaves the others as they stood to one another, so behind it nothing can pass
-- (`IsSunk-step`): one insertion after the other makes the pair greedy.
use Rattle.std.proofs.Common.{ℕ, ◌≡◌, inl, inr, ◌+◌, ◌-◌, ◌<◌, ◌≤◌, ◌∙◌, Bool, true, false, List, length, refl, sym, ap, subst, arith}
use Rattle.std.specs.Prelude.{◌||◌}
use Rattle.std.specs.List.{swap}
use Rattle.std.proofs.lemmas.Bool.{cases_eq, cases_lt, false≢true}
use Rattle.perm_braid.specs.Arrangements.{entry, places_of, swapped, neighbour, values_swapped, IsOrder}
use Rattle.perm_braid.specs.GreedyPairs.{IsMove, Moves, done, move, CanPass, IsStill, Passes, rest, pass}
use Rattle.perm_braid.proofs.SwapLemmas.{neighbour_is, entry-swapped, length-swapped, IsOrder-swapped, IsOrder-values_swapped, places_of-values_swapped}
use Rattle.perm_braid.proofs.SimpleWordLemmas.{descent_from_places}
use Rattle.perm_braid.proofs.EntryLemmas.{swapped_from_swap_of_places}

-- ---- Exchanges ----

-- one more
pub Passes-more
    : {a z c y : List ℕ} (i : ℕ)
    → Passes a z c y
    → 1 ≤ i
    → i < length c
    → CanPass c y i (i + 1)
    → Passes a z (swapped i c) (swapped i y)
Passes-more i rest low high can = pass i low high can rest
Passes-more i (pass j first last may more) low high can =
    pass j first last may (Passes-more i more low high can)

-- exchanges, and then others
pub Passes-trans : {a z c y d x : List ℕ} → Passes a z c y → Passes c y d x → Passes a z d x
Passes-trans rest second = second
Passes-trans (pass i low high can more) second = pass i low high can (Passes-trans more second)

-- What moves the exchanges are.
pub record AreMoves (n : ℕ) (p q c y : List ℕ) : Type 0 where
  pub last : List ℕ
  pub moves : Moves n p q c last
  pub placed : y ≡ places_of last
  pub first_order : IsOrder n c
  pub last_order : IsOrder n last

-- exchanges of entries and places are moves
pub Passes-moves
    : {n : ℕ} {p q z c y : List ℕ}
    → IsOrder n p
    → IsOrder n q
    → z ≡ places_of q
    → Passes p z c y
    → AreMoves n p q c y
Passes-moves {n} {p} {q} in_p in_q placed rest =
    record { last = q; moves = done; placed = placed; first_order = in_p; last_order = in_q }
Passes-moves {n} {p} {q} {z} in_p in_q placed (pass i low high can more) =
    let within : i < n = omega (arith, in_p.size, high) in
    let falls : entry (places_of q) (i + 1) < entry (places_of q) i = rw placed at can.0 in
    let is : IsMove n p q i = record {
      low = low;
      high = within;
      left = descent_from_places in_q i low within falls;
      right = λ down. absurd (omega (arith, can.1, down));
    } in
    let next : swapped i z ≡ places_of (values_swapped i q) =
    ap (swapped i) placed ∙ sym (places_of-values_swapped in_q i low within) in
    let later = Passes-moves (IsOrder-swapped in_p i low within) (IsOrder-values_swapped in_q i low within)
    next more in
    record {
      last = later.last;
      moves = move i is later.moves;
      placed = later.placed;
      first_order = later.first_order;
      last_order = later.last_order;
    }

-- ---- Sinking ----

-- Where what stood at the place behind `from` stands while it sinks: at the place behind `at`.
pub record IsSunk (a z c y : List ℕ) (from at : ℕ) : Type 0 where
  pub passes : Passes a z c y
  pub within : at ≤ from
  pub fits : from < length c
  pub same : length y ≡ length c
  pub still : (k : ℕ) → 1 ≤ k → k ≤ from → (k ≡ at → ⊥) → CanPass c y k (k + 1) → ⊥
  pub over : 1 ≤ at → at < from → CanPass c y at (at + 2) → ⊥
  pub some : at < from → CanPass a z from (from + 1)
  pub none : at ≡ from → (c ≡ a) × (y ≡ z)

-- at first nothing sank
pub IsSunk-begin
    : (a z : List ℕ) (from : ℕ)
    → from < length a
    → length z ≡ length a
    → IsStill a z from
    → IsSunk a z a z from from
IsSunk-begin a z from high same still = record {
  passes = rest;
  within = omega arith;
  fits = high;
  same = same;
  still = λ k low most other. still k low (omega (arith, most, λ (e : k ≡ from). other e));
  over = λ low less. absurd (omega arith);
  some = λ less. absurd (omega arith);
  none = λ e. (refl, refl);
}

-- what can pass after an exchange could at the exchanged places
passed_back
    : (c y : List ℕ) (at i j : ℕ)
    → 1 ≤ at
    → at < length c
    → length y ≡ length c
    → CanPass (swapped at c) (swapped at y) i j
    → CanPass c y (neighbour at i) (neighbour at j)
passed_back c y at i j low high same can =
    let one = entry-swapped at i c low high in
    let two = entry-swapped at j c low high in
    let three = entry-swapped at i y low (omega (arith, high, same)) in
    let four = entry-swapped at j y low (omega (arith, high, same)) in
    (omega (arith, three, four, can.0), omega (arith, one, two, can.1))

-- one exchange more
--
-- What can pass after the exchange could pass before it, at the two places that the exchange takes it from
-- (`passed_back`). So each pair of neighbours is still as it was known to be, but for the one in front of the
-- exchange, where the sinking goes on.
IsSunk-step
    : (a z c y d x : List ℕ) (from at : ℕ)
    → IsSunk a z c y from at
    → 1 ≤ at
    → CanPass c y at (at + 1)
    → d ≡ swapped at c
    → x ≡ swapped at y
    → IsSunk a z d x from (at - 1)
IsSunk-step a z c y d x from at sunk low can is_d is_x = rw (is_d, is_x) (record {
  passes = Passes-more at sunk.passes low high can;
  within = omega (arith, sunk.within);
  fits = omega (arith, sunk.fits, length-swapped at c);
  same = length-swapped at y ∙ (sunk.same ∙ sym (length-swapped at c));
  still = still;
  over = over;
  some = λ less. some;
  none = λ e. absurd (omega (arith, e, low, sunk.within));
})
  where
    high : at < length c
    high = omega (arith, sunk.within, sunk.fits)

    own : (k : ℕ) → k < at → neighbour at k ≡ k
    own k less = (neighbour_is at k).low less

    far : (k : ℕ) → at + 1 < k → neighbour at k ≡ k
    far k more = (neighbour_is at k).high more

    here : neighbour at at ≡ at + 1
    here = (neighbour_is at at).here refl

    next : neighbour at (at + 1) ≡ at
    next = (neighbour_is at (at + 1)).next refl

    back : (i j k l : ℕ) → neighbour at i ≡ k → neighbour at j ≡ l
        → CanPass (swapped at c) (swapped at y) i j → CanPass c y k l
    back i j k l first second may =
        rw (first, second) at (passed_back c y at i j low high sunk.same may)

    some : CanPass a z from (from + 1)
    some = elim (cases_eq at from) [
      | inl e ↦
          let before = sunk.none e in
          rw (before.0, before.1, e) at can
      | inr other ↦ sunk.some (omega (arith, sunk.within, other))
    ]

    still : (k : ℕ) → 1 ≤ k → k ≤ from → (k ≡ at - 1 → ⊥)
        → CanPass (swapped at c) (swapped at y) k (k + 1) → ⊥
    still k least most other may = elim (cases_lt (k + 1) at) [
      | inl less ↦
          sunk.still k least most (λ e. absurd (omega (arith, e, less)))
          (back k (k + 1) k (k + 1) (own k (omega arith)) (own (k + 1) less) may)
      | inr more ↦ elim (cases_eq k at) [
        | inl e ↦
            let turned : CanPass c y (at + 1) at =
            back k (k + 1) (at + 1) at (ap (neighbour at) e ∙ here) (ap (λ j. neighbour at (j + 1)) e ∙ next)
            may in
            absurd (omega (arith, turned, can))
        | inr differ ↦ elim (cases_eq k (at + 1)) [
          | inl e ↦
              let e_next : k + 1 ≡ at + 2 = omega (arith, e) in
              sunk.over low (omega (arith, e, most))
              (back k (k + 1) at (at + 2) (ap (neighbour at) e ∙ next)
              (far (k + 1) (omega (arith, e)) ∙ e_next) may)
          | inr beyond ↦
              sunk.still k least most differ
              (back k (k + 1) k (k + 1) (far k (omega (arith, more, other, differ, beyond)))
              (far (k + 1) (omega (arith, more, other, differ, beyond))) may)
        ]
      ]
    ]

    over : 1 ≤ at - 1 → at - 1 < from → CanPass (swapped at c) (swapped at y) (at - 1) (at - 1 + 2) → ⊥
    over least less may =
        let e : at - 1 + 2 ≡ at + 1 = omega arith in
        let f : at - 1 + 1 ≡ at = omega arith in
        let found : CanPass c y (at - 1) at =
        back (at - 1) (at - 1 + 2) (at - 1) at (own (at - 1) (omega arith)) (ap (neighbour at) e ∙ next)
        may in
        sunk.still (at - 1) least (omega (arith, sunk.within)) (λ g. absurd (omega (arith, g, least)))
        (subst (λ j. CanPass c y (at - 1) j) (sym f) found)

-- an exchange in slices
pub IsSunk-swap
    : (a z c y d x : List ℕ) (from at : ℕ)
    → IsSunk a z c y from at
    → 0 < at
    → CanPass c y at (at + 1)
    → d ≡ swap c (at - 1) at
    → x ≡ swap y (at - 1) at
    → IsSunk a z d x from (at - 1)
IsSunk-swap a z c y d x from at sunk low can is_d is_x =
    let e : at + 1 - 1 ≡ at = omega arith in
    let fits = sunk.fits in
    let within = sunk.within in
    IsSunk-step a z c y d x from at sunk low can
    (swapped_from_swap_of_places c d at (at + 1) low refl (omega arith) (is_d ∙ ap (swap c (at - 1)) (sym e)))
    (swapped_from_swap_of_places y x at (at + 1) low refl (omega (arith, sunk.same))
    (is_x ∙ ap (swap y (at - 1)) (sym e)))

-- ---- The loops ----

-- Where the pair stands when all before the place `from` sank.
pub record IsSettled (a z c y : List ℕ) (from : ℕ) (passed : Bool) : Type 0 where
  pub passes : Passes a z c y
  pub still : IsStill c y from
  pub some : passed ≡ true → IsStill a z (length a) → ⊥
  pub none : passed ≡ false → (c ≡ a) × (y ≡ z)

-- at first nothing passed
pub IsSettled-begin : (a z : List ℕ) → IsSettled a z a z 1 false
IsSettled-begin a z = record {
  passes = rest;
  still = λ k low less may. absurd (omega arith);
  some = λ e. absurd (false≢true e);
  none = λ e. (refl, refl);
}

-- one more sank
pub IsSettled-step
    : (a z c y d x : List ℕ) (from : ℕ) (passed sank : Bool)
    → IsSettled a z c y from passed
    → 1 ≤ from
    → from < length c
    → Passes c y d x
    → IsStill d x (from + 1)
    → (sank ≡ true → CanPass c y from (from + 1))
    → (sank ≡ false → (d ≡ c) × (x ≡ y))
    → IsSettled a z d x (from + 1) (passed || sank)
IsSettled-step a z c y d x from true sank settled low high passes still some none = record {
  passes = Passes-trans settled.passes passes;
  still = still;
  some = λ e. settled.some refl;
  none = λ e. absurd (false≢true (sym e));
}
IsSettled-step a z c y d x from false sank settled low high passes still some none =
    let (same_c, same_y) = settled.none refl in
    record {
      passes = Passes-trans settled.passes passes;
      still = still;
      some = λ e all.
          let may : CanPass a z from (from + 1) = rw (same_c, same_y) at (some e) in
          all from low (omega (arith, high, ap length same_c)) may;
      none = λ e. let (same_d, same_x) = none e in (same_d ∙ same_c, same_x ∙ same_y);
    }
