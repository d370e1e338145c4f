-- Handles at a cursor, and the runs of the letters before it.
--
-- From the place on from which letters are higher than the next one, that letter ends a handle exactly if
-- the letter before this place has its index and the other sign (`Handle-met`, `none-met`, `none-first`).
-- A hop by a run passes higher letters (`hop-higher`). A scan stays one after a letter that ends no handle
-- (`IsScan-keep`).
use Rattle.std.proofs.Common.{◌≡◌, ℕ, ◌+◌, ◌-◌, ◌<◌, ◌≤◌, false, not, List, [], ◌∷◌, ◌++◌, length, get_or, slice_get, Some, None, refl, sym, ap, subst, ◌∙◌, inl, inr, arith, length-append}
use Rattle.std.proofs.lemmas.Bool.{cases_eq, cases_lt, cases_order}
use Rattle.std.proofs.lemmas.List.{get_or_append_left, get_or-append_right}
use Rattle.std.proofs.lemmas.Option.{slice_get_within, get_or_from_slice_get}
use Rattle.braid_word.specs.Words.{Letter, letter}
use Rattle.handle_find.specs.Handles.{at, IsHandle}
use Rattle.handle_find.specs.LetterRuns.{IsRun, HasRuns, IsHigherFrom}

-- ---- Letters of both sides ----

-- a letter of left
pub at-left : (l r : List Letter) (k : ℕ) → k < length l → at (l ++ r) k ≡ at l k
at-left l r k within = get_or_append_left l r (letter 0 false) k within

-- the first letter of right
pub at-cursor
    : (l r : List Letter) (x : Letter)
    → slice_get r 0 ≡ Some x
    → at (l ++ r) (length l) ≡ x
at-cursor l r x read =
    let none : length l - length l ≡ 0 = omega arith in
    let here : at (l ++ r) (length l) ≡ at r (length l - length l)
    = get_or-append_right l r (length l) (length l) (letter 0 false) refl (omega arith) in
    here ∙ rw none (get_or_from_slice_get r 0 x (letter 0 false) read)

-- there is one
pub within-cursor
    : (l r : List Letter) (x : Letter)
    → slice_get r 0 ≡ Some x
    → length l < length (l ++ r)
within-cursor l r x read =
    let some = slice_get_within r 0 x read in
    let both = length-append l r in
    omega arith

-- or there is none
pub empty-right : (r : List Letter) → slice_get r 0 ≡ None → r ≡ []
empty-right [] none = refl
empty-right (x ∷ r) none = cc

-- ---- The handle that ends at the cursor ----

-- the letter before the higher ones begins it
pub Handle-met
    : (l r : List Letter) (first last : Letter) (from : ℕ)
    → slice_get r 0 ≡ Some last
    → IsHigherFrom l last.index from
    → 0 < from
    → first ≡ at l (from - 1)
    → (last.index ≡ first.index) × (last.negative ≡ not first.negative)
    → IsHandle (l ++ r) (from - 1) (length l)
Handle-met l r first last from read h some first_is (index, sign) =
    let within = h.within in
    let place : from - 1 < length l = omega arith in
    let last_at : at (l ++ r) (length l) ≡ last = at-cursor l r last read in
    let first_at : at (l ++ r) (from - 1) ≡ first = at-left l r (from - 1) place ∙ sym first_is in
    record {
      ordered = place;
      within = within-cursor l r last read;
      one_index = rw (last_at, first_at) index;
      opposite_signs = rw (last_at, first_at) sign;
      higher_between = λ k above below.
          rw (first_at, at-left l r k below, ← index) (h.higher k (omega arith) below);
    }

-- none begins at a higher letter
none-higher
    : (l r : List Letter) (last : Letter) (from : ℕ)
    → slice_get r 0 ≡ Some last
    → IsHigherFrom l last.index from
    → (p : ℕ)
    → from ≤ p
    → IsHandle (l ++ r) p (length l)
    → ⊥
none-higher l r last from read h p above g =
    let higher : last.index < (at l p).index = h.higher p above g.ordered in
    let left : (at (l ++ r) p).index ≡ (at l p).index =
    ap (λ (x : Letter). x.index) (at-left l r p g.ordered) in
    let right : (at (l ++ r) (length l)).index ≡ last.index
    = ap (λ (x : Letter). x.index) (at-cursor l r last read) in
    let one_index = g.one_index in
    omega arith

-- where all letters are higher, there is none
pub none-first
    : (l r : List Letter) (last : Letter) (from : ℕ)
    → slice_get r 0 ≡ Some last
    → IsHigherFrom l last.index from
    → from ≡ 0
    → (p : ℕ)
    → IsHandle (l ++ r) p (length l)
    → ⊥
none-first l r last from read h all p g = none-higher l r last from read h p (omega arith) g

-- where the letter before the higher ones doesn't begin one, there is none
pub none-met
    : (l r : List Letter) (first last : Letter) (from : ℕ)
    → slice_get r 0 ≡ Some last
    → IsHigherFrom l last.index from
    → 0 < from
    → first ≡ at l (from - 1)
    → ((last.index ≡ first.index) × (last.negative ≡ not first.negative) → ⊥)
    → (p : ℕ)
    → IsHandle (l ++ r) p (length l)
    → ⊥
none-met l r first last from read h some first_is other p g =
    let within = h.within in
    let place : from - 1 < length l = omega arith in
    let last_at : at (l ++ r) (length l) ≡ last = at-cursor l r last read in
    let first_at : at (l ++ r) (from - 1) ≡ first = at-left l r (from - 1) place ∙ sym first_is in
    elim (cases_order p (from - 1)) [
      | inl same ↦
          let k : IsHandle (l ++ r) (from - 1) (length l) =
          subst (λ z. IsHandle (l ++ r) z (length l)) same g in
          other (rw (last_at, first_at) at k.one_index, rw (last_at, first_at) at k.opposite_signs)
      | inr (inl before) ↦
          let above : (at (l ++ r) p).index < (at (l ++ r) (from - 1)).index =
          g.higher_between (from - 1) before place in
          let one_index : (at (l ++ r) (length l)).index ≡ (at (l ++ r) p).index = g.one_index in
          let last_index : (at (l ++ r) (length l)).index ≡ last.index =
          ap (λ (x : Letter). x.index) last_at in
          let first_index : (at (l ++ r) (from - 1)).index ≡ (at l (from - 1)).index
          = ap (λ (x : Letter). x.index) (at-left l r (from - 1) place) in
          let barred = h.barred some in
          omega arith
      | inr (inr after) ↦ none-higher l r last from read h p (omega arith) g
    ]

-- ---- Hops ----

-- a hop stays in the word
pub hop-within
    : (w : List Letter) (ns : List ℕ) (k n : ℕ)
    → HasRuns ns w
    → k ≤ length w
    → 0 < k
    → n ≡ get_or ns (k - 1) 0
    → n ≤ k - 1
hop-within w ns k n runs within some read =
    let own = (runs.run (k - 1) (omega arith)).within in
    omega arith

-- the letters that are passed are no lower than the one that was looked at
pub hop-above
    : (w : List Letter) (ns : List ℕ) (k n : ℕ)
    → HasRuns ns w
    → k ≤ length w
    → 0 < k
    → n ≡ get_or ns (k - 1) 0
    → (m : ℕ)
    → k - (1 + n) ≤ m
    → m < k
    → (at w (k - 1)).index ≤ (at w m).index
hop-above w ns k n runs within some read m from below = elim (cases_eq m (k - 1)) [
  | inl same ↦
      let e : (at w m).index ≡ (at w (k - 1)).index = ap (λ j. (at w j).index) same in
      omega arith
  | inr other ↦ (runs.run (k - 1) (omega arith)).none_lower m (omega arith) (omega arith)
]

-- so letters that are higher than i stay so
pub hop-higher
    : (w : List Letter) (ns : List ℕ) (i k n : ℕ)
    → HasRuns ns w
    → k ≤ length w
    → 0 < k
    → n ≡ get_or ns (k - 1) 0
    → i < (at w (k - 1)).index
    → ((m : ℕ) → k ≤ m → m < length w → i < (at w m).index)
    → (m : ℕ)
    → k - (1 + n) ≤ m
    → m < length w
    → i < (at w m).index
hop-higher w ns i k n runs within some read above higher m from below = elim (cases_lt m k) [
  | inl under ↦
      let passed = hop-above w ns k n runs within some read m from under in
      omega arith
  | inr after ↦ higher m after below
]

-- ---- The run of a new letter ----

-- the higher letters are a run
pub IsRun-higher
    : (w : List Letter) (i from n : ℕ)
    → IsHigherFrom w i from
    → n ≡ length w - from
    → IsRun w i (length w) n
IsRun-higher w i from n h is =
    let within = h.within in
    record {
      within = omega arith;
      none_lower = λ m near below.
          let above : i < (at w m).index = h.higher m (omega arith) below in
          omega arith;
    }

-- and with an equal letter before them its run too
pub IsRun-equal
    : (w : List Letter) (ns : List ℕ) (i from n more : ℕ)
    → HasRuns ns w
    → IsHigherFrom w i from
    → 0 < from
    → (at w (from - 1)).index ≡ i
    → more ≡ get_or ns (from - 1) 0
    → n ≡ length w - from + 1 + more
    → IsRun w i (length w) n
IsRun-equal w ns i from n more runs h some equal read is =
    let within = h.within in
    let hop = hop-within w ns from more runs within some read in
    record {
      within = omega arith;
      none_lower = λ m near below. elim (cases_lt m from) [
        | inl under ↦
            let passed = hop-above w ns from more runs within some read m (omega arith) under in
            omega arith
        | inr after ↦
            let above : i < (at w m).index = h.higher m after below in
            omega arith
      ];
    }
