-- One step: what a turned pair says of the order behind a first letter.
--
-- Let a first letter k lead from x to y, and the pair at i of x stand turned in y settled between x and h.
-- Where i is far from k, h turns the pair at i of y (`turned_far`). Where it is near, h turns the pair at i
-- of y, and that of x too (`turned_near`); so if h is the order at i of y, settled between y and another,
-- this one turns the pair at k behind the letters k and i (`turned_near_next`).
use Rattle.std.proofs.Common.{ℕ, ◌≡◌, ◌⊎◌, inl, inr, ◌+◌, ◌<◌, ◌≤◌, ◌∙◌, List, refl, sym, ap, arith}
use Rattle.braid_word.proofs.CommutingLemmas.{AreNear}
use Rattle.perm_braid.specs.Arrangements.{entry, place_of, swapped, IsOrder}
use Rattle.perm_braid.proofs.SwapLemmas.{entry-swapped_here, entry-swapped_next, entry-swapped_other, IsOrder-swapped}
use Rattle.garside_form.proofs.LeadingLemmas.{IsBefore, neighbours_before}
use Rattle.garside_form.proofs.SettleLemmas.{settle}
use Rattle.braid_gcd.proofs.FirstOrderLemmas.{IsTurned, turned_first, turned_later}

-- Two indices that are not near and not one.
abbrev pub AreApart : ℕ → ℕ → Type 0
AreApart i k = (i + 2 ≤ k) ⊎ (k + 2 ≤ i)

-- ---- Far letters ----

-- such a place is outside of the other pair
apart_here : (i k : ℕ) → AreApart i k → (i < k) ⊎ (k + 1 < i)
apart_here i k (inl below) = inl (omega arith)
apart_here i k (inr above) = inr (omega arith)

-- and so is the next
apart_next : (i k : ℕ) → AreApart i k → (i + 1 < k) ⊎ (k + 1 < i + 1)
apart_next i k (inl below) = inl (omega arith)
apart_next i k (inr above) = inr (omega arith)

-- a pair far from the first letter stands turned behind it
pub turned_far
    : {n : ℕ} {x : List ℕ} (h : List ℕ) (k i : ℕ)
    → AreApart i k
    → IsOrder n x
    → 1 ≤ k
    → k < n
    → 1 ≤ i
    → i < n
    → IsTurned x (settle x (swapped k x) h) i
    → IsTurned (swapped k x) h i
turned_far {n} {x} h k i far order low_k high_k low high turned =
    let y = swapped k x in
    let in_y = IsOrder-swapped order k low_k high_k in
    let here : entry y i ≡ entry x i = entry-swapped_other k (k + 1) i x refl (apart_here i k far) in
    let next : entry y (i + 1) ≡ entry x (i + 1) =
    entry-swapped_other k (k + 1) (i + 1) x refl (apart_next i k far) in
    turned_later x h in_y (entry y i) (entry y (i + 1)) (in_y.within i low (omega arith))
    (in_y.within (i + 1) (omega arith) (omega arith)) (neighbours_before in_y i low high)
    (rw (here, next) turned)

-- ---- Near letters ----

-- What the order behind the first letter turns.
pub record IsNear (x h : List ℕ) (k i : ℕ) : Type 0 where
  pub here : IsTurned (swapped k x) h i
  pub wide : IsTurned x h i

-- where the first letter is the next one
near_up
    : {n : ℕ} {x : List ℕ} (h : List ℕ) (k i : ℕ)
    → k ≡ i + 1
    → IsOrder n x
    → k < n
    → 1 ≤ i
    → IsTurned x (settle x (swapped k x) h) i
    → IsNear x h k i
near_up {n} {x} h k i is order high low turned =
    let y = swapped k x in
    let in_y = IsOrder-swapped order k (omega arith) high in
    let here : entry y i ≡ entry x i = entry-swapped_other k (k + 1) i x refl (inl (omega arith)) in
    let next : entry y k ≡ entry x (k + 1) =
    entry-swapped_here k (k + 1) x (omega arith) refl (omega (arith, order.size, high)) in
    let last : entry y (k + 1) ≡ entry x k =
    entry-swapped_next k (k + 1) x (omega arith) refl (omega (arith, order.size, high)) in
    let one : place_of y (entry x i) ≡ i = rw here at (in_y.distinct i low (omega arith)) in
    let two : place_of y (entry x (k + 1)) ≡ k = rw next at (in_y.distinct k (omega arith) (omega arith)) in
    let three : place_of y (entry x k) ≡ k + 1 =
    rw last at (in_y.distinct (k + 1) (omega arith) (omega arith)) in
    let falls : IsBefore (settle x y h) (entry x k) (entry x i) = rw (← is) at turned in
    let crossed = turned_first h k order (omega arith) high in
    let e = order.within i low (omega arith) in
    let f = order.within k (omega arith) (omega arith) in
    let g = order.within (k + 1) (omega arith) (omega arith) in
    record {
      here = rw (← is, next, here) (turned_later x h in_y (entry x i) (entry x (k + 1)) e g
          (omega (arith, one, two)) (omega (arith, falls, crossed)));
      wide = rw (← is) (turned_later x h in_y (entry x i) (entry x k) e f (omega (arith, one, three)) falls);
    }

-- where it is the one before
near_down
    : {n : ℕ} {x : List ℕ} (h : List ℕ) (k i : ℕ)
    → i ≡ k + 1
    → IsOrder n x
    → 1 ≤ k
    → i < n
    → IsTurned x (settle x (swapped k x) h) i
    → IsNear x h k i
near_down {n} {x} h k i is order low high turned =
    let y = swapped k x in
    let in_y = IsOrder-swapped order k low (omega arith) in
    let first : entry y k ≡ entry x i = entry-swapped_here k i x low is (omega (arith, order.size, high)) in
    let here : entry y i ≡ entry x k = entry-swapped_next k i x low is (omega (arith, order.size, high)) in
    let next : entry y (i + 1) ≡ entry x (i + 1) =
    entry-swapped_other k i (i + 1) x is (inr (omega arith)) in
    let one : place_of y (entry x i) ≡ k = rw first at (in_y.distinct k low (omega arith)) in
    let two : place_of y (entry x k) ≡ i = rw here at (in_y.distinct i (omega arith) (omega arith)) in
    let three : place_of y (entry x (i + 1)) ≡ i + 1 =
    rw next at (in_y.distinct (i + 1) (omega arith) (omega arith)) in
    let crossed : IsBefore (settle x y h) (entry x i) (entry x k) =
    rw (← is) at (turned_first h k order low (omega arith)) in
    let e = order.within i (omega arith) (omega arith) in
    let f = order.within (i + 1) (omega arith) (omega arith) in
    let g = order.within k low (omega arith) in
    record {
      here = rw (next, here) (turned_later x h in_y (entry x k) (entry x (i + 1)) g f
          (omega (arith, two, three)) (omega (arith, turned, crossed)));
      wide = turned_later x h in_y (entry x i) (entry x (i + 1)) e f (omega (arith, is, one, three)) turned;
    }

-- a pair near the first letter stands turned behind it, at its place before the letter and at that after it
pub turned_near
    : {n : ℕ} {x : List ℕ} (h : List ℕ) (k i : ℕ)
    → AreNear i k
    → IsOrder n x
    → 1 ≤ k
    → k < n
    → 1 ≤ i
    → i < n
    → IsTurned x (settle x (swapped k x) h) i
    → IsNear x h k i
turned_near h k i (inl up) order low_k high_k low high turned = near_up h k i up order high_k low turned
turned_near h k i (inr down) order low_k high_k low high turned =
    near_down h k i down order low_k high turned

-- ---- The next letter ----

-- behind the letters k and i the pair at k is that at i before them
pub record IsBack (x z : List ℕ) (k i : ℕ) : Type 0 where
  pub here : entry z k ≡ entry x i
  pub next : entry z (k + 1) ≡ entry x (i + 1)

-- where k is the next one
back_up
    : {n : ℕ} {x : List ℕ} (k i : ℕ)
    → k ≡ i + 1
    → IsOrder n x
    → k < n
    → 1 ≤ i
    → IsBack x (swapped i (swapped k x)) k i
back_up {n} {x} k i is order high low =
    let y = swapped k x in
    let in_y = IsOrder-swapped order k (omega arith) high in
    let here : entry y i ≡ entry x i = entry-swapped_other k (k + 1) i x refl (inl (omega arith)) in
    let last : entry y (k + 1) ≡ entry x k =
    entry-swapped_next k (k + 1) x (omega arith) refl (omega (arith, order.size, high)) in
    record {
      here = entry-swapped_next i k y low is (omega (arith, in_y.size, high)) ∙ here;
      next = entry-swapped_other i k (k + 1) y is (inr (omega arith)) ∙ (last ∙ ap (entry x) is);
    }

-- where it is the one before
back_down
    : {n : ℕ} {x : List ℕ} (k i : ℕ)
    → i ≡ k + 1
    → IsOrder n x
    → 1 ≤ k
    → i < n
    → IsBack x (swapped i (swapped k x)) k i
back_down {n} {x} k i is order low high =
    let y = swapped k x in
    let in_y = IsOrder-swapped order k low (omega arith) in
    let first : entry y k ≡ entry x i = entry-swapped_here k i x low is (omega (arith, order.size, high)) in
    let next : entry y (i + 1) ≡ entry x (i + 1) =
    entry-swapped_other k i (i + 1) x is (inr (omega arith)) in
    let at : entry (swapped i y) i ≡ entry y (i + 1) =
    entry-swapped_here i (i + 1) y (omega arith) refl (omega (arith, in_y.size, high)) in
    record {
      here = entry-swapped_other i (i + 1) k y refl (inl (omega arith)) ∙ first;
      next = ap (entry (swapped i y)) (sym is) ∙ (at ∙ next);
    }

-- so it is, for either
back_near
    : {n : ℕ} {x : List ℕ} (k i : ℕ)
    → AreNear i k
    → IsOrder n x
    → 1 ≤ k
    → k < n
    → 1 ≤ i
    → i < n
    → IsBack x (swapped i (swapped k x)) k i
back_near k i (inl up) order low_k high_k low high = back_up k i up order high_k low
back_near k i (inr down) order low_k high_k low high = back_down k i down order low_k high

-- a pair near the first letter stands turned behind the letters k and i, at the place of the first
pub turned_near_next
    : {n : ℕ} {x : List ℕ} (h : List ℕ) (k i : ℕ)
    → AreNear i k
    → IsOrder n x
    → 1 ≤ k
    → k < n
    → 1 ≤ i
    → i < n
    → IsTurned x (settle (swapped k x) (swapped i (swapped k x)) h) i
    → IsTurned (swapped i (swapped k x)) h k
turned_near_next {n} {x} h k i near order low_k high_k low high turned =
    let y = swapped k x in
    let z = swapped i y in
    let in_z = IsOrder-swapped (IsOrder-swapped order k low_k high_k) i low high in
    let back = back_near k i near order low_k high_k low high in
    turned_later y h in_z (entry z k) (entry z (k + 1)) (in_z.within k low_k (omega arith))
    (in_z.within (k + 1) (omega arith) (omega arith)) (neighbours_before in_z k low_k high_k)
    (rw (back.here, back.next) turned)
