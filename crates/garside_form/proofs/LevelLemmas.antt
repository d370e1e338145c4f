-- Products of simple braids as sequences of orders.
--
-- A product is read from an order x as the orders after its factors, of which the last repeats for ever.
-- One simple braid more in front, from x to y, is taken in by one pass (`push`): each order is settled
-- between the one before it, as it has become, and the one after it. Two simple braids taken in one after
-- the other are taken in as one, where no pair is turned twice (`push-merge`). The order before one that is
-- settled stays settled (`settle-domino`); so taken into a settled sequence, a simple braid leaves a settled
-- one (`IsSettledFrom-push`).
use Rattle.std.proofs.Common.{ℕ, zero, suc, ◌≡◌, inl, inr, ◌+◌, ◌-◌, ◌<◌, ◌≤◌, ◌∙◌, List, length, reverse, refl, sym, arith}
use Rattle.std.proofs.lemmas.List.{length-reverse, reverse-reverse}
use Rattle.perm_braid.specs.Arrangements.{entry, place_of, swapped, IsOrder}
use Rattle.perm_braid.proofs.PlaceLemmas.{entry-reverse, place_low, Undoes, place_of-from, IsOrder-from, IsOrder-entry}
use Rattle.perm_braid.proofs.SwapLemmas.{IsOrder-swapped, entry-swapped_here, entry-swapped_next}
use Rattle.garside_form.proofs.SortLemmas.{Leads, done, turn}
use Rattle.garside_form.proofs.LeadingLemmas.{IsBefore, IsStrand, before_or, neighbours_before, descends, descends_from, leads_to}
use Rattle.garside_form.proofs.SettleLemmas.{before_differ, settle, IsSettled, IsOrder-settle, IsSettled-settle, settle-along, settle-is, settle-settled, settle-turned, IsSettled-from, settled_at, settle-all, IsBetween, turned_stays, settle-merge}

-- ---- The order backwards ----

-- places undo the entries backwards
Undoes-reverse : {n : ℕ} {a : List ℕ} → IsOrder n a → Undoes n (reverse a) (λ e. n + 1 - place_of a e)
Undoes-reverse {n} {a} order = record {
  size = length-reverse a ∙ order.size;
  within = λ i low high. rw (at i low high) (order.within (n + 1 - i) (omega arith) (omega arith));
  back = λ i low high. rw (at i low high, order.distinct (n + 1 - i) (omega arith) (omega arith))
      (omega arith);
  forth = λ e low high.
      let least = place_low a e in
      let most = order.has e low high in
      let once : n + 1 - (n + 1 - place_of a e) ≡ place_of a e = omega (arith, least, most) in (
        omega (arith, least, most),
        omega (arith, least, most),
        at (n + 1 - place_of a e) (omega (arith, least, most)) (omega (arith, least, most))
            ∙ rw (once, IsOrder-entry order e low high) refl,
      );
}
  where
    at : (i : ℕ) → 1 ≤ i → i ≤ n → entry (reverse a) i ≡ entry a (n + 1 - i)
    at i low high =
        let size = order.size in
        let fits : i ≤ length a = omega (arith, size, high) in
        let same : length a + 1 - i ≡ n + 1 - i = omega (arith, size) in
        rw same at (entry-reverse a i low fits)

-- an order backwards is one
pub IsOrder-reverse : {n : ℕ} {a : List ℕ} → IsOrder n a → IsOrder n (reverse a)
IsOrder-reverse {n} {a} order = IsOrder-from n (reverse a) (λ e. n + 1 - place_of a e) (Undoes-reverse order)

-- the places backwards
pub place_of-reverse : {n : ℕ} {a : List ℕ} → IsOrder n a → (e : ℕ) → IsStrand n e
    → place_of (reverse a) e ≡ n + 1 - place_of a e
place_of-reverse {n} {a} order e one =
    place_of-from n (reverse a) (λ e. n + 1 - place_of a e) (Undoes-reverse order) e one.0 one.1

-- backwards, each pair is turned
pub before-reverse
    : {n : ℕ} {a : List ℕ}
    → IsOrder n a
    → (e f : ℕ)
    → IsStrand n e
    → IsStrand n f
    → IsBefore a e f
    → IsBefore (reverse a) f e
before-reverse {n} {a} order e f one two before =
    let at_e = place_of-reverse order e one in
    let at_f = place_of-reverse order f two in
    let most = order.has f two.0 two.1 in
    omega (arith, at_e, at_f, most, before)

-- and the other way round
pub before-reversed
    : {n : ℕ} {a : List ℕ}
    → IsOrder n a
    → (e f : ℕ)
    → IsStrand n e
    → IsStrand n f
    → IsBefore (reverse a) f e
    → IsBefore a e f
before-reversed {n} {a} order e f one two before =
    let at_e = place_of-reverse order e one in
    let at_f = place_of-reverse order f two in
    omega (arith, at_e, at_f, before)

-- settling before a half turn gives a half turn
pub settle-half_turn
    : {n : ℕ} {x y : List ℕ}
    → IsOrder n x
    → IsOrder n y
    → settle x y (reverse y) ≡ reverse x
settle-half_turn {n} {x} {y} first second =
    let back = IsOrder-reverse first in
    settle-is x y (reverse x) (reverse y)
    (leads_to (descends x (reverse y)) second back
    (λ e f one two before after.
    descends_from x (reverse y) e f (before-reversed first e f one two after)
    (before-reverse second e f one two before)))
    (IsSettled-from x (reverse y) back
    (λ i low high before after.
    let one = back.within i low (omega arith) in
    let two = back.within (i + 1) (omega arith) (omega arith) in
    let now = neighbours_before back i low high in
    let turned = before-reversed first (entry (reverse x) (i + 1)) (entry (reverse x) i) two one now in
    absurd (omega (arith, turned, before))))

-- each order is between an order and its reverse
pub IsBetween-reverse
    : {n : ℕ} {x : List ℕ} (y : List ℕ)
    → IsOrder n x
    → IsBetween n x y (reverse x)
IsBetween-reverse y order e f one two before after =
    let back = before-reversed order f e two one after in absurd (omega (arith, back, before))

-- ---- Sequences ----

-- Orders, from the first on.
abbrev pub Levels : Type 0
Levels = ℕ → List ℕ

-- The sequences are one.
abbrev pub IsSame : Levels → Levels → Type 0
IsSame l m = (k : ℕ) → l k ≡ m k

-- One order in front.
abbrev pub in_front : List ℕ → Levels → Levels
in_front y l zero = y
in_front y l (suc k) = l k

-- Each is settled between the one before it, as it has become, and the one after it.
abbrev pub push : List ℕ → Levels → Levels
push x l zero = settle x (l 0) (l 1)
push x l (suc k) = settle (push x l k) (l (suc k)) (l (suc (suc k)))

-- All are orders.
abbrev pub AreOrders : ℕ → Levels → Type 0
AreOrders n l = (k : ℕ) → IsOrder n (l k)

-- Each is settled.
abbrev pub IsSettledFrom : List ℕ → Levels → Type 0
IsSettledFrom x l = (k : ℕ) → IsSettled (in_front x l k) (l k) (l (suc k))

-- one sequence in the place of the same
pub IsSame-push : {l m : Levels} (x : List ℕ) → IsSame l m → IsSame (push x l) (push x m)
IsSame-push {l} {m} x same zero = rw (same 0, same 1) refl
IsSame-push {l} {m} x same (suc k) = rw (IsSame-push x same k, same (suc k), same (suc (suc k))) refl

-- the same in front of the same
pub IsSame-in_front : {l m : Levels} (y : List ℕ) → IsSame l m → IsSame (in_front y l) (in_front y m)
IsSame-in_front y same zero = refl
IsSame-in_front y same (suc k) = same k

-- sameness is an equivalence
pub IsSame-trans : {l m o : Levels} → IsSame l m → IsSame m o → IsSame l o
IsSame-trans first second k = first k ∙ second k

pub IsSame-sym : {l m : Levels} → IsSame l m → IsSame m l
IsSame-sym same k = sym (same k)

-- a pass keeps orders
pub AreOrders-push : {n : ℕ} {l : Levels} (x : List ℕ) → AreOrders n l → AreOrders n (push x l)
AreOrders-push {n} {l} x orders zero = IsOrder-settle x (l 1) (orders 0)
AreOrders-push {n} {l} x orders (suc k) = IsOrder-settle (push x l k) (l (suc (suc k))) (orders (suc k))

-- so does one order in front
pub AreOrders-in_front
    : {n : ℕ} {l : Levels} {y : List ℕ}
    → IsOrder n y
    → AreOrders n l
    → AreOrders n (in_front y l)
AreOrders-in_front order orders zero = order
AreOrders-in_front order orders (suc k) = orders k

-- ---- One pass ----

-- a settled sequence stays
pub push-settled : (x : List ℕ) (l : Levels) → IsSettledFrom x l → IsSame (push x l) l
push-settled x l settled zero = settle-settled x (l 0) (l 1) (settled 0)
push-settled x l settled (suc k) =
    rw (push-settled x l settled k) (settle-settled (l k) (l (suc k)) (l (suc (suc k))) (settled (suc k)))

-- the order between that settling gives is between
IsBetween-settle
    : {n : ℕ} {x y o p : List ℕ}
    → IsOrder n x
    → IsOrder n y
    → IsOrder n o
    → IsOrder n p
    → IsBetween n x y o
    → IsBetween n (settle x o p) (settle y o p) p
IsBetween-settle {n} {x} {y} {o} {p} in_x in_y in_o in_p between f e one two before after =
    let in_u = IsOrder-settle x p in_o in
    let over = leads_to (descends y p) in_o in_u
    (λ a b is_a is_b first second.
    elim (settle-turned x p in_o a b is_a is_b second) [
      | inl same ↦ absurd (omega (arith, same, first))
      | inr may ↦ descends_from y p a b (between a b is_a is_b may.0 first) may.1
    ]) in
    let same : settle y o p ≡ settle y (settle x o p) p = settle-along y o (settle x o p) p over in
    rw same (turned_stays y p in_u e f two one before (λ _ wrong. absurd (omega (arith, wrong, after))))

-- the two passes of a merge, place by place
merge_between
    : {n : ℕ} {x y : List ℕ} {l : Levels}
    → IsOrder n x
    → IsOrder n y
    → AreOrders n l
    → IsBetween n x y (l 0)
    → (k : ℕ)
    → IsBetween n (push x l k) (push y l k) (l (suc k))
merge_between {n} {x} {y} {l} in_x in_y orders between zero =
    IsBetween-settle in_x in_y (orders 0) (orders 1) between
merge_between {n} {x} {y} {l} in_x in_y orders between (suc k) =
    IsBetween-settle (AreOrders-push x orders k) (AreOrders-push y orders k) (orders (suc k))
    (orders (suc (suc k)))
    (merge_between in_x in_y orders between k)

-- two simple braids taken in one after the other are taken in as one
pub push-merge
    : {n : ℕ} {x y : List ℕ} {l : Levels}
    → IsOrder n x
    → IsOrder n y
    → AreOrders n l
    → IsBetween n x y (l 0)
    → IsSame (push x (in_front y (push y l))) (push x l)
push-merge {n} {x} {y} {l} in_x in_y orders between zero =
    settle-merge in_x in_y (orders 0) (orders 1) between
push-merge {n} {x} {y} {l} in_x in_y orders between (suc k) =
    rw (push-merge in_x in_y orders between k)
    (settle-merge (AreOrders-push x orders k) (AreOrders-push y orders k) (orders (suc k))
    (orders (suc (suc k)))
    (merge_between in_x in_y orders between k))

-- ---- Settled sequences ----

-- the order before one that is settled stays settled
--
-- Let p be y settled between x and l, q be l settled between p and m, and e and f neighbours in p that could
-- still be exchanged. Settled between y and q the order p becomes l (`settle-merge`), and the exchange of e
-- and f can come first there: so they stand turned in l, but as in p there, too, since p is settled before l.
pub settle-domino
    : {n : ℕ} {x y l m : List ℕ}
    → IsOrder n x
    → IsOrder n y
    → IsOrder n l
    → IsOrder n m
    → IsSettled y l m
    → IsSettled x (settle x y l) (settle (settle x y l) l m)
settle-domino {n} {x} {y} {l} {m} in_x in_y in_l in_m settled =
    IsSettled-from x (settle (settle x y l) l m) (IsOrder-settle x l in_y) at
  where
    at : (i : ℕ) → 1 ≤ i → i < n
        → IsBefore x (entry (settle x y l) i) (entry (settle x y l) (i + 1))
        → IsBefore (settle (settle x y l) l m) (entry (settle x y l) (i + 1)) (entry (settle x y l) i) → ⊥
    at i low high before after =
        let p = settle x y l in
        let q = settle p l m in
        let in_p = IsOrder-settle x l in_y in
        let in_q = IsOrder-settle p m in_l in
        let e = entry p i in
        let f = entry p (i + 1) in
        let one = in_p.within i low (omega arith) in
        let two = in_p.within (i + 1) (omega arith) (omega arith) in
        let now = neighbours_before in_p i low high in
        let in_rest : IsBefore l e f = elim (before_or in_l e f one two (before_differ p e f now)) [
          | inl right ↦ right
          | inr wrong ↦ absurd (settled_at x l in_p (IsSettled-settle x y l) i low high before wrong)
        ] in
        let in_middle : IsBefore y e f = elim (settle-turned x l in_y f e two one now) [
          | inl right ↦ right
          | inr wrong ↦ absurd (omega (arith, wrong, before))
        ] in
        let between : IsBetween n y p l =
        (λ a b is_a is_b first second. turned_stays x l in_y b a is_b is_a first
        (λ _ wrong. absurd (omega (arith, wrong, second)))) in
        let whole : settle y p q ≡ l =
        settle-merge in_y in_p in_l in_m between ∙ settle-settled y l m settled in
        let turned = IsOrder-swapped in_p i low high in
        let leads : Leads (descends y q) p (swapped i p) =
        turn i (i + 1) low refl (omega (arith, in_p.size, high)) (descends_from y q e f in_middle after)
        done in
        let along : settle y p q ≡ settle y (swapped i p) q = settle-along y p (swapped i p) q leads in
        let crossed : IsBefore (swapped i p) f e =
        rw (
          entry-swapped_here i (i + 1) p low refl (omega (arith, in_p.size, high)),
          entry-swapped_next i
              (i + 1) p low refl (omega (arith, in_p.size, high)),
        )
        at (neighbours_before turned i low high) in
        let stays : IsBefore (settle y (swapped i p) q) f e =
        turned_stays y q turned e f one two crossed (λ wrong _. absurd (omega (arith, wrong, in_middle))) in
        let last : IsBefore l f e = rw (sym along ∙ whole) at stays in
        absurd (omega (arith, last, in_rest))

-- a pass into a settled sequence gives a settled one
pub IsSettledFrom-push
    : {n : ℕ} {x y : List ℕ} {l : Levels}
    → IsOrder n x
    → IsOrder n y
    → AreOrders n l
    → IsSettledFrom y l
    → IsSettledFrom x (push x (in_front y l))
IsSettledFrom-push {n} {x} {y} {l} in_x in_y orders settled zero =
    settle-domino in_x in_y (orders 0) (orders 1) (settled 0)
IsSettledFrom-push {n} {x} {y} {l} in_x in_y orders settled (suc k) =
    settle-domino (AreOrders-push x (AreOrders-in_front in_y orders) k)
    (AreOrders-in_front in_y orders (suc k)) (orders (suc k)) (orders (suc (suc k)))
    (settled (suc k))

-- ---- Half turns and trivial steps in front ----

-- a step that stays is none
pub push-same
    : {n : ℕ} {y : List ℕ} {l : Levels}
    → IsOrder n y
    → AreOrders n l
    → IsSame (push y (in_front y l)) l
push-same order orders zero = settle-all order (orders 0)
push-same {n} {y} {l} order orders (suc k) =
    rw (push-same order orders k) (settle-all (orders k) (orders (suc k)))

-- a half turn before a settled sequence is settled
pub IsSettledFrom-half_turn
    : {n : ℕ} {r : List ℕ} (l : Levels)
    → IsOrder n r
    → IsSettledFrom r l
    → IsSettledFrom (reverse r) (in_front r l)
IsSettledFrom-half_turn {n} {r} l order settled zero =
    IsSettled-from (reverse r) (l 0) order
    (λ i low high before after.
    let one = order.within i low (omega arith) in
    let two = order.within (i + 1) (omega arith) (omega arith) in
    let now = neighbours_before order i low high in
    let back = before-reversed order (entry r (i + 1)) (entry r i) two one before in
    absurd (omega (arith, now, back)))
IsSettledFrom-half_turn l order settled (suc zero) = settled 0
IsSettledFrom-half_turn l order settled (suc (suc k)) = settled (suc k)

-- so it is taken in unchanged
pub push-half_turn
    : {n : ℕ} {r : List ℕ} (l : Levels)
    → IsOrder n r
    → IsSettledFrom r l
    → IsSame (push (reverse r) (in_front r l)) (in_front r l)
push-half_turn {n} {r} l order settled =
    push-settled (reverse r) (in_front r l) (IsSettledFrom-half_turn l order settled)

-- a step and then a half turn begins with the half turn
push-turn_first
    : {n : ℕ} {r s : List ℕ}
    → IsOrder n r
    → IsOrder n s
    → settle (reverse r) (reverse s) s ≡ r
push-turn_first {n} {r} {s} first second =
    let whole : settle (reverse r) (reverse s) (reverse (reverse s)) ≡ reverse (reverse r) =
    settle-half_turn (IsOrder-reverse first) (IsOrder-reverse second) in
    rw (reverse-reverse s, reverse-reverse r) at whole

-- a step and then a half turn is the half turn and then the step
pub push-turn
    : {n : ℕ} {r s : List ℕ} (l : Levels)
    → IsOrder n r
    → IsOrder n s
    → IsSame (push (reverse r) (in_front (reverse s) (in_front s l))) (in_front r (push r (in_front s l)))
push-turn l first second zero = push-turn_first first second
push-turn l first second (suc zero) = rw (push-turn_first first second) refl
push-turn {n} {r} {s} l first second (suc (suc k)) = rw (push-turn l first second (suc k)) refl
