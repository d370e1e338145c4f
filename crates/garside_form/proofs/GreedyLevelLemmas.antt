-- Pairs of simple braids that are made greedy, by the orders of their strands.
--
-- What moves of a pair leave is settled between the orders before and after it, and the last order stays
-- (`IsTaken`). A half turn that comes of a pair goes past the factors before it, which stay greedy
-- (`IsGreedy-half_turn`).
use Rattle.std.proofs.Common.{ℕ, ◌≡◌, inl, inr, ◌+◌, ◌-◌, ◌<◌, ◌≤◌, ◌∙◌, List, refl, sym, ap, subst, arith}
use Rattle.std.proofs.lemmas.Bool.{cases_lt}
use Rattle.perm_braid.specs.Arrangements.{entry, place_of, swapped, values_swapped, flip, identity, half_turn, IsOrder, IsLeftDescent}
use Rattle.perm_braid.specs.GreedyPairs.{IsGreedy, IsMove, Moves, done, move}
use Rattle.perm_braid.proofs.PlaceLemmas.{IsOrder-identity, IsOrder-half_turn, entry-half_turn, place_of-half_turn}
use Rattle.perm_braid.proofs.SwapLemmas.{neighbour_is, place_of-values_swapped, IsOrder-swapped, IsOrder-values_swapped}
use Rattle.perm_braid.proofs.SortingLemmas.{entries_rise}
use Rattle.perm_braid.proofs.SimpleWordLemmas.{swapped-map}
use Rattle.perm_braid.proofs.MoveLemmas.{IsOrder-moves_first, IsOrder-moves_second}
use Rattle.garside_form.proofs.SortLemmas.{Leads, done as leads_done, turn}
use Rattle.garside_form.proofs.ComposedLemmas.{composed, entry-composed, IsOrder-composed, place_of-composed, composed-swapped}
use Rattle.garside_form.proofs.DeltaLemmas.{composed_identity_left}
use Rattle.garside_form.proofs.FlipLemmas.{left_descent-flip}
use Rattle.garside_form.proofs.NaturalLevelLemmas.{greedy_settled}
use Rattle.garside_form.proofs.LeadingLemmas.{IsBefore, neighbours_before, descends, descends_parts, descends_from, Leads-before}
use Rattle.garside_form.proofs.SettleLemmas.{settle, IsSettled, settle-is, settled_at}
use Rattle.garside_form.proofs.DominoLemmas.{settle-domino_right}

-- ---- Pairs made greedy ----

-- What moves make of the orders of two simple braids: the one between is settled, and the last stays.
pub record IsTaken (x p q r s : List ℕ) : Type 0 where
  pub leads : Leads (descends x (composed (composed x p) q)) (composed x p) (composed x r)
  pub end : composed (composed x r) s ≡ composed (composed x p) q

-- one move exchanges neighbours of the order between
taken_first
    : {n : ℕ} {p q r s : List ℕ} (x : List ℕ) (i : ℕ)
    → IsOrder n x
    → IsOrder n p
    → IsOrder n q
    → IsMove n p q i
    → IsTaken x (swapped i p) (values_swapped i q) r s
    → IsTaken x p q r s
taken_first {n} {p} {q} {r} {s} x i in_x in_p in_q is later = record {
  leads = turn i (i + 1) is.low refl (omega (arith, in_y.size, is.high))
      (descends_from x (composed y q) (entry y i) (entry y (i + 1)) rises falls) onward;
  end = later.end ∙ same;
}
  where
    y : List ℕ
    y = composed x p

    in_y : IsOrder n y
    in_y = IsOrder-composed in_x in_p

    swaps : composed x (swapped i p) ≡ swapped i y
    swaps = sym (swapped-map (entry x) i p)

    same : composed (composed x (swapped i p)) (values_swapped i q) ≡ composed y q
    same = rw swaps (composed-swapped in_y in_q i is.low is.high)

    onward : Leads (descends x (composed y q)) (swapped i y) (composed x r)
    onward = subst (λ z. Leads (descends x z) (swapped i y) (composed x r)) same
        (subst (λ c. Leads (descends x (composed (composed x (swapped i p)) (values_swapped i q))) c
        (composed x r)) swaps later.leads)

    rises : IsBefore x (entry y i) (entry y (i + 1))
    rises =
        let here = entry-composed x in_p i is.low (omega (arith, is.high)) in
        let next = entry-composed x in_p (i + 1) (omega arith) (omega (arith, is.high)) in
        let one = in_p.within i is.low (omega (arith, is.high)) in
        let two = in_p.within (i + 1) (omega arith) (omega (arith, is.high)) in
        let at_here = in_x.distinct (entry p i) one.0 one.1 in
        let at_next = in_x.distinct (entry p (i + 1)) two.0 two.1 in
        let up = entries_rise in_p i is.low is.high is.right in
        rw (here, next) (omega (arith, at_here, at_next, up))

    falls : IsBefore (composed y q) (entry y (i + 1)) (entry y i)
    falls =
        let here = place_of-composed in_y in_q i is.low (omega (arith, is.high)) in
        let next = place_of-composed in_y in_q (i + 1) (omega arith) (omega (arith, is.high)) in
        omega (arith, here, next, is.left)

-- moves exchange neighbours of the order between
pub taken_moves
    : {n : ℕ} {p q r s : List ℕ} (x : List ℕ)
    → IsOrder n x
    → IsOrder n p
    → IsOrder n q
    → Moves n p q r s
    → IsTaken x p q r s
taken_moves x in_x in_p in_q done = record { leads = leads_done; end = refl }
taken_moves x in_x in_p in_q (move i is rest) =
    taken_first x i in_x in_p in_q is
    (taken_moves x in_x (IsOrder-swapped in_p i is.low is.high) (IsOrder-values_swapped in_q i is.low is.high)
    rest)

-- a pair made greedy by moves: the order between is settled
pub composed-greedy
    : {n : ℕ} {p q r s : List ℕ} (x : List ℕ)
    → IsOrder n x
    → IsOrder n p
    → IsOrder n q
    → Moves n p q r s
    → IsGreedy n r s
    → settle x (composed x p) (composed (composed x p) q) ≡ composed x r
composed-greedy {n} {p} {q} {r} {s} x in_x in_p in_q moves greedy =
    let taken = taken_moves x in_x in_p in_q moves in
    let settled =
    greedy_settled in_x (IsOrder-moves_first in_p moves) (IsOrder-moves_second in_q moves) greedy in
    settle-is x (composed x p) (composed x r) (composed (composed x p) q) taken.leads
    (subst (λ z. IsSettled x (composed x r) z) taken.end settled)

-- a settled order is that between a greedy pair
pub IsGreedy-settled
    : {n : ℕ} {x p q : List ℕ}
    → IsOrder n x
    → IsOrder n p
    → IsOrder n q
    → IsSettled x (composed x p) (composed (composed x p) q)
    → IsGreedy n p q
IsGreedy-settled {n} {x} {p} {q} in_x in_p in_q settled i low high left =
    elim (cases_lt (entry p (i + 1)) (entry p i)) [
      | inl down ↦ down
      | inr up ↦
          let in_y = IsOrder-composed in_x in_p in
          let here = entry-composed x in_p i low (omega arith) in
          let next = entry-composed x in_p (i + 1) (omega arith) (omega arith) in
          let one = in_p.within i low (omega arith) in
          let two = in_p.within (i + 1) (omega arith) (omega arith) in
          let at_here = in_x.distinct (entry p i) one.0 one.1 in
          let at_next = in_x.distinct (entry p (i + 1)) two.0 two.1 in
          let rises = entries_rise in_p i low high (λ down. absurd (omega arith)) in
          let before : IsBefore x (entry (composed x p) i) (entry (composed x p) (i + 1)) =
          rw (here, next) (omega (arith, at_here, at_next, rises)) in
          let place_here = place_of-composed in_y in_q i low (omega arith) in
          let place_next = place_of-composed in_y in_q (i + 1) (omega arith) (omega arith) in
          let after : IsBefore (composed (composed x p) q) (entry (composed x p) (i + 1))
          (entry (composed x p) i)
          = omega (arith, place_here, place_next, left) in
          absurd (settled_at x (composed (composed x p) q) in_y settled i low high before after)
    ]

-- Where the pair p, q was made greedy and then the pair before it, the later one stays greedy: one pass
-- from the end to the front makes a list of simple braids normal.
pub IsGreedy-domino_right
    : {n : ℕ} {o p q r s t u : List ℕ}
    → IsOrder n o
    → IsOrder n p
    → IsOrder n q
    → IsGreedy n o p
    → Moves n p q r s
    → IsGreedy n r s
    → Moves n o r t u
    → IsGreedy n t u
    → IsGreedy n u s
IsGreedy-domino_right {n} {o} {p} {q} {r} {s} {t} {u} in_o in_p in_q greedy moves made moves_on made_on =
    let x = identity n in
    let in_x = IsOrder-identity n in
    let y = composed x o in
    let in_y = IsOrder-composed in_x in_o in
    let in_r = IsOrder-moves_first in_p moves in
    let in_s = IsOrder-moves_second in_q moves in
    let in_t = IsOrder-moves_first in_o moves_on in
    let in_u = IsOrder-moves_second in_r moves_on in
    let z = composed y p in
    let in_z = IsOrder-composed in_y in_p in
    let e = composed z q in
    let in_e = IsOrder-composed in_z in_q in
    let first = greedy_settled in_x in_o in_p greedy in
    let second : settle y z e ≡ composed y r = composed-greedy y in_y in_p in_q moves made in
    let third : settle x y (composed y r) ≡ composed x t =
    composed-greedy x in_x in_o in_r moves_on made_on in
    let fourth : composed (composed x t) u ≡ composed y r = (taken_moves x in_x in_o in_r moves_on).end in
    let fifth : composed (composed y r) s ≡ e = (taken_moves y in_y in_p in_q moves).end in
    let domino : IsSettled (settle x y (settle y z e)) (settle y z e) e =
    settle-domino_right in_x in_y in_z in_e first in
    let placed : IsSettled (composed x t) (composed y r) e = rw (second, third) at domino in
    let turned : IsSettled (composed x t) (composed (composed x t) u)
    (composed (composed (composed x t) u) s) =
    rw (fourth, fifth) placed in
    IsGreedy-settled (IsOrder-composed in_x in_t) in_u in_s turned

-- ---- Pairs that become a half turn ----

-- where a pair becomes the half turn and another, each left descent of this one comes of the first
left_descent-half_turn
    : {n : ℕ} {p q s : List ℕ} (i : ℕ)
    → IsOrder n p
    → IsOrder n q
    → Moves n p q (half_turn n) s
    → 1 ≤ i
    → i < n
    → IsLeftDescent s i
    → IsLeftDescent p (n - i)
left_descent-half_turn {n} {p} {q} {s} i in_p in_q moves low high left =
    let x = identity n in
    let in_x = IsOrder-identity n in
    let whole = IsOrder-half_turn n in
    let taken = taken_moves x in_x in_p in_q moves in
    let in_s = IsOrder-moves_second in_q moves in
    let end : composed (half_turn n) s ≡ composed p q =
    rw (composed_identity_left in_p, composed_identity_left whole) at taken.end in
    let leads : Leads (descends x (composed p q)) p (half_turn n) =
    rw (composed_identity_left in_p, composed_identity_left whole) at taken.leads in
    let e = entry (half_turn n) (i + 1) in
    let f = entry (half_turn n) i in
    let one = whole.within (i + 1) (omega arith) (omega arith) in
    let two = whole.within i low (omega arith) in
    let here = place_of-composed whole in_s i low (omega arith) in
    let next = place_of-composed whole in_s (i + 1) (omega arith) (omega arith) in
    let behind : IsBefore (composed (half_turn n) s) e f = omega (arith, here, next, left) in
    let last : IsBefore (composed p q) e f = rw end at behind in
    let first = entry-half_turn n i low (omega arith) in
    let second = entry-half_turn n (i + 1) (omega arith) (omega arith) in
    let at_e : e ≡ n - i = omega (arith, second) in
    let at_f : f ≡ n - i + 1 = omega (arith, first) in
    elim (Leads-before in_p leads e f one two (neighbours_before whole i low high)) [
      | inl before ↦ let found : IsBefore p f e = before in rw (at_e, at_f) at found
      | inr may ↦
          let parts = descends_parts x (composed p q) e f may in
          absurd (omega (arith, parts, last))
    ]

-- what was greedy before the pair is greedy before the flip of the other: the half turn goes past it
pub IsGreedy-half_turn
    : {n : ℕ} {p q s : List ℕ} (o : List ℕ)
    → IsOrder n p
    → IsOrder n q
    → IsGreedy n o p
    → Moves n p q (half_turn n) s
    → IsGreedy n o (flip s)
IsGreedy-half_turn {n} {p} {q} {s} o in_p in_q greedy moves i low high left =
    let e : n - (n - i) ≡ i = omega arith in
    let in_s = IsOrder-moves_second in_q moves in
    let there = left_descent-half_turn (n - i) in_p in_q moves (omega arith) (omega arith)
    (left_descent-flip i in_s low high left) in
    greedy i low high (rw e at there)

-- moves leave no half turn where there was none
pub Moves-half_turn
    : {n : ℕ} {p q r s : List ℕ}
    → IsOrder n q
    → Moves n p q r s
    → s ≡ half_turn n
    → q ≡ half_turn n
Moves-half_turn in_q done is = is
Moves-half_turn {n} {p} {q} in_q (move i one rest) is =
    let high = one.high in
    let next_q = IsOrder-values_swapped in_q i one.low high in
    let whole : values_swapped i q ≡ half_turn n = Moves-half_turn next_q rest is in
    let here = place_of-values_swapped in_q i i one.low high one.low (omega (arith, high)) in
    let next = place_of-values_swapped in_q i (i + 1) one.low high (omega arith) (omega (arith, high)) in
    let first : place_of (values_swapped i q) i ≡ place_of q (i + 1) =
    here ∙ ap (place_of q) ((neighbour_is i i).here refl) in
    let second : place_of (values_swapped i q) (i + 1) ≡ place_of q i =
    next ∙ ap (place_of q) ((neighbour_is i (i + 1)).next refl) in
    let at_first : place_of (values_swapped i q) i ≡ n + 1 - i =
    ap (λ a. place_of a i) whole ∙ place_of-half_turn n i one.low (omega (arith, high)) in
    let at_second : place_of (values_swapped i q) (i + 1) ≡ n + 1 - (i + 1) =
    ap (λ a. place_of a (i + 1)) whole
    ∙ place_of-half_turn n (i + 1) (omega arith) (omega (arith, high)) in
    absurd (omega (arith, first, second, at_first, at_second, one.left, high))
