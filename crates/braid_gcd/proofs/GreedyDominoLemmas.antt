-- Pairs made greedy from the front of a list: what is left behind stays greedy.
--
-- Where the pair p, q became s, t, and q was greedy before r, and then the pair t, r became u, v, the pair
-- s, u is greedy: so one pass from the front to the end makes a list greedy that a simple braid was put in
-- front of.
use Rattle.std.proofs.Common.{ℕ, ◌≡◌, List, subst}
use Rattle.perm_braid.specs.Arrangements.{identity, IsOrder}
use Rattle.perm_braid.specs.GreedyPairs.{IsGreedy, Moves}
use Rattle.perm_braid.proofs.PlaceLemmas.{IsOrder-identity}
use Rattle.perm_braid.proofs.MoveLemmas.{IsOrder-moves_first, IsOrder-moves_second}
use Rattle.garside_form.proofs.SettleLemmas.{settle, IsSettled, settle-all}
use Rattle.garside_form.proofs.LevelLemmas.{settle-domino}
use Rattle.garside_form.proofs.ComposedLemmas.{composed, IsOrder-composed, composed-identity}
use Rattle.garside_form.proofs.NaturalLevelLemmas.{greedy_settled}
use Rattle.garside_form.proofs.GreedyLevelLemmas.{taken_moves, composed-greedy, IsGreedy-settled}

-- what became of the first pair is settled before what becomes of its second and the next
domino_settled
    : {n : ℕ} {p q r s t : List ℕ}
    → IsOrder n p
    → IsOrder n q
    → IsOrder n r
    → Moves n p q s t
    → IsGreedy n s t
    → IsGreedy n q r
    → IsSettled (identity n) (composed (identity n) s)
    (settle (composed (identity n) s) (composed (composed (identity n) s) t)
    (composed (composed (composed (identity n) s) t) r))
domino_settled {n} {p} {q} {r} {s} {t} in_p in_q in_r moves made greedy =
    let x = identity n in
    let in_x = IsOrder-identity n in
    let y = composed x p in
    let in_y = IsOrder-composed in_x in_p in
    let l = composed y q in
    let in_l = IsOrder-composed in_y in_q in
    let m = composed l r in
    let in_m = IsOrder-composed in_l in_r in
    let first : settle x y l ≡ composed x s = composed-greedy x in_x in_p in_q moves made in
    let end : composed (composed x s) t ≡ l = (taken_moves x in_x in_p in_q moves).end in
    let domino : IsSettled x (settle x y l) (settle (settle x y l) l m) =
    settle-domino in_x in_y in_l in_m (greedy_settled in_y in_q in_r greedy) in
    let placed : IsSettled x (composed x s) (settle (composed x s) l m) = rw first at domino in
    rw end placed

-- so it is greedy before what comes of these
pub IsGreedy-domino_left
    : {n : ℕ} {p q r s t u v : List ℕ}
    → IsOrder n p
    → IsOrder n q
    → IsOrder n r
    → Moves n p q s t
    → IsGreedy n s t
    → IsGreedy n q r
    → Moves n t r u v
    → IsGreedy n u v
    → IsGreedy n s u
IsGreedy-domino_left {n} {p} {q} {r} {s} {t} {u} {v} in_p in_q in_r moves made greedy moves_on made_on =
    let x = identity n in
    let in_x = IsOrder-identity n in
    let in_s = IsOrder-moves_first in_p moves in
    let in_t = IsOrder-moves_second in_q moves in
    let in_u = IsOrder-moves_first in_t moves_on in
    let next = composed-greedy (composed x s) (IsOrder-composed in_x in_s) in_t in_r moves_on made_on in
    IsGreedy-settled in_x in_s in_u
    (subst (λ z. IsSettled x (composed x s) z) next (domino_settled in_p in_q in_r moves made greedy))

-- and where nothing was left of the second, it is greedy before the next
pub IsGreedy-domino_identity
    : {n : ℕ} {p q r s : List ℕ}
    → IsOrder n p
    → IsOrder n q
    → IsOrder n r
    → Moves n p q s (identity n)
    → IsGreedy n s (identity n)
    → IsGreedy n q r
    → IsGreedy n s r
IsGreedy-domino_identity {n} {p} {q} {r} {s} in_p in_q in_r moves made greedy =
    let x = identity n in
    let in_x = IsOrder-identity n in
    let in_s = IsOrder-moves_first in_p moves in
    let z = composed x s in
    let in_z = IsOrder-composed in_x in_s in
    let same : composed z (identity n) ≡ z = composed-identity in_z in
    let settled : IsSettled x z (settle z z (composed z r)) =
    rw same at (domino_settled in_p in_q in_r moves made greedy) in
    IsGreedy-settled in_x in_s in_r (rw (settle-all in_z (IsOrder-composed in_z in_r)) at settled)
