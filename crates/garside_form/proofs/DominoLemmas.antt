-- Simple braids taken in at the end of a settled product.
--
-- A product x0, x1, x2 that is settled at x1 is followed by x3. Where x2 is settled before x3, and then x1
-- before what x2 has become, x2 stays settled (`settle-domino_right`): so one pass from the end to the
-- front is enough. Were a pair e, f still to be turned there, some neighbours of x1 would have been left that
-- x1 had to turn before x2: of the strands from f to e in x1, the last that ends on the right of this
-- pair before one that ends on the left.
use Rattle.std.proofs.Common.{ℕ, zero, suc, ◌≡◌, inl, inr, ◌+◌, ◌-◌, ◌<◌, ◌≤◌, List, sym, ap, arith}
use Rattle.std.proofs.lemmas.Bool.{cases_lt}
use Rattle.perm_braid.specs.Arrangements.{entry, place_of, IsOrder}
use Rattle.perm_braid.proofs.PlaceLemmas.{place_low, IsOrder-entry}
use Rattle.garside_form.proofs.LeadingLemmas.{IsBefore, IsStrand, strand_same, before_or, neighbours_before}
use Rattle.garside_form.proofs.SettleLemmas.{before_differ, settle, IsSettled, IsOrder-settle, IsSettled-settle, settle-turned, IsSettled-from, settled_at}

-- Neighbours of x of which the first is past the place i of y, and the second isn't.
pub record Falls (x y : List ℕ) (i first last k : ℕ) : Type 0 where
  pub low : first ≤ k
  pub high : k < last
  pub right : i < place_of y (entry x k)
  pub left : place_of y (entry x (k + 1)) ≤ i

-- there are such neighbours between a first that is past that place and a last that isn't
falls_exists
    : (x y : List ℕ) (i first last d k : ℕ)
    → k + d ≡ last
    → first ≤ k
    → i < place_of y (entry x k)
    → place_of y (entry x last) ≤ i
    → (m : ℕ) × Falls x y i first last m
falls_exists x y i first last zero k at low right left =
    let e : k ≡ last = omega (arith, at) in
    let same : place_of y (entry x k) ≡ place_of y (entry x last) = ap (λ m. place_of y (entry x m)) e in
    absurd (omega (arith, same, right, left))
falls_exists x y i first last (suc d) k at low right left = elim (cases_lt i (place_of y (entry x (k + 1)))) [
  | inl more ↦ falls_exists x y i first last d (k + 1) (omega (arith, at)) (omega arith) more left
  | inr here ↦ (k, record { low = low; high = omega (arith, at); right = right; left = here })
]

-- of two strands the one that stands no further on stands first
before_from
    : {n : ℕ} {a : List ℕ}
    → IsOrder n a
    → (e f : ℕ)
    → IsStrand n e
    → IsStrand n f
    → (e ≡ f → ⊥)
    → place_of a e ≤ place_of a f
    → IsBefore a e f
before_from order e f one two other less = elim (before_or order e f one two other) [
  | inl right ↦ right
  | inr wrong ↦ absurd (other (strand_same order e f one two (omega arith)))
]

-- x2, settled before x3, stays settled where x1 is settled before it
--
-- Let e and f be neighbours in t that could still be exchanged; then f stands before e in x. On the way from
-- f to e in x there are neighbours a and b of which a is past their place in t and b isn't (`falls_exists`):
-- a stands before b in o and after it in y, so that x isn't settled between o and y, against the premise.
pub settle-domino_right
    : {n : ℕ} {o x y z : List ℕ}
    → IsOrder n o
    → IsOrder n x
    → IsOrder n y
    → IsOrder n z
    → IsSettled o x y
    → IsSettled (settle o x (settle x y z)) (settle x y z) z
settle-domino_right {n} {o} {x} {y} {z} in_o in_x in_y in_z settled =
    IsSettled-from (settle o x t) z in_t at
  where
    t : List ℕ
    t = settle x y z

    in_t : IsOrder n t
    in_t = IsOrder-settle x z in_y

    at : (i : ℕ) → 1 ≤ i → i < n → IsBefore (settle o x t) (entry t i) (entry t (i + 1))
        → IsBefore z (entry t (i + 1)) (entry t i) → ⊥
    at i low high before after =
        let e = entry t i in
        let f = entry t (i + 1) in
        let one = in_t.within i low (omega arith) in
        let two = in_t.within (i + 1) (omega arith) (omega arith) in
        let at_e = in_t.distinct i low (omega arith) in
        let at_f = in_t.distinct (i + 1) (omega arith) (omega arith) in
        let now = neighbours_before in_t i low high in
        let crossed : IsBefore x f e = elim (before_or in_x e f one two (before_differ t e f now)) [
          | inl wrong ↦ absurd (settled_at x z in_t (IsSettled-settle x y z) i low high wrong after)
          | inr right ↦ right
        ] in
        let open_y : IsBefore y e f = elim (settle-turned x z in_y f e two one now) [
          | inl right ↦ right
          | inr both ↦ absurd (omega (arith, both, after))
        ] in
        let first = place_of x f in
        let last = place_of x e in
        let back_e = IsOrder-entry in_x e one.0 one.1 in
        let back_f = IsOrder-entry in_x f two.0 two.1 in
        let begins : i < place_of t (entry x first) = rw back_f (omega (arith, at_f)) in
        let ends : place_of t (entry x last) ≤ i = rw back_e (omega (arith, at_e)) in
        let (k, falls) = falls_exists x t i first last (last - first) first (omega (arith, crossed))
        (omega arith) begins ends in
        let low_k : 1 ≤ k = omega (arith, place_low x f, falls.low) in
        let most = in_x.has e one.0 one.1 in
        let high_k : k < n = omega (arith, falls.high, most) in
        let a = entry x k in
        let b = entry x (k + 1) in
        let is_a = in_x.within k low_k (omega arith) in
        let is_b = in_x.within (k + 1) (omega arith) (omega arith) in
        let at_a = in_x.distinct k low_k (omega arith) in
        let at_b = in_x.distinct (k + 1) (omega arith) (omega arith) in
        let x_b : (b ≡ e → ⊥) → IsBefore x b e =
        λ other. before_from in_x b e is_b one other (omega (arith, at_b, falls.high)) in
        let t_b : (b ≡ e → ⊥) → IsBefore t b e =
        λ other. before_from in_t b e is_b one other (omega (arith, falls.left, at_e)) in
        let x_a : (f ≡ a → ⊥) → IsBefore x f a =
        λ other. before_from in_x f a two is_a other (omega (arith, at_a, falls.low)) in
        let t_a : (f ≡ a → ⊥) → IsBefore t f a =
        λ other. before_from in_t f a two is_a other (omega (arith, falls.right, at_f)) in
        let y_b : IsBefore y e b → ⊥ = λ wrong.
        let other = λ (same : b ≡ e). before_differ y e b wrong (sym same) in
        let in_left = x_b other in
        elim (settle-turned x z in_y e b one is_b (t_b other)) [
          | inl right ↦ absurd (omega (arith, right, wrong))
          | inr both ↦ absurd (omega (arith, both, in_left))
        ] in
        let y_a : IsBefore y a f → ⊥ = λ wrong.
        let other = λ (same : f ≡ a). before_differ y a f wrong (sym same) in
        let in_left = x_a other in
        elim (settle-turned x z in_y a f is_a two (t_a other)) [
          | inl right ↦ absurd (omega (arith, right, wrong))
          | inr both ↦ absurd (omega (arith, both, in_left))
        ] in
        let s_b : IsBefore (settle o x t) e b → ⊥ = λ wrong.
        let other = λ (same : b ≡ e). before_differ (settle o x t) e b wrong (sym same) in
        let in_left = x_b other in
        let in_right = t_b other in
        elim (settle-turned o t in_x b e is_b one wrong) [
          | inl right ↦ absurd (omega (arith, right, in_left))
          | inr both ↦ absurd (omega (arith, both, in_right))
        ] in
        let s_a : IsBefore (settle o x t) a f → ⊥ = λ wrong.
        let other = λ (same : f ≡ a). before_differ (settle o x t) a f wrong (sym same) in
        let in_left = x_a other in
        let in_right = t_a other in
        elim (settle-turned o t in_x f a two is_a wrong) [
          | inl right ↦ absurd (omega (arith, right, in_left))
          | inr both ↦ absurd (omega (arith, both, in_right))
        ] in
        let turned_y : IsBefore y b a = omega (arith, y_a, y_b, open_y) in
        let turned_s : IsBefore (settle o x t) b a = omega (arith, s_a, s_b, before) in
        let in_front : IsBefore o a b = elim (settle-turned o t in_x a b is_a is_b turned_s) [
          | inl wrong ↦ absurd (omega (arith, wrong, at_a, at_b))
          | inr both ↦ both.0
        ] in
        settled_at o y in_x settled k low_k high_k in_front turned_y
