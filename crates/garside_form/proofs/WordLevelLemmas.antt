-- Words as settled sequences of orders.
--
-- A word is read from its last letter to its first, with d half turns put in front of it, so many that
-- each negative letter has one: with one of them a negative letter is a simple braid. The orders are those
-- of the strands, which a word changes as it goes; half turns in front reverse them. One half turn more
-- stands in front (`levels-more`), and a way between two orders is taken in as one simple braid
-- (`levels-way`).
use Rattle.std.proofs.Common.{ℕ, zero, suc, ◌≡◌, inl, inr, ◌+◌, ◌<◌, ◌≤◌, Bool, true, false, List, [], ◌∷◌, ◌++◌, reverse, subst, arith}
use Rattle.braid_word.specs.Words.{Letter, IsOn}
use Rattle.braid_word.proofs.WeightLemmas.{taken, negatives}
use Rattle.perm_braid.specs.Arrangements.{entry, swapped, IsOrder}
use Rattle.perm_braid.specs.SimpleWords.{generator}
use Rattle.perm_braid.proofs.SwapLemmas.{IsOrder-swapped}
use Rattle.garside_form.proofs.LeadingLemmas.{IsBefore, before_or, before-swapped}
use Rattle.garside_form.proofs.SettleLemmas.{before_differ, IsSettled-from, IsBetween}
use Rattle.garside_form.proofs.LevelLemmas.{IsOrder-reverse, before-reverse, before-reversed, Levels, IsSame, in_front, push, AreOrders, IsSettledFrom, IsSame-push, IsSame-in_front, IsSame-trans, IsSame-sym, AreOrders-push, AreOrders-in_front, push-merge, IsSettledFrom-push, push-same, push-half_turn, push-turn}

-- ---- Half turns ----

-- The order after d half turns.
abbrev pub turned_by : ℕ → List ℕ → List ℕ
turned_by zero x = x
turned_by (suc d) x = reverse (turned_by d x)

-- it is an order
pub IsOrder-turned : {n : ℕ} {x : List ℕ} (d : ℕ) → IsOrder n x → IsOrder n (turned_by d x)
IsOrder-turned zero order = order
IsOrder-turned (suc d) order = IsOrder-reverse (IsOrder-turned d order)

-- what is between stays so
pub IsBetween-turned
    : {n : ℕ} {x y z : List ℕ} (d : ℕ)
    → IsOrder n x
    → IsOrder n y
    → IsOrder n z
    → IsBetween n x y z
    → IsBetween n (turned_by d x) (turned_by d y) (turned_by d z)
IsBetween-turned zero in_x in_y in_z between = between
IsBetween-turned (suc d) in_x in_y in_z between = λ e f one two first second.
    before-reverse (IsOrder-turned d in_y) f e two one
    (IsBetween-turned d in_x in_y in_z between f e two one
    (before-reversed (IsOrder-turned d in_x) f e two one first)
    (before-reversed (IsOrder-turned d in_z) f e two one second))

-- ---- Words ----

-- How many half turns are left after a letter of this sign.
abbrev pub lower : Bool → ℕ → ℕ
lower false d = d
lower true zero = zero
lower true (suc d) = d

-- The settled sequence of a word from the order x, with d half turns in front.
abbrev pub levels : List Letter → ℕ → List ℕ → Levels
levels [] zero x = λ k. x
levels [] (suc d) x = push (turned_by (suc d) x) (in_front (turned_by d x) (levels [] d x))
levels (c ∷ w) d x =
    push (turned_by d x)
    (in_front (turned_by (lower c.negative d) (swapped c.index x))
    (levels w (lower c.negative d) (swapped c.index x)))

-- what a letter leaves is enough for the rest
pub lower_fits : (b : Bool) (d k : ℕ) → taken b + k ≤ d → k ≤ lower b d
lower_fits false d k fits = omega arith
lower_fits true zero k fits = absurd (omega arith)
lower_fits true (suc d) k fits = omega arith

-- all are orders
pub AreOrders-levels : {n : ℕ} {x : List ℕ} (w : List Letter) (d : ℕ) → IsOrder n x → IsOn n w
    → AreOrders n (levels w d x)
AreOrders-levels [] zero order on = λ k. order
AreOrders-levels {n} {x} [] (suc d) order on =
    AreOrders-push (turned_by (suc d) x)
    (AreOrders-in_front (IsOrder-turned d order) (AreOrders-levels [] d order on))
AreOrders-levels {n} {x} (c ∷ w) d order on =
    let next = IsOrder-swapped order c.index on.0.0 on.0.1 in
    AreOrders-push (turned_by d x)
    (AreOrders-in_front (IsOrder-turned (lower c.negative d) next)
    (AreOrders-levels w (lower c.negative d) next on.1))

-- and the sequence is settled
pub IsSettledFrom-levels
    : {n : ℕ} {x : List ℕ} (w : List Letter) (d : ℕ)
    → IsOrder n x
    → IsOn n w
    → IsSettledFrom (turned_by d x) (levels w d x)
IsSettledFrom-levels {n} {x} [] zero order on = still
  where
    still : IsSettledFrom x (λ k. x)
    still zero = IsSettled-from x x order (λ i low high before after. absurd (omega (arith, before, after)))
    still (suc k) =
        IsSettled-from x x order (λ i low high before after. absurd (omega (arith, before, after)))
IsSettledFrom-levels {n} {x} [] (suc d) order on =
    IsSettledFrom-push (IsOrder-turned (suc d) order) (IsOrder-turned d order)
    (AreOrders-levels [] d order on)
    (IsSettledFrom-levels [] d order on)
IsSettledFrom-levels {n} {x} (c ∷ w) d order on =
    let next = IsOrder-swapped order c.index on.0.0 on.0.1 in
    IsSettledFrom-push (IsOrder-turned d order) (IsOrder-turned (lower c.negative d) next)
    (AreOrders-levels w (lower c.negative d) next on.1)
    (IsSettledFrom-levels w (lower c.negative d) next on.1)

-- ---- One half turn more ----

-- What is said of a word: one half turn more stands in front.
abbrev pub HasMore : ℕ → List Letter → Type 0
HasMore n w = (d : ℕ) (x : List ℕ) → negatives w ≤ d → IsOrder n x
    → IsSame (levels w (suc d) x) (in_front (turned_by d x) (levels w d x))

-- so with one letter more, of either sign
more_letter
    : {n : ℕ} (w : List Letter)
    → HasMore n w
    → (b : Bool) (d : ℕ) (x z : List ℕ)
    → taken b + negatives w ≤ d
    → IsOrder n x
    → IsOrder n z
    → IsSame (push (turned_by (suc d) x)
    (in_front (turned_by (lower b (suc d)) z) (levels w (lower b (suc d)) z)))
    (in_front (turned_by d x)
    (push (turned_by d x) (in_front (turned_by (lower b d) z) (levels w (lower b d) z))))
more_letter w more false d x z fits first second =
    IsSame-trans (IsSame-push (turned_by (suc d) x)
    (IsSame-in_front (turned_by (suc d) z) (more d z (omega arith) second)))
    (push-turn (levels w d z) (IsOrder-turned d first) (IsOrder-turned d second))
more_letter w more true zero x z fits first second = absurd (omega arith)
more_letter w more true (suc d) x z fits first second =
    IsSame-trans (IsSame-push (turned_by (suc (suc d)) x)
    (IsSame-in_front (turned_by (suc d) z) (more d z (omega arith) second)))
    (push-turn (levels w d z) (IsOrder-turned (suc d) first) (IsOrder-turned d second))

-- one half turn more stands in front
pub levels-more : {n : ℕ} (w : List Letter) → IsOn n w → HasMore n w
levels-more [] on d x fits order =
    push-half_turn (levels [] d x) (IsOrder-turned d order) (IsSettledFrom-levels [] d order tt)
levels-more {n} (c ∷ w) on d x fits order =
    more_letter w (levels-more w on.1) c.negative d x (swapped c.index x) fits order
    (IsOrder-swapped order c.index on.0.0 on.0.1)

-- ---- Ways ----

-- The word leads from the order x to the order z, and each letter exchanges a pair that stands otherwise in
-- z.
pub data IsWay (n : ℕ) (z : List ℕ) : List ℕ → List Letter → Type 0 where
  arrive : {x : List ℕ} → x ≡ z → IsWay n z x []
  cross : {x : List ℕ} {u : List Letter} (i : ℕ) → 1 ≤ i → i < n → IsBefore z (entry x (i + 1)) (entry x i)
      → IsWay n z (swapped i x) u → IsWay n z x (generator i ∷ u)

-- such a word is on n strands
pub IsOn-way : {n : ℕ} {z x : List ℕ} {u : List Letter} → IsWay n z x u → IsOn n u
IsOn-way (arrive is) = tt
IsOn-way (cross i low high turns rest) = ((low, high), IsOn-way rest)

-- an exchange of a pair that stands otherwise in z is between
IsBetween-swapped
    : {n : ℕ} {x : List ℕ} (z : List ℕ) (i : ℕ)
    → IsOrder n x
    → 1 ≤ i
    → i < n
    → IsBefore z (entry x (i + 1)) (entry x i)
    → IsBetween n x (swapped i x) z
IsBetween-swapped {n} {x} z i order low high turns e f one two first second =
    let next = IsOrder-swapped order i low high in
    elim (before_or next e f one two (before_differ x e f first)) [
      | inl right ↦ right
      | inr wrong ↦ elim (before-swapped order i e f low high one two wrong) [
        | inl back ↦ absurd (omega (arith, back, first))
        | inr pair ↦
            let crossed : IsBefore z f e = rw (pair.0, pair.1) turns in
            absurd (omega (arith, crossed, second))
      ]
    ]

-- The step from x to z at once, and then the word.
abbrev pub stepped : List ℕ → List ℕ → List Letter → ℕ → Levels
stepped x z w d = push (turned_by d x) (in_front (turned_by d z) (levels w d z))

-- a way is taken in as one step
pub levels-way
    : {n : ℕ} {z x : List ℕ} {u : List Letter} (w : List Letter) (d : ℕ)
    → IsOrder n x
    → IsOrder n z
    → IsOn n w
    → IsWay n z x u
    → IsSame (levels (u ++ w) d x) (stepped x z w d)
levels-way {n} {z} {x} w d in_x in_z on (arrive is) =
    subst (λ y. IsSame (levels w d x) (stepped x y w d)) is
    (IsSame-sym (push-same (IsOrder-turned d in_x) (AreOrders-levels w d in_x on)))
levels-way {n} {z} {x} w d in_x in_z on (cross i low high turns rest) =
    let next = IsOrder-swapped in_x i low high in
    IsSame-trans (IsSame-push (turned_by d x)
    (IsSame-in_front (turned_by d (swapped i x)) (levels-way w d next in_z on rest)))
    (push-merge (IsOrder-turned d in_x) (IsOrder-turned d next)
    (AreOrders-in_front (IsOrder-turned d in_z) (AreOrders-levels w d in_z on))
    (IsBetween-turned d in_x next in_z (IsBetween-swapped z i in_x low high turns)))

-- two ways between the same orders give one sequence
pub levels-ways
    : {n : ℕ} {x z : List ℕ} {u v : List Letter} (w : List Letter) (d : ℕ)
    → IsOrder n x
    → IsOrder n z
    → IsOn n w
    → IsWay n z x u
    → IsWay n z x v
    → IsSame (levels (u ++ w) d x) (levels (v ++ w) d x)
levels-ways w d in_x in_z on one two =
    IsSame-trans (levels-way w d in_x in_z on one) (IsSame-sym (levels-way w d in_x in_z on two))
