-- Simple braids turned by half a turn.
--
-- A simple braid behind a half turn is its flip before it. Flips of a greedy list are greedy
-- (`AreGreedy-flip`), and what is neither the identity nor the half turn isn't after a flip either. What a
-- list spells, with each index turned, is what the flips spell (`product_flip`).
use Rattle.std.proofs.Common.{ℕ, ◌≡◌, ◌+◌, ◌-◌, ◌<◌, ◌≤◌, ◌∙◌, Bool, true, false, List, [], ◌∷◌, ◌++◌, append-nil, map, sym, ap, arith}
use Rattle.std.proofs.lemmas.List.{map-append}
use Rattle.braid_word.specs.Words.{Letter}
use Rattle.braid_word.specs.Equivalence.{EquivalentOn, stay}
use Rattle.braid_word.proofs.EquivalenceLemmas.{EquivalentOn-sym, EquivalentOn-trans, EquivalentOn-before, EquivalentOn-after, EquivalentOn-append}
use Rattle.perm_braid.specs.Arrangements.{entry, place_of, flip, identity, half_turn, IsOrder, IsRightDescent, IsLeftDescent}
use Rattle.perm_braid.specs.SimpleWords.{delta_word}
use Rattle.perm_braid.specs.GreedyPairs.{IsGreedy}
use Rattle.perm_braid.proofs.PlaceLemmas.{same_entries, place_of-from, IsOrder-identity, IsOrder-half_turn, entry-identity, entry-half_turn}
use Rattle.perm_braid.proofs.SwapLemmas.{entry-flip, Undoes-flip, IsOrder-flip}
use Rattle.garside_form.specs.NormalForms.{IsProduct, empty, factor}
use Rattle.garside_form.specs.FactorLists.{EachOrder, AreGreedy, KeepsFactors, EndsCrossed, BeginsShort, IsReady, turned_factors}
use Rattle.garside_form.proofs.NaturalLevelLemmas.{IsOn-product, IsOn-delta}
use Rattle.garside_form.proofs.FactorLemmas.{product_exists, product_split, product_half_turn}
use Rattle.garside_form.proofs.DeltaLemmas.{mirrored, EquivalentOn-delta_pass, EquivalentOn-flip}

-- ---- One arrangement ----

-- half a turn twice is none
pub flip-flip : {n : ℕ} {a : List ℕ} → IsOrder n a → flip (flip a) ≡ a
flip-flip {n} {a} order =
    let once = IsOrder-flip order in
    let twice = IsOrder-flip once in
    same_entries (flip (flip a)) a (twice.size ∙ sym order.size)
    (λ i low high.
    let fits : i ≤ n = omega (arith, twice.size, high) in
    let inside = order.within i low fits in
    let first = entry-flip n i (flip a) once.size low fits in
    let second = entry-flip n (n + 1 - i) a order.size (omega arith) (omega arith) in
    let e : n + 1 - (n + 1 - i) ≡ i = omega arith in
    let f : entry a (n + 1 - (n + 1 - i)) ≡ entry a i = ap (entry a) e in
    omega (arith, first, second, f, inside))

-- the identity stays
flip_identity : (n : ℕ) → flip (identity n) ≡ identity n
flip_identity n =
    let order = IsOrder-identity n in
    let turned = IsOrder-flip order in
    same_entries (flip (identity n)) (identity n) (turned.size ∙ sym order.size)
    (λ i low high.
    let fits : i ≤ n = omega (arith, turned.size, high) in
    let first = entry-flip n i (identity n) order.size low fits in
    let there = entry-identity n (n + 1 - i) (omega arith) (omega arith) in
    let here = entry-identity n i low fits in
    omega (arith, first, there, here))

-- so does the half turn
flip_half_turn : (n : ℕ) → flip (half_turn n) ≡ half_turn n
flip_half_turn n =
    let order = IsOrder-half_turn n in
    let turned = IsOrder-flip order in
    same_entries (flip (half_turn n)) (half_turn n) (turned.size ∙ sym order.size)
    (λ i low high.
    let fits : i ≤ n = omega (arith, turned.size, high) in
    let first = entry-flip n i (half_turn n) order.size low fits in
    let there = entry-half_turn n (n + 1 - i) (omega arith) (omega arith) in
    let here = entry-half_turn n i low fits in
    omega (arith, first, there, here))

-- only the identity is the identity after half a turn
pub identity_flipped : {n : ℕ} {p : List ℕ} → IsOrder n p → flip p ≡ identity n → p ≡ identity n
identity_flipped {n} order is = sym (flip-flip order) ∙ (ap flip is ∙ flip_identity n)

-- and only the half turn is the half turn
pub half_turn_flipped : {n : ℕ} {p : List ℕ} → IsOrder n p → flip p ≡ half_turn n → p ≡ half_turn n
half_turn_flipped {n} order is = sym (flip-flip order) ∙ (ap flip is ∙ flip_half_turn n)

-- ---- Descents ----

-- a left descent after half a turn comes of the turned one
pub left_descent-flip
    : {n : ℕ} {a : List ℕ} (i : ℕ)
    → IsOrder n a
    → 1 ≤ i
    → i < n
    → IsLeftDescent (flip a) i
    → IsLeftDescent a (n - i)
left_descent-flip {n} {a} i order low high left =
    let at : (e : ℕ) → 1 ≤ e → e ≤ n → place_of (flip a) e ≡ n + 1 - place_of a (n + 1 - e) =
    place_of-from n (flip a) (λ e. n + 1 - place_of a (n + 1 - e)) (Undoes-flip order) in
    let here = at i low (omega arith) in
    let next = at (i + 1) (omega arith) (omega arith) in
    let e : n + 1 - i ≡ n - i + 1 = omega arith in
    let f : n + 1 - (i + 1) ≡ n - i = omega arith in
    let one = ap (place_of a) e in
    let two = ap (place_of a) f in
    omega (arith, here, next, one, two, left)

-- and a right descent becomes the turned one
pub right_descent-flip
    : {n : ℕ} {a : List ℕ} (i : ℕ)
    → IsOrder n a
    → 1 ≤ i
    → i < n
    → IsRightDescent a (n - i)
    → IsRightDescent (flip a) i
right_descent-flip {n} {a} i order low high right =
    let here = entry-flip n i a order.size low (omega arith) in
    let next = entry-flip n (i + 1) a order.size (omega arith) (omega arith) in
    let e : n + 1 - i ≡ n - i + 1 = omega arith in
    let f : n + 1 - (i + 1) ≡ n - i = omega arith in
    let one = ap (entry a) e in
    let two = ap (entry a) f in
    let inside = order.within (n - i) (omega arith) (omega arith) in
    omega (arith, here, next, one, two, inside, right)

-- a greedy pair stays greedy
pub IsGreedy-flip
    : {n : ℕ} {p q : List ℕ}
    → IsOrder n p
    → IsOrder n q
    → IsGreedy n p q
    → IsGreedy n (flip p) (flip q)
IsGreedy-flip {n} in_p in_q greedy i low high left =
    right_descent-flip i in_p low high
    (greedy (n - i) (omega arith) (omega arith) (left_descent-flip i in_q low high left))

-- ---- Lists ----

-- flips of orders are orders
pub EachOrder-flip : (n : ℕ) (ps : List (List ℕ)) → EachOrder n ps → EachOrder n (map flip ps)
EachOrder-flip n [] orders = tt
EachOrder-flip n (p ∷ ps) orders = (IsOrder-flip orders.0, EachOrder-flip n ps orders.1)

-- a greedy list stays greedy
pub AreGreedy-flip
    : (n : ℕ) (ps : List (List ℕ))
    → EachOrder n ps
    → AreGreedy n ps
    → AreGreedy n (map flip ps)
AreGreedy-flip n [] orders greedy = tt
AreGreedy-flip n (p ∷ []) orders greedy = tt
AreGreedy-flip n (p ∷ q ∷ ps) orders greedy =
    (IsGreedy-flip orders.0 orders.1.0 greedy.0, AreGreedy-flip n (q ∷ ps) orders.1 greedy.1)

-- its last is no identity where it was none
pub EndsCrossed-flip
    : (n : ℕ) (ps : List (List ℕ))
    → EachOrder n ps
    → EndsCrossed n ps
    → EndsCrossed n (map flip ps)
EndsCrossed-flip n [] orders ends = tt
EndsCrossed-flip n (p ∷ []) orders ends = λ is. ends (identity_flipped orders.0 is)
EndsCrossed-flip n (p ∷ q ∷ ps) orders ends = EndsCrossed-flip n (q ∷ ps) orders.1 ends

-- its first is no half turn where it was none
pub BeginsShort-flip
    : (n : ℕ) (ps : List (List ℕ))
    → EachOrder n ps
    → BeginsShort n ps
    → BeginsShort n (map flip ps)
BeginsShort-flip n [] orders begins = tt
BeginsShort-flip n (p ∷ ps) orders begins = λ is. begins (half_turn_flipped orders.0 is)

-- a list that is ready stays so
pub IsReady-turned
    : (n : ℕ) (odd : Bool) (ps : List (List ℕ))
    → IsReady n ps
    → IsReady n (turned_factors odd ps)
IsReady-turned n false ps ready = ready
IsReady-turned n true ps ready = record {
  orders = EachOrder-flip n ps ready.orders;
  greedy = AreGreedy-flip n ps ready.orders ready.greedy;
  begins = BeginsShort-flip n ps ready.orders ready.begins;
  ends = EndsCrossed-flip n ps ready.orders ready.ends;
}

-- ---- What flips spell ----

-- what a list spells, with each index turned, is what the flips spell
pub product_flip
    : {n : ℕ} {ps : List (List ℕ)} {u v : List Letter}
    → EachOrder n ps
    → IsProduct n ps u
    → IsProduct n (map flip ps) v
    → EquivalentOn n (map (mirrored n) u) v
product_flip orders empty empty = stay tt
product_flip {n} orders (factor {u = a} {w = b} one first) (factor two second) =
    rw (map-append (mirrored n) a b)
    (EquivalentOn-append (EquivalentOn-flip orders.0 one two) (product_flip orders.1 first second))

-- a list behind a half turn is its flips before it
pub product_behind
    : {n : ℕ} {ps : List (List ℕ)} {u v : List Letter}
    → EachOrder n ps
    → IsProduct n ps u
    → IsProduct n (map flip ps) v
    → EquivalentOn n (delta_word n ++ u) (v ++ delta_word n)
product_behind {n} {ps} {u} orders one two =
    EquivalentOn-trans (EquivalentOn-delta_pass n u (IsOn-product one))
    (EquivalentOn-before (delta_word n) (IsOn-delta n) (product_flip orders one two))

-- so a half turn goes past a list that is flipped before it
pub KeepsFactors-half_turn
    : (n : ℕ) (ps : List (List ℕ))
    → EachOrder n ps
    → KeepsFactors n (half_turn n ∷ ps) (map flip ps ++ half_turn n ∷ [])
KeepsFactors-half_turn n ps orders u v one two =
    let split = product_split n (map flip ps) (half_turn n ∷ []) v two in
    let (w, is) = product_exists n ps orders in
    let last : EquivalentOn n split.v (delta_word n) =
    rw (append-nil (delta_word n)) at (product_half_turn n [] split.second empty) in
    rw split.is
    (EquivalentOn-trans (product_half_turn n ps one is)
    (EquivalentOn-trans (product_behind orders is split.first)
    (EquivalentOn-after split.u (IsOn-product split.first) (EquivalentOn-sym last))))
