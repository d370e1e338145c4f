-- The orders of a normal form.
--
-- The sequence of a word that a normal form spells is the orders after its half turns and its factors
-- (`levels-natural`): they are settled, so nothing moves.
use Rattle.std.proofs.Common.{ℕ, zero, suc, ◌≡◌, ◌+◌, ◌∙◌, List, [], ◌∷◌, ◌++◌, append_assoc, reverse, refl, sym, arith}
use Rattle.std.proofs.lemmas.List.{reverse-reverse}
use Rattle.braid_word.specs.Words.{Letter, IsOn}
use Rattle.braid_word.proofs.WordLemmas.{on_append}
use Rattle.braid_word.proofs.WeightLemmas.{negatives, negatives-append}
use Rattle.perm_braid.specs.Arrangements.{entry, IsOrder, IsLeftDescent}
use Rattle.perm_braid.specs.SimpleWords.{delta_word, IsWordOf, nothing, least}
use Rattle.perm_braid.specs.GreedyPairs.{IsGreedy}
use Rattle.perm_braid.proofs.PlaceLemmas.{IsOrder-identity}
use Rattle.perm_braid.proofs.SimpleWordLemmas.{IsOn-word}
use Rattle.garside_form.specs.NormalForms.{IsFactor, IsNormal, times, IsProduct, empty, factor}
use Rattle.garside_form.specs.FactorLists.{EachOrder, AreGreedy}
use Rattle.garside_form.proofs.LeadingLemmas.{IsBefore, neighbours_before}
use Rattle.garside_form.proofs.SettleLemmas.{IsSettled, IsSettled-from}
use Rattle.garside_form.proofs.LevelLemmas.{IsOrder-reverse, Levels, IsSame, in_front, push, IsSettledFrom, IsSame-push, IsSame-in_front, IsSame-trans, push-settled, push-half_turn}
use Rattle.garside_form.proofs.WordLevelLemmas.{levels, IsSettledFrom-levels, levels-more, IsWay, arrive, cross, IsOn-way, levels-way}
use Rattle.garside_form.proofs.ComposedLemmas.{composed, entry-composed, IsOrder-composed, place_of-composed, IsWay-word, IsWay-delta}

-- ---- The orders of a normal form ----

-- The orders after the factors, from the order x.
abbrev pub path : List ℕ → List (List ℕ) → Levels
path x [] = λ k. x
path x (p ∷ ps) = in_front (composed x p) (path (composed x p) ps)

-- The orders after so many half turns and the factors.
abbrev pub turned_path : ℕ → List ℕ → List (List ℕ) → Levels
turned_path zero x ps = path x ps
turned_path (suc a) x ps = in_front (reverse x) (turned_path a (reverse x) ps)

-- an order that is last or first after itself is settled
still_settled : {n : ℕ} {y : List ℕ} (x : List ℕ) → IsOrder n y → IsSettled x y y
still_settled {n} {y} x order =
    IsSettled-from x y order (λ i low high before after. let now =
    neighbours_before order i low high in absurd (omega (arith, now, after)))

-- a greedy pair is settled
pub greedy_settled
    : {n : ℕ} {x p q : List ℕ}
    → IsOrder n x
    → IsOrder n p
    → IsOrder n q
    → IsGreedy n p q
    → IsSettled x (composed x p) (composed (composed x p) q)
greedy_settled {n} {x} {p} {q} in_x in_p in_q greedy =
    let z = composed x p in
    let in_z = IsOrder-composed in_x in_p in
    IsSettled-from x (composed z q) in_z (λ i low high before after.
    let here = entry-composed x in_p i low (omega arith) in
    let next = entry-composed x in_p (i + 1) (omega arith) (omega arith) in
    let one = in_p.within i low (omega arith) in
    let two = in_p.within (i + 1) (omega arith) (omega arith) in
    let at_here = in_x.distinct (entry p i) one.0 one.1 in
    let at_next = in_x.distinct (entry p (i + 1)) two.0 two.1 in
    let rising : IsBefore x (entry x (entry p i)) (entry x (entry p (i + 1))) = rw (here, next) at before in
    let down_here = place_of-composed in_z in_q i low (omega arith) in
    let down_next = place_of-composed in_z in_q (i + 1) (omega arith) (omega arith) in
    let left : IsLeftDescent q i = omega (arith, down_here, down_next, after) in
    let right = greedy i low high left in
    absurd (omega (arith, at_here, at_next, rising, right)))

-- the rest of a greedy list is greedy
pub greedy_rest : (n : ℕ) (p : List ℕ) (ps : List (List ℕ)) → AreGreedy n (p ∷ ps) → AreGreedy n ps
greedy_rest n p [] greedy = tt
greedy_rest n p (q ∷ ps) greedy = greedy.1

-- the orders after the simple braids of a greedy list are settled
path_settled
    : {n : ℕ} (ps : List (List ℕ)) {x : List ℕ}
    → EachOrder n ps
    → AreGreedy n ps
    → IsOrder n x
    → IsSettledFrom x (path x ps)
path_settled [] {x} orders greedy order = still
  where
    still : IsSettledFrom x (λ k. x)
    still zero = still_settled x order
    still (suc k) = still_settled x order
path_settled {n} (p ∷ []) {x} orders greedy order = last
  where
    last : IsSettledFrom x (in_front (composed x p) (λ k. composed x p))
    last zero = still_settled x (IsOrder-composed order orders.0)
    last (suc zero) = still_settled (composed x p) (IsOrder-composed order orders.0)
    last (suc (suc k)) = still_settled (composed x p) (IsOrder-composed order orders.0)
path_settled {n} (p ∷ q ∷ ps) {x} orders greedy order =
    go (path_settled (q ∷ ps) orders.1 greedy.1 (IsOrder-composed order orders.0))
  where
    go : IsSettledFrom (composed x p) (path (composed x p) (q ∷ ps))
        → IsSettledFrom x (path x (p ∷ q ∷ ps))
    go rest zero = greedy_settled order orders.0 orders.1.0 greedy.0
    go rest (suc zero) = rest zero
    go rest (suc (suc k)) = rest (suc k)

-- the first factor and the rest of a normal form
pub normal_first : (n : ℕ) (p : List ℕ) (ps : List (List ℕ)) → IsNormal n (p ∷ ps) → IsFactor n p
normal_first n p [] normal = normal
normal_first n p (q ∷ ps) normal = normal.0

pub normal_rest : (n : ℕ) (p : List ℕ) (ps : List (List ℕ)) → IsNormal n (p ∷ ps) → IsNormal n ps
normal_rest n p [] normal = tt
normal_rest n p (q ∷ ps) normal = normal.2

-- ---- The sequence of what a normal form spells ----

-- the words of factors are on n strands
pub IsOn-product : {n : ℕ} {ps : List (List ℕ)} {w : List Letter} → IsProduct n ps w → IsOn n w
IsOn-product empty = tt
IsOn-product {n} (factor {u = u} {w = w} word rest) = on_append n u w (IsOn-word word) (IsOn-product rest)

-- the factors of a normal form are orders
pub normal_orders : (n : ℕ) (ps : List (List ℕ)) → IsNormal n ps → EachOrder n ps
normal_orders n [] normal = tt
normal_orders n (p ∷ []) normal = (normal.order, tt)
normal_orders n (p ∷ q ∷ ps) normal = (normal.0.order, normal_orders n (q ∷ ps) normal.2)

-- and a greedy list
pub normal_greedy : (n : ℕ) (ps : List (List ℕ)) → IsNormal n ps → AreGreedy n ps
normal_greedy n [] normal = tt
normal_greedy n (p ∷ []) normal = tt
normal_greedy n (p ∷ q ∷ ps) normal = (normal.1, normal_greedy n (q ∷ ps) normal.2)

-- the word of a greedy list gives its orders
pub levels-greedy
    : {n : ℕ} {ps : List (List ℕ)} {w : List Letter} {x : List ℕ}
    → EachOrder n ps
    → AreGreedy n ps
    → IsOrder n x
    → IsProduct n ps w
    → IsSame (levels w 0 x) (path x ps)
levels-greedy orders greedy order empty = λ k. refl
levels-greedy {n} {ps} {w} {x} orders greedy order (factor {p = p} {ps = qs} {u = u} {w = v} word rest) =
    let next = IsOrder-composed order orders.0 in
    IsSame-trans (levels-way v 0 order next (IsOn-product rest) (IsWay-word order orders.0 word))
    (IsSame-trans
    (IsSame-push x
    (IsSame-in_front (composed x p) (levels-greedy orders.1 (greedy_rest n p qs greedy) next rest)))
    (push-settled x (path x (p ∷ qs)) (path_settled (p ∷ qs) orders greedy order)))

-- the word of factors that are normal gives their orders
levels-product
    : {n : ℕ} {ps : List (List ℕ)} {w : List Letter} {x : List ℕ}
    → IsNormal n ps
    → IsOrder n x
    → IsProduct n ps w
    → IsSame (levels w 0 x) (path x ps)
levels-product {n} {ps} normal order product =
    levels-greedy (normal_orders n ps normal) (normal_greedy n ps normal) order product

-- one half turn in front
pub levels-delta
    : {n : ℕ} {x : List ℕ} (w : List Letter)
    → IsOrder n x
    → IsOn n w
    → IsSame (levels (delta_word n ++ w) 0 x) (in_front (reverse x) (levels w 0 (reverse x)))
levels-delta {n} {x} w order on =
    let back = IsOrder-reverse order in
    let taken : IsSame (push x (in_front (reverse x) (levels w 0 (reverse x))))
    (in_front (reverse x) (levels w 0 (reverse x))) =
    rw reverse-reverse at (push-half_turn (levels w 0 (reverse x)) back (IsSettledFrom-levels w 0 back on)) in
    IsSame-trans (levels-way w 0 order back on (IsWay-delta order)) taken

-- the half turn is a word on n strands
pub IsOn-delta : (n : ℕ) → IsOn n (delta_word n)
IsOn-delta n = IsOn-way (IsWay-delta (IsOrder-identity n))

-- so is each power of a word
pub IsOn-times : (n a : ℕ) (w : List Letter) → IsOn n w → IsOn n (times a w)
IsOn-times n zero w on = tt
IsOn-times n (suc a) w on = on_append n w (times a w) on (IsOn-times n a w on)

-- half turns and the words of factors give the orders after both
pub levels-natural
    : {n : ℕ} (a : ℕ) {ps : List (List ℕ)} {w : List Letter} {x : List ℕ}
    → IsNormal n ps
    → IsOrder n x
    → IsProduct n ps w
    → IsSame (levels (times a (delta_word n) ++ w) 0 x) (turned_path a x ps)
levels-natural zero normal order product = levels-product normal order product
levels-natural {n} (suc a) {ps} {w} {x} normal order product =
    let on = on_append n (times a (delta_word n)) w (IsOn-times n a (delta_word n) (IsOn-delta n))
    (IsOn-product product) in
    rw (append_assoc (delta_word n) (times a (delta_word n)) w)
    (IsSame-trans (levels-delta (times a (delta_word n) ++ w) order on)
    (IsSame-in_front (reverse x) (levels-natural a normal (IsOrder-reverse order) product)))

-- ---- Positive words ----

-- a way has no negative letter
negatives-way : {n : ℕ} {z x : List ℕ} {u : List Letter} → IsWay n z x u → negatives u ≡ 0
negatives-way (arrive is) = refl
negatives-way (cross i low high turns rest) = let none = negatives-way rest in omega (arith, none)

-- neither has the word of a simple braid, nor a product of them
negatives-word : {n : ℕ} {p : List ℕ} {u : List Letter} → IsWordOf n p u → negatives u ≡ 0
negatives-word (nothing is) = refl
negatives-word (least i low high down first rest) = let none = negatives-word rest in omega (arith, none)

pub negatives-product : {n : ℕ} {ps : List (List ℕ)} {w : List Letter} → IsProduct n ps w → negatives w ≡ 0
negatives-product empty = refl
negatives-product (factor {u = u} {w = w} word rest) =
    let one = negatives-word word in
    let two = negatives-product rest in
    omega (arith, negatives-append u w, one, two)

-- nor a power of the half turn before it
pub negatives-natural
    : (n a : ℕ) (w : List Letter)
    → negatives w ≡ 0
    → negatives (times a (delta_word n) ++ w) ≡ 0
negatives-natural n zero w none = none
negatives-natural n (suc a) w none =
    let rest = negatives-natural n a w none in
    let first = negatives-way (IsWay-delta (IsOrder-identity n)) in
    rw (append_assoc (delta_word n) (times a (delta_word n)) w)
    (omega (arith, negatives-append (delta_word n) (times a (delta_word n) ++ w), first, rest))

-- words with no negative letter that give one sequence with half turns in front give one without
pub same_below
    : {n : ℕ} (u v : List Letter) {x : List ℕ} (d : ℕ)
    → negatives u ≡ 0
    → negatives v ≡ 0
    → IsOn n u
    → IsOn n v
    → IsOrder n x
    → IsSame (levels u d x) (levels v d x)
    → IsSame (levels u 0 x) (levels v 0 x)
same_below u v zero none_u none_v on_u on_v order same = same
same_below {n} u v {x} (suc d) none_u none_v on_u on_v order same =
    same_below u v d none_u none_v on_u on_v order
    (λ k.
    sym (levels-more u on_u d x (omega (arith, none_u)) order (suc k))
    ∙ (same (suc k) ∙ levels-more v on_v d x (omega (arith, none_v)) order (suc k)))
