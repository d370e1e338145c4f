-- Orders after a simple braid, and words that lead there.
--
-- The strands that stand in the order x stand in the order `composed x p` after the simple braid of the
-- arrangement p. The word of p is a way there (`IsWay-word`), and the word of the half turn is one to the
-- order backwards (`IsWay-delta`).
use Rattle.std.proofs.Common.{ℕ, zero, suc, ◌≡◌, ◌+◌, ◌-◌, ◌<◌, ◌≤◌, ◌∙◌, List, [], ◌∷◌, ◌++◌, length, append_assoc, append-nil, map, reverse, refl, sym, ap, arith}
use Rattle.std.specs.List.{range_with_len}
use Rattle.std.proofs.lemmas.List.{length-map, length-append, reverse-append}
use Rattle.braid_word.specs.Words.{Letter}
use Rattle.perm_braid.specs.Arrangements.{entry, place_of, swapped, neighbour, values_swapped, identity, half_turn, IsOrder}
use Rattle.perm_braid.specs.SimpleWords.{generator, rising_word, delta_word, IsWordOf, nothing, least}
use Rattle.perm_braid.proofs.PlaceLemmas.{same_entries, entry-map, entry-reverse, place_low, Undoes, place_of-from, IsOrder-from, IsOrder-entry, entry-identity, IsOrder-identity, length-half_turn, entry-half_turn}
use Rattle.perm_braid.proofs.SwapLemmas.{neighbour-neighbour, entry-swapped, entry-values_swapped, IsOrder-swapped, IsOrder-values_swapped}
use Rattle.perm_braid.proofs.SortingLemmas.{entries_differ}
use Rattle.garside_form.proofs.LeadingLemmas.{IsBefore}
use Rattle.garside_form.proofs.LevelLemmas.{before-reverse}
use Rattle.garside_form.proofs.WordLevelLemmas.{IsWay, arrive, cross}

-- ---- Orders after a simple braid ----

-- The order of the strands of x after the simple braid of the arrangement p.
abbrev pub composed : List ℕ → List ℕ → List ℕ
composed x p = map (entry x) p

-- its entries
pub entry-composed
    : {n : ℕ} {p : List ℕ} (x : List ℕ)
    → IsOrder n p
    → (i : ℕ)
    → 1 ≤ i
    → i ≤ n
    → entry (composed x p) i ≡ entry x (entry p i)
entry-composed {n} {p} x order i low high = entry-map (entry x) p i low (omega (arith, order.size, high))

-- places undo them
Undoes-composed : {n : ℕ} {x p : List ℕ} → IsOrder n x → IsOrder n p
    → Undoes n (composed x p) (λ e. place_of p (place_of x e))
Undoes-composed {n} {x} {p} in_x in_p = record {
  size = length-map p (entry x) ∙ in_p.size;
  within = λ i low high.
      let inside = in_p.within i low high in
      rw (entry-composed x in_p i low high) (in_x.within (entry p i) inside.0 inside.1);
  back = λ i low high.
      let inside = in_p.within i low high in
      rw (entry-composed x in_p i low high, in_x.distinct (entry p i) inside.0 inside.1)
      (in_p.distinct i low high);
  forth = λ e low high.
      let least = place_low x e in
      let most = in_x.has e low high in
      let low_p = place_low p (place_of x e) in
      let high_p = in_p.has (place_of x e) least most in (
        low_p,
        high_p,
        entry-composed x in_p (place_of p (place_of x e)) low_p high_p
            ∙ rw (IsOrder-entry in_p (place_of x e) least most) (IsOrder-entry in_x e low high),
      );
}

-- it is an order
pub IsOrder-composed : {n : ℕ} {x p : List ℕ} → IsOrder n x → IsOrder n p → IsOrder n (composed x p)
IsOrder-composed {n} {x} {p} in_x in_p =
    IsOrder-from n (composed x p) (λ e. place_of p (place_of x e)) (Undoes-composed in_x in_p)

-- its places
pub place_of-composed
    : {n : ℕ} {x p : List ℕ}
    → IsOrder n x
    → IsOrder n p
    → (i : ℕ)
    → 1 ≤ i
    → i ≤ n
    → place_of (composed x p) (entry x i) ≡ place_of p i
place_of-composed {n} {x} {p} in_x in_p i low high =
    let inside = in_x.within i low high in
    place_of-from n (composed x p) (λ e. place_of p (place_of x e)) (Undoes-composed in_x in_p) (entry x i)
    inside.0 inside.1
    ∙ ap (place_of p) (in_x.distinct i low high)

-- the identity changes nothing
pub composed-identity : {n : ℕ} {x : List ℕ} → IsOrder n x → composed x (identity n) ≡ x
composed-identity {n} {x} order =
    let whole = IsOrder-composed order (IsOrder-identity n) in
    same_entries (composed x (identity n)) x (whole.size ∙ sym order.size)
    (λ i low high.
    let fits : i ≤ n = omega (arith, whole.size, high) in
    entry-composed x (IsOrder-identity n) i low fits ∙ ap (entry x) (entry-identity n i low fits))

-- simple braids that lead to one order are one
pub composed-injective
    : {n : ℕ} {x p q : List ℕ}
    → IsOrder n x
    → IsOrder n p
    → IsOrder n q
    → composed x p ≡ composed x q
    → p ≡ q
composed-injective {n} {x} {p} {q} in_x in_p in_q same =
    same_entries p q (in_p.size ∙ sym in_q.size)
    (λ i low high.
    let fits : i ≤ n = omega (arith, in_p.size, high) in
    let one = in_p.within i low fits in
    let two = in_q.within i low fits in
    let at : entry x (entry p i) ≡ entry x (entry q i) =
    sym (entry-composed x in_p i low fits) ∙ (ap (λ a. entry a i) same ∙ entry-composed x in_q i low fits) in
    sym (in_x.distinct (entry p i) one.0 one.1)
    ∙ (ap (place_of x) at ∙ in_x.distinct (entry q i) two.0 two.1))

-- what leads to the order backwards is the half turn
pub half_turn-from
    : {n : ℕ} {x p : List ℕ}
    → IsOrder n x
    → IsOrder n p
    → composed x p ≡ reverse x
    → p ≡ half_turn n
half_turn-from {n} {x} {p} in_x in_p same =
    same_entries p (half_turn n) (in_p.size ∙ sym (length-half_turn n))
    (λ i low high.
    let fits : i ≤ n = omega (arith, in_p.size, high) in
    let one = in_p.within i low fits in
    let size = in_x.size in
    let back : entry (reverse x) i ≡ entry x (length x + 1 - i) =
    entry-reverse x i low (omega (arith, size, fits)) in
    let mirror : length x + 1 - i ≡ n + 1 - i = omega (arith, size) in
    let at : entry x (entry p i) ≡ entry x (n + 1 - i) =
    sym (entry-composed x in_p i low fits) ∙ (ap (λ a. entry a i) same ∙ (rw mirror at back)) in
    sym (in_x.distinct (entry p i) one.0 one.1)
    ∙ (ap (place_of x) at ∙ (in_x.distinct (n + 1 - i) (omega arith) (omega arith)
    ∙ sym (entry-half_turn n i low fits))))

-- an order of two or more isn't the order backwards
pub reverse_differs : {n : ℕ} {x : List ℕ} → IsOrder n x → 2 ≤ n → reverse x ≡ x → ⊥
reverse_differs {n} {x} order two same =
    let size = order.size in
    let back : entry (reverse x) 1 ≡ entry x (length x + 1 - 1) =
    entry-reverse x 1 (omega arith) (omega (arith, size)) in
    let mirror : length x + 1 - 1 ≡ n = omega (arith, size) in
    let at : entry x 1 ≡ entry x n = sym (ap (λ a. entry a 1) same) ∙ (rw mirror at back) in
    absurd (entries_differ order 1 n (omega arith) (omega arith) (omega arith) at)

-- ---- The word of a simple braid is a way ----

-- the first letter goes over to the order
pub composed-swapped
    : {n : ℕ} {x p : List ℕ}
    → IsOrder n x
    → IsOrder n p
    → (i : ℕ)
    → 1 ≤ i
    → i < n
    → composed (swapped i x) (values_swapped i p) ≡ composed x p
composed-swapped {n} {x} {p} in_x in_p i low high =
    let turned = IsOrder-values_swapped in_p i low high in
    let one = IsOrder-composed (IsOrder-swapped in_x i low high) turned in
    let two = IsOrder-composed in_x in_p in
    same_entries (composed (swapped i x) (values_swapped i p)) (composed x p) (one.size ∙ sym two.size)
    (λ k least most.
    let fits : k ≤ n = omega (arith, one.size, most) in
    entry-composed (swapped i x) turned k least fits
    ∙ (ap (entry (swapped i x)) (entry-values_swapped i k p least (omega (arith, in_p.size, fits)))
    ∙ (entry-swapped i (neighbour i (entry p k)) x low (omega (arith, in_x.size, high))
    ∙ (ap (entry x) (neighbour-neighbour i (entry p k)) ∙ sym (entry-composed x in_p k least fits)))))

-- the word of p is a way to the order after p
pub IsWay-word
    : {n : ℕ} {p x : List ℕ} {u : List Letter}
    → IsOrder n x
    → IsOrder n p
    → IsWordOf n p u
    → IsWay n (composed x p) x u
IsWay-word {n} {p} {x} in_x in_p (nothing is) = arrive (sym (rw is (composed-identity in_x)))
IsWay-word {n} {p} {x} in_x in_p (least {w = w} i low high down first rest) =
    let here = place_of-composed in_x in_p i low (omega arith) in
    let next = place_of-composed in_x in_p (i + 1) (omega arith) (omega arith) in
    let on = IsWay-word (IsOrder-swapped in_x i low high) (IsOrder-values_swapped in_p i low high) rest in
    cross i low high (omega (arith, here, next, down)) (rw (composed-swapped in_x in_p i low high) at on)

-- ---- The word of the half turn is a way ----

-- The strand e stands behind each of these in z.
abbrev pub IsBehind : List ℕ → ℕ → List ℕ → Type 0
IsBehind z e [] = Unit {0}
IsBehind z e (f ∷ front) = IsBefore z f e × IsBehind z e front

-- Each of these stands in z behind all that follow it.
abbrev pub AreTurned : List ℕ → List ℕ → Type 0
AreTurned z [] = Unit {0}
AreTurned z (e ∷ front) = IsBehind z e front × AreTurned z front

-- one exchange behind a front
swapped-front
    : (front : List ℕ) (i e f : ℕ) (rest : List ℕ)
    → i ≡ length front + 1
    → swapped i (front ++ e ∷ f ∷ rest) ≡ front ++ f ∷ e ∷ rest
swapped-front [] i e f rest at = let one : i ≡ 1 = omega arith in rw one refl
swapped-front (g ∷ front) zero e f rest at = absurd (omega arith)
swapped-front (g ∷ front) (suc zero) e f rest at = absurd (omega arith)
swapped-front (g ∷ front) (suc (suc i)) e f rest at =
    ap (λ a. g ∷ a) (swapped-front front (suc i) e f rest (omega arith))

-- the entries behind a front
entry-front
    : (front : List ℕ) (i e : ℕ) (rest : List ℕ)
    → i ≡ length front + 1
    → entry (front ++ e ∷ rest) i ≡ e
entry-front [] i e rest at = let one : i ≡ 1 = omega arith in rw one refl
entry-front (g ∷ front) zero e rest at = absurd (omega arith)
entry-front (g ∷ front) (suc zero) e rest at = absurd (omega arith)
entry-front (g ∷ front) (suc (suc i)) e rest at = entry-front front (suc i) e rest (omega arith)

-- a strand passes those that follow it
way_run
    : {n : ℕ} {z : List ℕ} {u : List Letter} (front : List ℕ) (e : ℕ) (passed rest : List ℕ) (k : ℕ)
    → k ≡ length front
    → length front + (length passed + 1) ≤ n
    → IsBehind z e passed
    → IsWay n z (front ++ (passed ++ e ∷ rest)) u
    → IsWay n z (front ++ (e ∷ (passed ++ rest)))
    (map generator (range_with_len (k + 1) (length passed)) ++ u)
way_run front e [] rest k at fits behind way = way
way_run {n} {z} {u} front e (f ∷ passed) rest k at fits behind way =
    cross (k + 1) (omega arith) (omega arith)
    (rw (entry-front front (k + 1) e (f ∷ (passed ++ rest)) (omega arith), second) behind.0)
    (rw (swapped-front front (k + 1) e f (passed ++ rest) (omega arith), ← moved (e ∷ (passed ++ rest)))
    (way_run (front ++ f ∷ []) e passed rest (k + 1) (omega (arith, longer)) (omega (arith, longer)) behind.1
    (rw (moved (passed ++ e ∷ rest)) way)))
  where
    longer : length (front ++ f ∷ []) ≡ length front + 1
    longer = length-append front (f ∷ [])

    moved : (r : List ℕ) → (front ++ f ∷ []) ++ r ≡ front ++ f ∷ r
    moved r = append_assoc front (f ∷ []) r

    second : entry (front ++ e ∷ f ∷ (passed ++ rest)) (k + 1 + 1) ≡ f
    second =
        let e_moved : (front ++ e ∷ []) ++ f ∷ (passed ++ rest) ≡ front ++ e ∷ f ∷ (passed ++ rest) =
        append_assoc front (e ∷ []) (f ∷ (passed ++ rest)) in
        let more = length-append front (e ∷ []) in
        rw e_moved at (entry-front (front ++ e ∷ []) (k + 1 + 1) f (passed ++ rest) (omega (arith, more, at)))

-- the half turn of a front reverses it
way_delta
    : {n : ℕ} {z : List ℕ} {u : List Letter} (front rest : List ℕ)
    → length front ≤ n
    → AreTurned z front
    → IsWay n z (reverse front ++ rest) u
    → IsWay n z (front ++ rest) (delta_word (length front) ++ u)
way_delta [] rest fits turned way = way
way_delta {n} {z} {u} (e ∷ front) rest fits turned way =
    rw (append_assoc (rising_word (length front)) (delta_word (length front)) u)
    (way_run [] e front rest 0 refl (omega arith) turned.0
    (way_delta front (e ∷ rest) (omega arith) turned.1
    (rw (reverse-append (e ∷ []) front, append_assoc (reverse front) (e ∷ []) rest) at way)))

-- strands whose pairs of places are turned in z
turned_from
    : (z front : List ℕ)
    → ((i j : ℕ) → 1 ≤ i → i < j → j ≤ length front → IsBefore z (entry front j) (entry front i))
    → AreTurned z front
turned_from z [] all = tt
turned_from z (e ∷ front) all = (
  behind front (λ j low high. first j low high),
  turned_from z front
      (λ i j low less high. rest i j low less high),
)
  where
    behind
        : (front : List ℕ)
        → ((j : ℕ) → 1 ≤ j → j ≤ length front → IsBefore z (entry front j) e)
        → IsBehind z e front
    behind [] each = tt
    behind (f ∷ front) each =
        (each 1 (omega arith) (omega arith), behind front (λ j low high. later j low high each))
      where
        later : (j : ℕ) → 1 ≤ j → j ≤ length front
            → ((j : ℕ) → 1 ≤ j → j ≤ length (f ∷ front) → IsBefore z (entry (f ∷ front) j) e)
            → IsBefore z (entry front j) e
        later zero low high each = absurd (omega arith)
        later (suc j) low high each = each (suc (suc j)) (omega arith) (omega arith)

    first : (j : ℕ) → 1 ≤ j → j ≤ length front → IsBefore z (entry front j) e
    first zero low high = absurd (omega arith)
    first (suc j) low high = all 1 (suc (suc j)) (omega arith) (omega arith) (omega arith)

    rest : (i j : ℕ) → 1 ≤ i → i < j → j ≤ length front → IsBefore z (entry front j) (entry front i)
    rest zero j low less high = absurd (omega arith)
    rest (suc i) zero low less high = absurd (omega arith)
    rest (suc i) (suc j) low less high =
        all (suc (suc i)) (suc (suc j)) (omega arith) (omega arith) (omega arith)

-- the word of the half turn is a way to the order backwards
pub IsWay-delta : {n : ℕ} {x : List ℕ} → IsOrder n x → IsWay n (reverse x) x (delta_word n)
IsWay-delta {n} {x} order =
    let turned : AreTurned (reverse x) x = turned_from (reverse x) x
    (λ i j low less high.
    let size = order.size in
    let one = order.within i low (omega (arith, size)) in
    let two = order.within j (omega arith) (omega (arith, size)) in
    let at_i = order.distinct i low (omega (arith, size)) in
    let at_j = order.distinct j (omega arith) (omega (arith, size)) in
    before-reverse order (entry x i) (entry x j) one two (omega (arith, at_i, at_j))) in
    let whole : IsWay n (reverse x) (x ++ []) (delta_word (length x) ++ []) =
    way_delta x [] (omega (arith, order.size)) turned (arrive (append-nil (reverse x))) in
    rw (append-nil x, append-nil (delta_word (length x)), order.size) at whole
