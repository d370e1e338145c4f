-- The half turn of n strands among other letters, up to equivalence on n strands.
--
-- Any two ways between the same orders are equivalent (`EquivalentOn-ways`). The half turn passes a
-- letter and turns its index i into n - i (`EquivalentOn-delta_pass`): it can begin with the one letter and
-- end with the other. So a simple braid behind a half turn is its flip before it, and an inverse letter
-- is a simple braid and an inverse half turn.
use Rattle.std.proofs.Common.{ℕ, ◌≡◌, inl, inr, ◌+◌, ◌-◌, ◌<◌, ◌≤◌, ◌∙◌, Bool, true, false, List, [], ◌∷◌, ◌++◌, length, append_assoc, append-nil, map, reverse, refl, sym, ap, subst, arith}
use Rattle.std.specs.Prelude.{nat_lt}
use Rattle.std.proofs.lemmas.Bool.{lt-ltb, ltb-true}
use Rattle.braid_word.specs.Words.{Letter, letter, inverse, IsOn}
use Rattle.braid_word.specs.Equivalence.{EquivalentOn, stay}
use Rattle.braid_word.proofs.EquivalenceLemmas.{EquivalentOn-sym, EquivalentOn-trans, EquivalentOn-before, EquivalentOn-after, EquivalentOn-solve_left, EquivalentOn-solve_right}
use Rattle.perm_braid.specs.Arrangements.{entry, place_of, swapped, values_swapped, neighbour, flip, identity, half_turn, IsOrder, IsRightDescent, IsLeftDescent}
use Rattle.perm_braid.specs.SimpleWords.{generator, delta_word, IsWordOf}
use Rattle.perm_braid.proofs.PlaceLemmas.{same_entries, entry-map, entry-reverse, IsOrder-identity, IsOrder-half_turn, place_of-half_turn, entry-identity, length-identity}
use Rattle.perm_braid.proofs.SwapLemmas.{neighbour_case, length-swapped, entry-swapped, entry-flip, IsOrder-swapped, IsOrder-flip}
use Rattle.perm_braid.proofs.SortingWordLemmas.{IsSorting, sorted, step, IsSorting-equivalent}
use Rattle.perm_braid.proofs.SimpleWordLemmas.{swapped-map, word_exists, IsWordOf-front}
use Rattle.garside_form.proofs.SortLemmas.{Leads, done, turn}
use Rattle.garside_form.proofs.LeadingLemmas.{IsBefore, IsStrand, neighbours_before, before-swapped, relative, IsOrder-relative, leads_to}
use Rattle.garside_form.proofs.LevelLemmas.{IsOrder-reverse, before-reverse}
use Rattle.garside_form.proofs.EquivalentLevelLemmas.{turns_own}
use Rattle.garside_form.proofs.WordLevelLemmas.{IsWay, arrive, cross, IsOn-way}
use Rattle.garside_form.proofs.ComposedLemmas.{composed, entry-composed, IsOrder-composed, IsWay-word, IsWay-delta}

-- ---- Ways are equivalent ----

-- the places of an order in itself
relative-self : {n : ℕ} {z : List ℕ} → IsOrder n z → relative z z ≡ identity n
relative-self {n} {z} order =
    let whole = IsOrder-relative order order in
    same_entries (relative z z) (identity n) (whole.size ∙ sym (length-identity n))
    (λ i low high.
    let fits : i ≤ n = omega (arith, whole.size, high) in
    entry-map (place_of z) z i low (omega (arith, order.size, fits))
    ∙ (order.distinct i low fits ∙ sym (entry-identity n i low fits)))

-- a way sorts the places in the order that it leads to
IsSorting-way
    : {n : ℕ} {z x : List ℕ} {u : List Letter}
    → IsOrder n z
    → IsOrder n x
    → IsWay n z x u
    → IsSorting n (relative z x) u
IsSorting-way {n} {z} {x} in_z in_x (arrive is) = sorted (rw is (relative-self in_z))
IsSorting-way {n} {z} {x} in_z in_x (cross i low high turns rest) =
    step i low high down
    (rw (swapped-map (place_of z) i x) (IsSorting-way in_z (IsOrder-swapped in_x i low high) rest))
  where
    down : IsRightDescent (relative z x) i
    down =
        let here = entry-map (place_of z) x i low (omega (arith, in_x.size, high)) in
        let next = entry-map (place_of z) x (i + 1) (omega arith) (omega (arith, in_x.size, high)) in
        omega (arith, here, next, turns)

-- ways between the same orders are equivalent
pub EquivalentOn-ways
    : {n : ℕ} {z x : List ℕ} {u v : List Letter}
    → IsOrder n z
    → IsOrder n x
    → IsWay n z x u
    → IsWay n z x v
    → EquivalentOn n u v
EquivalentOn-ways in_z in_x one two =
    IsSorting-equivalent (IsOrder-relative in_x in_z) (IsSorting-way in_z in_x one)
    (IsSorting-way in_z in_x two)

-- exchanges of pairs that stand otherwise in z are a way there
way_leads
    : {n : ℕ} (z : List ℕ) {x o : List ℕ}
    → o ≡ z
    → IsOrder n x
    → Leads (λ e f. nat_lt (place_of z f) (place_of z e)) x o
    → (w : List Letter) × IsWay n z x w
way_leads z is order done = ([], arrive is)
way_leads {n} z {x} {o} is order (turn i j low next high may rest) =
    let fits : i < n = omega (arith, order.size, next, high) in
    let (w, way) = way_leads z is (IsOrder-swapped order i low fits) rest in
    let down = ltb-true (place_of z (entry x j)) (place_of z (entry x i)) may in
    let turned : IsBefore z (entry x (i + 1)) (entry x i) = rw (← next) down in
    (generator i ∷ w, cross i low fits turned way)

-- there is a way from each order to each other
pub way_exists : {n : ℕ} {z x : List ℕ} → IsOrder n z → IsOrder n x → (w : List Letter) × IsWay n z x w
way_exists {n} {z} {x} in_z in_x =
    way_leads z refl in_x (leads_to (λ e f. nat_lt (place_of z f) (place_of z e)) in_x in_z
    (λ e f one two before after. lt-ltb (place_of z f) (place_of z e) after))

-- a way, and then a way on from where it leads, if no pair is turned twice
pub IsWay-append
    : {n : ℕ} {z x : List ℕ} {u v : List Letter} (y : List ℕ)
    → IsOrder n x
    → ((e f : ℕ) → IsStrand n e → IsStrand n f → IsBefore x e f → IsBefore z f e → IsBefore y f e)
    → IsWay n z x u
    → IsWay n y z v
    → IsWay n y x (u ++ v)
IsWay-append {n} {z} {x} {u} {v} y in_x all (arrive is) second = subst (λ o. IsWay n y o v) (sym is) second
IsWay-append {n} {z} {x} {u} {v} y in_x all (cross i low high turns rest) second =
    let one = in_x.within i low (omega arith) in
    let two = in_x.within (i + 1) (omega arith) (omega arith) in
    cross i low high (all (entry x i) (entry x (i + 1)) one two (neighbours_before in_x i low high) turns)
    (IsWay-append {z = z} {u = _} {v = v} y (IsOrder-swapped in_x i low high)
    (λ e f is_e is_f before after.
    elim (before-swapped in_x i f e low high is_f is_e before) [
      | inl same ↦ all e f is_e is_f same after
      | inr pair ↦ let twisted : IsBefore z e f =
          rw (pair.0, pair.1) turns in absurd (omega (arith, twisted, after))
    ]) rest second)

-- ---- The half turn passes a letter ----

-- backwards, a place i counts as n - i
swapped-reverse
    : {n : ℕ} {x : List ℕ}
    → IsOrder n x
    → (i j : ℕ)
    → 1 ≤ i
    → i < n
    → j ≡ n - i
    → swapped i (reverse x) ≡ reverse (swapped j x)
swapped-reverse {n} {x} order i j low high mirror =
    let size = order.size in
    let back = IsOrder-reverse order in
    let one = IsOrder-swapped back i low high in
    let two = IsOrder-reverse (IsOrder-swapped order j (omega arith) (omega arith)) in
    same_entries (swapped i (reverse x)) (reverse (swapped j x)) (one.size ∙ sym two.size)
    (λ k least most.
    let fits : k ≤ n = omega (arith, one.size, most) in
    let case_k = neighbour_case i k in
    let case_m = neighbour_case j (n + 1 - k) in
    let first = entry-swapped i k (reverse x) low (omega (arith, back.size, high)) in
    let there = entry-reverse x (neighbour i k) (omega (arith, case_k))
    (omega (arith, size, case_k, fits, high)) in
    let last = entry-reverse (swapped j x) k least (omega (arith, length-swapped j x, size, fits)) in
    let second = entry-swapped j (n + 1 - k) x (omega arith) (omega (arith, size)) in
    let len : length (swapped j x) + 1 - k ≡ n + 1 - k = omega (arith, length-swapped j x, size) in
    let same : length x + 1 - neighbour i k ≡ neighbour j (n + 1 - k) =
    omega (arith, case_k, case_m, size, fits, mirror, high, low, least) in
    first ∙ (there ∙ (ap (entry x) same ∙ (sym second ∙ (ap (entry (swapped j x)) (sym len) ∙ sym last)))))

-- the half turn passes a letter and turns its index
pub EquivalentOn-delta_generator
    : (n i : ℕ)
    → 1 ≤ i
    → i < n
    → EquivalentOn n (delta_word n ++ generator i ∷ []) (generator (n - i) ∷ delta_word n)
EquivalentOn-delta_generator n i low high =
    let x = identity n in
    let j = n - i in
    let in_x = IsOrder-identity n in
    let in_z = IsOrder-reverse in_x in
    let in_y = IsOrder-swapped in_x j (omega arith) (omega arith) in
    let in_end = IsOrder-reverse in_y in
    let (w, way) = way_exists in_z in_y in
    let one = in_x.within j (omega arith) (omega arith) in
    let two = in_x.within (j + 1) (omega arith) (omega arith) in
    let first : IsWay n (reverse x) x (generator j ∷ w) =
    cross j (omega arith) (omega arith)
    (before-reverse in_x (entry x j) (entry x (j + 1)) one two
    (neighbours_before in_x j (omega arith) (omega arith))) way in
    let ends : swapped i (reverse x) ≡ reverse (swapped j x) = swapped-reverse in_x i j low high refl in
    let last_turns : IsBefore (reverse (swapped j x)) (entry (reverse x) (i + 1)) (entry (reverse x) i) =
    rw (← ends) (turns_own i in_z low high) in
    let second : IsWay n (reverse (swapped j x)) (swapped j x) (w ++ generator i ∷ []) =
    IsWay-append (reverse (swapped j x)) in_y
    (λ e f is_e is_f before after. before-reverse in_y e f is_e is_f before) way
    (cross i low high last_turns (arrive ends)) in
    let begins : EquivalentOn n (delta_word n) (generator j ∷ w) =
    EquivalentOn-ways in_z in_x (IsWay-delta in_x) first in
    let finishes : EquivalentOn n (w ++ generator i ∷ []) (delta_word n) =
    EquivalentOn-ways in_end in_y second (IsWay-delta in_y) in
    EquivalentOn-trans (EquivalentOn-before (generator i ∷ []) ((low, high), tt) begins)
    (EquivalentOn-after (generator j ∷ []) ((omega arith, omega arith), tt) finishes)

-- The letter with its index turned.
abbrev pub mirrored : ℕ → Letter → Letter
mirrored n c = letter (n - c.index) c.negative

-- so with either sign
pub EquivalentOn-delta_letter
    : (n i : ℕ) (b : Bool)
    → 1 ≤ i
    → i < n
    → EquivalentOn n (delta_word n ++ letter i b ∷ []) (letter (n - i) b ∷ delta_word n)
EquivalentOn-delta_letter n i false low high = EquivalentOn-delta_generator n i low high
EquivalentOn-delta_letter n i true low high =
    let back : EquivalentOn n (delta_word n) (letter (n - i) true ∷ (delta_word n ++ generator i ∷ [])) =
    EquivalentOn-solve_left (generator (n - i) ∷ []) (delta_word n)
    (EquivalentOn-sym (EquivalentOn-delta_generator n i low high)) in
    EquivalentOn-sym (EquivalentOn-solve_right (letter (n - i) true ∷ delta_word n) (generator i ∷ [])
    (EquivalentOn-sym back))

-- so with a word
pub EquivalentOn-delta_pass
    : (n : ℕ) (w : List Letter)
    → IsOn n w
    → EquivalentOn n (delta_word n ++ w) (map (mirrored n) w ++ delta_word n)
EquivalentOn-delta_pass n [] on =
    rw (append-nil (delta_word n)) (stay (IsOn-way (IsWay-delta (IsOrder-identity n))))
EquivalentOn-delta_pass n (c ∷ w) on =
    let first = EquivalentOn-before w on.1 (EquivalentOn-delta_letter n c.index c.negative on.0.0 on.0.1) in
    let moved : EquivalentOn n (delta_word n ++ c ∷ w) (mirrored n c ∷ (delta_word n ++ w)) =
    rw append_assoc at first in
    EquivalentOn-trans moved
    (EquivalentOn-after (mirrored n c ∷ []) ((omega (arith, on.0), omega (arith, on.0)), tt)
    (EquivalentOn-delta_pass n w on.1))

-- ---- Simple braids behind a half turn ----

-- a way, seen backwards
pub IsWay-mirrored
    : {n : ℕ} {z x : List ℕ} {u : List Letter}
    → IsOrder n z
    → IsOrder n x
    → IsWay n z x u
    → IsWay n (reverse z) (reverse x) (map (mirrored n) u)
IsWay-mirrored in_z in_x (arrive is) = arrive (ap reverse is)
IsWay-mirrored {n} {z} {x} in_z in_x (cross i low high turns rest) =
    cross (n - i) (omega arith) (omega arith) turned
    (rw (swapped-reverse in_x (n - i) i (omega arith) (omega arith) (omega arith))
    (IsWay-mirrored in_z (IsOrder-swapped in_x i low high) rest))
  where
    here : entry (reverse x) (n - i) ≡ entry x (i + 1)
    here =
        let size = in_x.size in
        let at = entry-reverse x (n - i) (omega arith) (omega (arith, size)) in
        let e : length x + 1 - (n - i) ≡ i + 1 = omega (arith, size) in
        at ∙ ap (entry x) e

    next : entry (reverse x) (n - i + 1) ≡ entry x i
    next =
        let size = in_x.size in
        let at = entry-reverse x (n - i + 1) (omega arith) (omega (arith, size)) in
        let e : length x + 1 - (n - i + 1) ≡ i = omega (arith, size) in
        at ∙ ap (entry x) e

    turned : IsBefore (reverse z) (entry (reverse x) (n - i + 1)) (entry (reverse x) (n - i))
    turned =
        rw (here, next) (before-reverse in_z (entry x (i + 1)) (entry x i)
        (in_x.within (i + 1) (omega arith) (omega arith))
        (in_x.within i low (omega arith)) turns)

-- the flip of a simple braid leads from the order backwards to its end backwards
composed-flip
    : {n : ℕ} {x p : List ℕ}
    → IsOrder n x
    → IsOrder n p
    → composed (reverse x) (flip p) ≡ reverse (composed x p)
composed-flip {n} {x} {p} in_x in_p =
    let flipped = IsOrder-flip in_p in
    let whole = IsOrder-composed in_x in_p in
    let one = IsOrder-composed (IsOrder-reverse in_x) flipped in
    let two = IsOrder-reverse whole in
    same_entries (composed (reverse x) (flip p)) (reverse (composed x p)) (one.size ∙ sym two.size)
    (λ k least most.
    let fits : k ≤ n = omega (arith, one.size, most) in
    let size = in_x.size in
    let inside = in_p.within (n + 1 - k) (omega arith) (omega arith) in
    let turned = entry-flip n k p in_p.size least fits in
    let back = entry-reverse x (n + 1 - entry p (n + 1 - k)) (omega (arith, inside))
    (omega (arith, inside, size)) in
    let e : length x + 1 - (n + 1 - entry p (n + 1 - k)) ≡ entry p (n + 1 - k) =
    omega (arith, inside, size) in
    let last = entry-reverse (composed x p) k least (omega (arith, whole.size, fits)) in
    let f : length (composed x p) + 1 - k ≡ n + 1 - k = omega (arith, whole.size) in
    entry-composed (reverse x) flipped k least fits
    ∙ (ap (entry (reverse x)) turned ∙ (back ∙ (ap (entry x) e
    ∙ (sym (entry-composed x in_p (n + 1 - k) (omega arith) (omega arith))
    ∙ (ap (entry (composed x p)) (sym f) ∙ sym last))))))

-- the word of a simple braid with its indices turned is a word of the flip
pub EquivalentOn-flip
    : {n : ℕ} {p : List ℕ} {u v : List Letter}
    → IsOrder n p
    → IsWordOf n p u
    → IsWordOf n (flip p) v
    → EquivalentOn n (map (mirrored n) u) v
EquivalentOn-flip {n} {p} {u} {v} order one two =
    let x = identity n in
    let in_x = IsOrder-identity n in
    let in_z = IsOrder-composed in_x order in
    EquivalentOn-ways (IsOrder-reverse in_z) (IsOrder-reverse in_x)
    (IsWay-mirrored in_z in_x (IsWay-word in_x order one))
    (rw (composed-flip in_x order) at (IsWay-word (IsOrder-reverse in_x) (IsOrder-flip order) two))

-- ---- Inverse letters ----

-- from the identity a simple braid leads to its arrangement
pub composed_identity_left : {n : ℕ} {p : List ℕ} → IsOrder n p → composed (identity n) p ≡ p
composed_identity_left {n} {p} order =
    let whole = IsOrder-composed (IsOrder-identity n) order in
    same_entries (composed (identity n) p) p (whole.size ∙ sym order.size)
    (λ i low high.
    let fits : i ≤ n = omega (arith, whole.size, high) in
    let inside = order.within i low fits in
    entry-composed (identity n) order i low fits ∙ entry-identity n (entry p i) inside.0 inside.1)

-- the word of the half turn's arrangement is a word of the half turn
pub EquivalentOn-half_turn
    : {n : ℕ} {u : List Letter}
    → IsWordOf n (half_turn n) u
    → EquivalentOn n u (delta_word n)
EquivalentOn-half_turn {n} {u} word =
    let in_x = IsOrder-identity n in
    let in_z = IsOrder-half_turn n in
    let way : IsWay n (half_turn n) (identity n) u =
    rw (composed_identity_left in_z) at (IsWay-word in_x in_z word) in
    EquivalentOn-ways in_z in_x way (IsWay-delta in_x)

-- an inverse letter is the half turn without that letter in front, before an inverse half turn
pub EquivalentOn-inverse_letter
    : {n : ℕ} (i : ℕ) {u : List Letter}
    → 1 ≤ i
    → i < n
    → IsWordOf n (values_swapped i (half_turn n)) u
    → EquivalentOn n (letter i true ∷ []) (u ++ inverse (delta_word n))
EquivalentOn-inverse_letter {n} i {u} low high word =
    let whole = IsOrder-half_turn n in
    let (v, v_is) = word_exists whole in
    let here = place_of-half_turn n i low (omega arith) in
    let next = place_of-half_turn n (i + 1) (omega arith) (omega arith) in
    let left : IsLeftDescent (half_turn n) i = omega (arith, here, next) in
    let front = IsWordOf-front whole i low high left v_is word in
    let split : EquivalentOn n (generator i ∷ u) (delta_word n) =
    EquivalentOn-trans (EquivalentOn-sym front) (EquivalentOn-half_turn v_is) in
    let rest : EquivalentOn n u (letter i true ∷ delta_word n) =
    EquivalentOn-solve_left (generator i ∷ []) u split in
    EquivalentOn-solve_right (letter i true ∷ []) (delta_word n) (EquivalentOn-sym rest)

-- ---- Letters before inverse half turns ----

-- a letter passes an inverse half turn and turns its index
pub EquivalentOn-inverse_delta_pass
    : (n : ℕ) (c : Letter)
    → IsOn n (c ∷ [])
    → EquivalentOn n (c ∷ inverse (delta_word n)) (inverse (delta_word n) ++ mirrored n c ∷ [])
EquivalentOn-inverse_delta_pass n c on =
    let passed = EquivalentOn-delta_letter n c.index c.negative on.0.0 on.0.1 in
    let solved : EquivalentOn n (c ∷ []) (inverse (delta_word n) ++ (mirrored n c ∷ delta_word n)) =
    EquivalentOn-solve_left (delta_word n) (c ∷ []) passed in
    let whole : EquivalentOn n ((inverse (delta_word n) ++ mirrored n c ∷ []) ++ delta_word n) (c ∷ []) =
    rw (append_assoc (inverse (delta_word n)) (mirrored n c ∷ []) (delta_word n)) (EquivalentOn-sym solved) in
    EquivalentOn-sym
    (EquivalentOn-solve_right (inverse (delta_word n) ++ mirrored n c ∷ []) (delta_word n) whole)
