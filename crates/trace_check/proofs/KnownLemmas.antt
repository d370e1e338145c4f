-- What is known of the letters of the present word.
--
-- Letters that are known needn't be counted (`Counted-passed`). They stay known where another letter is taken
-- out (`AreAbove-without`), and where a reduction raises no letter, those inside its handle are known, too
-- (`AreAbove-inside`).
use Rattle.std.proofs.Common.{◌≡◌, ℕ, zero, suc, ◌+◌, ◌-◌, ◌<◌, ◌≤◌, ◌==◌, false, cond, Option, None, Some, MatchOption, List, [], ◌∷◌, ◌++◌, length, length-drop, take, drop, count_by, refl, sym, ap, ◌∙◌, subst, arith, inl, inr}
use Rattle.std.specs.List.{remove}
use Rattle.std.proofs.lemmas.Bool.{cases_lt, eq-eqb}
use Rattle.std.proofs.lemmas.List.{get_or-drop, take-append-drop}
use Rattle.std.proofs.lemmas.List.Edits.{get_or-remove_above, get_or-remove_below, length-remove, remove-append_left, remove-append_right}
use Rattle.std.proofs.lemmas.List.Sums.{sum_by-cons}
use Rattle.braid_word.specs.Words.{Letter, letter}
use Rattle.gap_word.specs.Gap.{Gap, gap, PopsRight}
use Rattle.handle_find.specs.Handles.{at}
use Rattle.handle_find.specs.Scans.{whole, IsHandleAtCursor}
use Rattle.handle_find.proofs.CursorLemmas.{at-left}
use Rattle.handle_find.proofs.SurveyLemmas.{counted, counted-skip}
use Rattle.trace_check.specs.Presents.{AreAbove, IsKnown, IsPassed, Counted}
use Rattle.trace_check.proofs.ReductionLemmas.{Counted-within}
use Rattle.trace_check.specs.declared.known.Known.{Known}
use Rattle.trace_check.specs.declared.known.Stretch.{Stretch}

-- ---- Letters that aren't read ----

-- letters that are passed are neither as low as a handle's ends nor raised
pub Counted-passed
    : (old : Gap Letter) (k : Known) (i from to low high n : ℕ)
    → IsKnown (whole old) k
    → IsPassed (λ w. IsKnown w k) i from to low high
    → to ≡ length old.left
    → Counted old.left i high n
    → Counted old.left i low n
Counted-passed old k i from to low high n known passed end all = record {
  higher = λ m from within. elim (cases_lt m high) [
    | inl before ↦ (let above = higher m from before in omega (arith, above))
    | inr behind ↦ all.higher m (omega (arith, behind)) within
  ];
  count = all.count ∙ sym same;
  few = omega (arith, all.few, passed.ordered);
}
  where
    higher : (m : ℕ) → low ≤ m → m < high → i + 1 < (at old.left m).index
    higher m from before =
        let read = passed.higher (whole old) known m from before in
        let place = at-left old.left old.right m (omega (arith, before, passed.ends, end)) in
        omega (arith, read, ap (λ (x : Letter). x.index) place)

    same : counted old.left (i + 1) low ≡ counted old.left (i + 1) high
    same =
        let sum : low + (high - low) ≡ high = omega (arith, passed.ordered) in
        counted-skip old.left (i + 1) low (high - low) (omega (arith, passed.ordered, passed.ends, end))
        (λ m from before. higher m from (omega (arith, before, passed.ordered)))
        ∙ ap (counted old.left (i + 1)) sum

-- what is counted up to a part that is known, and before it, is counted in a handle
pub Counted-raised
    : (old : Gap Letter) (i j p low : ℕ) (o : Option ℕ)
    → i ≡ j
    → low ≤ length old.left
    → MatchOption o (((k : ℕ) → p + 1 ≤ k → k < low → i < (at old.left k).index) → ⊥)
    (λ n. Counted old.left i (p + 1) n)
    → MatchOption o (((k : ℕ) → p < k → k < length old.left → j < (at old.left k).index) → ⊥)
    (λ n. ((k : ℕ) → p < k → k < length old.left → j < (at old.left k).index)
    × (n ≡ count_by (λ x. x.index == j + 1) (drop (p + 1) old.left)))
Counted-raised old i j p low None same within none =
    λ all. none (λ k from to.
    let above = all k (omega (arith, from)) (omega (arith, to, within)) in omega (arith, same, above))
Counted-raised old i j p low (Some n) same within counted =
    rw (sym same) (Counted-within old.left i p (p + 1) n counted refl)

-- what is known of a word is known where its cursor has moved
pub IsKnown-moved
    : (old moved : Gap Letter) (k : Known) (q : ℕ)
    → moved ≡ gap (take q (whole old)) (drop q (whole old)) old.spare
    → IsKnown (whole old) k
    → IsKnown (whole moved) k
IsKnown-moved old moved k q is known = rw (is, take-append-drop q (whole old)) known

-- ---- After a reduction ----

-- where none has an index, each letter has another
none_has
    : (i : ℕ) (w : List Letter) (m : ℕ)
    → count_by (λ (x : Letter). x.index == i) w ≡ 0
    → m < length w
    → (at w m).index ≡ i
    → ⊥
none_has i [] m none within is = absurd (omega (arith, within))
none_has i (x ∷ w) zero none within is =
    let cut = sum_by-cons (λ (y : Letter). cond (y.index == i) 1 0) x w in
    let one : ◌≡◌ {A = ℕ} (cond (x.index == i) 1 0) 1 = rw (eq-eqb _ _ is) refl in
    absurd (omega (arith, cut, one, none))
none_has i (x ∷ w) (suc m) none within is =
    let cut = sum_by-cons (λ (y : Letter). cond (y.index == i) 1 0) x w in
    none_has i w m (omega (arith, cut, none)) (omega (arith, within)) is

-- letters that are known stay so where another is taken out
pub AreAbove-without
    : (s t : Stretch) (out : ℕ)
    → (s.from ≤ out → t.from ≡ s.from)
    → (out < s.from → t.from ≡ s.from - 1)
    → (s.to ≤ out → t.to ≡ s.to)
    → (out < s.to → t.to ≡ s.to - 1)
    → t.above ≡ s.above
    → (w : List Letter)
    → out < length w
    → AreAbove w s
    → AreAbove (remove w out) t
AreAbove-without s t out first behind last before same w within above = record {
  higher = λ m from to. elim (cases_lt m out) [
    | inl low ↦
        (let read = above.higher m (grind (arith, first, behind, from, low))
        (grind (arith, last, before, to, low)) in
        let place = get_or-remove_below w out (letter 0 false) m low within in
        omega (arith, same, read, ap (λ (x : Letter). x.index) place))
    | inr high ↦
        (let read = above.higher (m + 1) (grind (arith, first, behind, from, high))
        (grind (arith, last, before, to, high)) in
        let place = get_or-remove_above w out (letter 0 false) m high within in
        omega (arith, same, read, ap (λ (x : Letter). x.index) place))
  ];
}

-- the two ends of a handle are taken out
pub whole-closed
    : (old popped new : Gap Letter) (last : Letter) (p : ℕ)
    → p < length old.left
    → PopsRight old last popped
    → new ≡ gap (remove popped.left p) popped.right (popped.spare + 1)
    → whole new ≡ remove (remove (whole old) (length old.left)) p
whole-closed old popped new last p within pops removed =
    rw (removed, pops.left, out) (sym (remove-append_left old.left popped.right p within))
  where
    first_out : (l : List Letter) → remove (l ++ last ∷ popped.right) (length l) ≡ l ++ popped.right
    first_out l =
        let none : length l - length l ≡ 0 = omega arith in
        remove-append_right l (last ∷ popped.right) (length l) (length l) refl (omega arith)
        ∙ ap (λ k. l ++ remove (last ∷ popped.right) k) none

    out : remove (whole old) (length old.left) ≡ old.left ++ popped.right
    out = ap (λ r. remove (old.left ++ r) (length old.left)) pops.right ∙ first_out old.left

-- and where none is raised, the letters inside are known
pub AreAbove-inside
    : (old : Gap Letter) (first : Letter) (p n : ℕ) (s : Stretch)
    → IsHandleAtCursor old p
    → first ≡ at old.left p
    → n ≡ count_by (λ x. x.index == (at old.left p).index + 1) (drop (p + 1) old.left)
    → n ≡ 0
    → s.from ≡ p
    → s.to ≡ length old.left - 1
    → s.above ≡ first.index + 1
    → AreAbove (remove (remove (whole old) (length old.left)) p) s
AreAbove-inside old first p n s handle is count none from to above = record { higher = higher }
  where
    index_of : Letter → ℕ
    index_of x = x.index

    higher
        : (m : ℕ)
        → s.from ≤ m
        → m < s.to
        → s.above < (at (remove (remove (whole old) (length old.left)) p) m).index
    higher m after before =
        let behind : p ≤ m = omega (arith, from, after) in
        let below : m + 1 < length old.left = omega (arith, to, before) in
        let less = length-remove (whole old) (length old.left) handle.within in
        let place = get_or-remove_above (remove (whole old) (length old.left)) p (letter 0 false) m behind
        (omega (arith, less, handle.within, handle.ordered)) in
        let place' = get_or-remove_below (whole old) (length old.left) (letter 0 false) (m + 1) below
        handle.within in
        let here = ap index_of (place ∙ place') in
        let letter_is = ap index_of (at-left old.left old.right (m + 1) below) in
        let start = ap index_of (at-left old.left old.right p handle.ordered) in
        let inner = ap index_of (get_or-drop (p + 1) old.left (m - p) (letter 0 false)) in
        let sum : p + 1 + (m - p) ≡ m + 1 = omega (arith, behind) in
        let next = ap (λ k. (at old.left k).index) sum in
        let higher = handle.higher_between (m + 1) (omega (arith, behind)) below in
        let other = none_has ((at old.left p).index + 1) (drop (p + 1) old.left) (m - p) (sym count ∙ none)
        (omega (arith, length-drop (p + 1) old.left, below, behind)) in
        omega (arith, above, ap index_of is, here, letter_is, start, inner, next, higher, other)

-- what is known behind, with those letters
pub IsKnown-closed
    : (old popped new : Gap Letter) (first last : Letter) (p n end : ℕ)
    → IsHandleAtCursor old p
    → first ≡ at old.left p
    → PopsRight old last popped
    → n ≡ count_by (λ x. x.index == (at old.left p).index + 1) (drop (p + 1) old.left)
    → n ≡ 0
    → new ≡ gap (remove popped.left p) popped.right (popped.spare + 1)
    → end ≡ length old.left
    → (known one two all : Known) (s : Stretch)
    → ((w : List Letter) → end < length w → IsKnown w known → IsKnown (remove w end) one)
    → ((w : List Letter) → p < length w → IsKnown w one → IsKnown (remove w p) two)
    → ((w : List Letter) → IsKnown w two → AreAbove w s → IsKnown w all)
    → s.from ≡ p
    → s.to ≡ end - 1
    → s.above ≡ first.index + 1
    → IsKnown (whole old) known
    → IsKnown (whole new) all
IsKnown-closed old popped new first last p n end handle is pops count none removed cursor
    known one two all s without_end without_start with from to above told =
    let less = length-remove (whole old) (length old.left) handle.within in
    rw (whole-closed old popped new last p handle.ordered pops removed)
    (with _
    (without_start _ (omega (arith, less, handle.within, handle.ordered))
    (subst (λ k. IsKnown (remove (whole old) k) one) cursor
    (without_end _ (omega (arith, cursor, handle.within)) told)))
    (AreAbove-inside old first p n s handle is count none from (omega (arith, to, cursor)) above))
