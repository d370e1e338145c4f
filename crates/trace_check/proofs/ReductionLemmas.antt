-- Handles that are reduced in place, at a cursor before their last letter.
--
-- The letters inside are counted (`Counted`), and the reduct is as long as their count says
-- (`length-moved_reduct`). They are taken back (`reduct-taken_back`), or stay where none is raised
-- (`reduct-removed`).
use Rattle.std.proofs.Common.{◌≡◌, ℕ, suc, ◌+◌, ◌-◌, ◌*◌, ◌<◌, ◌≤◌, ◌==◌, Bool, true, false, not, cond, List, [], ◌∷◌, ◌++◌, length, take, drop, count_by, flat_map, slice_get, Option, None, Some, MatchOption, Ok, Err, min, refl, sym, ap, ap₂, ◌∙◌, subst, arith, length-append, length-take, append_assoc, inl, inr}
use Rattle.std.specs.List.{remove}
use Rattle.std.proofs.lemmas.Bool.{le-ltb, lt-ltb, cases_Bool, cases_eq}
use Rattle.std.proofs.lemmas.List.{take-append-drop, drop_all, take_at, take-take, length-take-le}
use Rattle.std.proofs.lemmas.List.Edits.{length-remove}
use Rattle.std.proofs.lemmas.List.Sums.{sum_by-cons, sum_by-drop_more}
use Rattle.braid_word.specs.Words.{Letter, letter, opposite}
use Rattle.braid_word.specs.declared.TheConstants.{MAX_LETTERS}
use Rattle.gap_word.specs.Gap.{Gap, gap, room, PopsLeft, PopsRight}
use Rattle.handle_find.specs.Handles.{at, IsHandle, replaced, reduct}
use Rattle.handle_find.specs.Scans.{whole, IsHandleAtCursor, reduct_at_cursor}
use Rattle.handle_find.proofs.CursorLemmas.{at-left, at-cursor, within-cursor}
use Rattle.handle_find.proofs.ReduceLemmas.{reduct-closed, length-closed}
use Rattle.trace_format.specs.declared.line.StepLine.TheVariants.{Handle}
use Rattle.trace_check.specs.Checking.{are_inverse, stepped}
use Rattle.trace_check.specs.Presents.{IsPresent, Counted}
use Rattle.trace_check.specs.declared.checked.Why.TheVariants.{Step, Long}
use Rattle.trace_check.proofs.KeepLemmas.{stepped-Step, stepped-Handle}
use Rattle.trace_check.proofs.TakingLemmas.{Took-none, Puts-none, IsPresent-step}
use Rattle.trace_check.proofs.StepLaws.{are_inverse-true, are_inverse-from}

-- ---- The letters inside a handle ----

-- no letter
pub Counted-none : (w : List Letter) (i : ℕ) → Counted w i (length w) 0
Counted-none w i = record {
  higher = λ m from within. absurd (omega arith);
  count = rw (drop_all (length w) w (omega arith)) refl;
  few = omega arith;
}

-- one letter more, which is raised or not
pub Counted-more
    : (w : List Letter) (i k n found : ℕ)
    → Counted w i (k + 1) n
    → k < length w
    → found ≡ (at w k).index
    → i < found
    → Counted w i k (n + cond (found == i + 1) 1 0)
Counted-more w i k n found counted within is higher =
    let more = sum_by-drop_more (λ (x : Letter). cond (x.index == i + 1) 1 0) w k (letter 0 false) within in
    record {
      higher = λ m from below. elim (cases_eq k m) [
        | inl same ↦ subst (λ p. i < (at w p).index) same (omega (arith, is, higher))
        | inr other ↦ counted.higher m (omega (arith, from, other)) below
      ];
      count = rw (more, counted.count, is) (omega arith);
      few = omega (arith, counted.few, one (found == i + 1));
    }
  where
    one : (b : Bool) → cond b 1 0 ≤ 1
    one true = omega arith
    one false = omega arith

-- the letters inside a place are counted as the code counts them
pub Counted-within
    : (w : List Letter) (i p k n : ℕ)
    → Counted w i k n
    → k ≡ p + 1
    → ((k : ℕ) → p < k → k < length w → i < (at w k).index)
    × (n ≡ count_by (λ x. x.index == i + 1) (drop (p + 1) w))
Counted-within w i p k n counted at =
    (λ m above below. counted.higher m (omega (arith, above, at)) below, rw (sym at) counted.count)

-- where none is raised the letters inside stay
unraised
    : (j : ℕ) (e : Bool) (w : List Letter)
    → count_by (λ (x : Letter). x.index == j + 1) w ≡ 0
    → flat_map (replaced j e) w ≡ w
unraised j e [] none = refl
unraised j e (x ∷ w) none =
    let cut = sum_by-cons (λ (y : Letter). cond (y.index == j + 1) 1 0) x w in
    elim (cases_Bool (x.index == j + 1)) [
      | inl raised ↦
          absurd (let one : 1 ≤ cond (x.index == j + 1) 1 0 = rw raised (omega arith) in
          omega (arith, cut, one, none))
      | inr other ↦ (let rest = unraised j e w (omega (arith, cut, none)) in rw (rest, other) refl)
    ]

-- ---- Reductions ----

-- what is left where the first letter is taken out and those inside stay
pub reduct-removed
    : (old popped : Gap Letter) (first last : Letter) (p n : ℕ)
    → IsHandleAtCursor old p
    → first ≡ at old.left p
    → PopsRight old last popped
    → n ≡ count_by (λ x. x.index == (at old.left p).index + 1) (drop (p + 1) old.left)
    → n ≡ 0
    → remove popped.left p ++ popped.right ≡ reduct_at_cursor old p
reduct-removed old popped first last p n handle is pops count none =
    let all = reduct-closed old.left old.right popped.right last first p handle pops.right is in
    let stay = unraised first.index first.negative (drop (p + 1) old.left)
    (rw is (sym count ∙ none)) in
    rw pops.left
    (append_assoc (take p old.left) (drop (suc p) old.left) popped.right
    ∙ sym (all
    ∙ ap (λ w. take p old.left ++ (w ++ popped.right)) (stay ∙ ap (λ k. drop k old.left) (add-one p))))
  where
    add-one : (p : ℕ) → p + 1 ≡ suc p
    add-one p = omega arith

-- and where they are taken back
pub reduct-taken_back
    : (old popped back new : Gap Letter) (first last x : Letter) (p : ℕ)
    → IsHandleAtCursor old p
    → first ≡ at old.left p
    → PopsRight old last popped
    → back.left ≡ take (p + 1) popped.left
    → back.right ≡ flat_map (replaced first.index first.negative) (drop (p + 1) popped.left) ++ popped.right
    → PopsLeft back x new
    → whole new ≡ reduct_at_cursor old p
reduct-taken_back old popped back new first last x p handle is pops left right out =
    let all = reduct-closed old.left old.right popped.right last first p handle pops.right is in
    let within : p < length old.left = handle.ordered in
    let front : new.left ≡ take p old.left
    = last_out new.left x old.left p within (sym out.left ∙ left ∙ ap (take (p + 1)) pops.left) in
    rw (front, out.right, right, pops.left) (sym all)
  where
    last_out
        : (ns : List Letter) (x : Letter) (ls : List Letter) (p : ℕ)
        → p < length ls
        → ns ++ x ∷ [] ≡ take (p + 1) ls
        → ns ≡ take p ls
    last_out ns x ls p within is =
        let len = ap length is in
        let size = length-append ns (x ∷ []) in
        let size' = length-take (p + 1) ls in
        let short : length ns ≡ p = omega arith in
        sym (take_at ns (x ∷ []) p short) ∙ ap (take p) is ∙ take-take p (p + 1) ls (omega arith)

-- there is room for what is taken back, before the first letter of the handle goes
pub room-taken_back
    : (old popped : Gap Letter) (first last : Letter) (p : ℕ)
    → IsHandleAtCursor old p
    → first ≡ at old.left p
    → PopsRight old last popped
    → IsPresent old
    → length (reduct_at_cursor old p) ≤ MAX_LETTERS
    → p + 1 + length (flat_map (replaced first.index first.negative) (drop (p + 1) popped.left))
    + length popped.right ≤ room popped
room-taken_back old popped first last p handle is pops present short =
    let all = ap length (reduct-closed old.left old.right popped.right last first p handle pops.right is) in
    let inner = flat_map (replaced first.index first.negative) (drop (p + 1) old.left) in
    let front = length-append (take p old.left) (inner ++ popped.right) in
    let behind = length-append inner popped.right in
    let low : length (take p old.left) ≡ p = length-take-le p old.left (omega (arith, handle.ordered)) in
    let right = ap length pops.right in
    let places = present.room in
    rw pops.left (omega (arith, all, front, behind, low, right, places, pops.spare))

-- a letter and the first of the handle are out, and none is put in
pub IsPresent-removed
    : (old popped new : Gap Letter) (last : Letter) (p : ℕ)
    → IsPresent old
    → PopsRight old last popped
    → p < length popped.left
    → new ≡ gap (remove popped.left p) popped.right (popped.spare + 1)
    → IsPresent new
IsPresent-removed old popped new last p present pops within is =
    let less = length-remove popped.left p within in
    let left = ap length pops.left in
    let right = ap length pops.right in
    let words = length-append old.left old.right in
    let new_words = length-append (remove popped.left p) popped.right in
    rw is (record {
      room = omega (arith, less, left, right, pops.spare, present.room);
      short = omega (arith, less, left, right, words, new_words, present.short);
    })

-- ---- The handle at the cursor ----

-- What the letters from a place to the cursor are where the first of right is `last`.
module _
    (old : Gap Letter) (first last : Letter) (p : ℕ)
    (within : p < length old.left) (is : first ≡ at old.left p) (read : slice_get old.right 0 ≡ Some last)
  where
    -- its ends are the letters that were read
    start_at : at (whole old) p ≡ first
    start_at = at-left old.left old.right p within ∙ sym is

    end_at : at (whole old) (length old.left) ≡ last
    end_at = at-cursor old.left old.right last read

    -- a handle, with the number of letters that are raised
    pub IsHandle-counted
        : (n : ℕ)
        → are_inverse first last ≡ true
        → ((k : ℕ) → p < k → k < length old.left → first.index < (at old.left k).index)
        → n ≡ count_by (λ x. x.index == first.index + 1) (drop (p + 1) old.left)
        → IsHandleAtCursor old p
        × (n ≡ count_by (λ x. x.index == (at old.left p).index + 1) (drop (p + 1) old.left))
    IsHandle-counted n inverse higher count =
        let opposite = are_inverse-true first last inverse in (
          record {
            ordered = within;
            within = within-cursor old.left old.right last read;
            one_index = rw (end_at, start_at, opposite) refl;
            opposite_signs = rw (end_at, start_at, opposite) refl;
            higher_between = λ k above below.
                rw (start_at, at-left old.left old.right k below) (higher k above below);
          },
          rw (sym is) count,
        )

    -- a handle's ends are inverse to each other
    pub inverse-IsHandle : IsHandleAtCursor old p → are_inverse first last ≡ true
    inverse-IsHandle handle =
        let index : last.index ≡ first.index
        = sym (ap (λ (x : Letter). x.index) end_at) ∙ handle.one_index
        ∙ ap (λ (x : Letter). x.index) start_at in
        let sign : last.negative ≡ not first.negative
        = sym (ap (λ (x : Letter). x.negative) end_at) ∙ handle.opposite_signs
        ∙ ap (λ (x : Letter). not x.negative) start_at in
        let same : last ≡ opposite first = ap₂ letter index sign in
        rw same (are_inverse-from first)

    -- and the letters inside are higher
    pub higher-IsHandle
        : IsHandleAtCursor old p
        → (k : ℕ)
        → p < k
        → k < length old.left
        → first.index < (at old.left k).index
    higher-IsHandle handle k above below =
        let start = ap (λ (x : Letter). x.index) start_at in
        let inner = ap (λ (x : Letter). x.index) (at-left old.left old.right k below) in
        omega (arith, start, inner, handle.higher_between k above below)

    -- whether it is one, by what was counted
    pub handle-counted
        : (o : Option ℕ)
        → are_inverse first last ≡ true
        → MatchOption o
        (((k : ℕ) → p < k → k < length old.left → first.index < (at old.left k).index) → ⊥)
        (λ n. ((k : ℕ) → p < k → k < length old.left → first.index < (at old.left k).index)
        × (n ≡ count_by (λ x. x.index == first.index + 1) (drop (p + 1) old.left)))
        → MatchOption o (IsHandleAtCursor old p → ⊥)
        (λ n. IsHandleAtCursor old p
        × (n ≡ count_by (λ x. x.index == (at old.left p).index + 1) (drop (p + 1) old.left)))
    handle-counted None inverse none = λ handle. none (higher-IsHandle handle)
    handle-counted (Some n) inverse (higher, count) = IsHandle-counted n inverse higher count

-- The cursor has moved before place q of a word.
module _
    (w : List Letter) (moved : Gap Letter) (p q spare : ℕ)
    (is : moved ≡ gap (take q w) (drop q w) spare)
  where
    whole-moved : whole moved ≡ w
    whole-moved = rw is (take-append-drop q w)

    length-moved : length moved.left ≡ min q (length w)
    length-moved = rw is (length-take q w)

    -- a handle that ends there ends at the cursor
    IsHandleAtCursor-moved : IsHandle w p q → IsHandleAtCursor moved p
    IsHandleAtCursor-moved handle =
        let end : length moved.left ≡ q = omega (arith, length-moved, handle.within) in
        rw (whole-moved, end) handle

    -- and the other way round
    at_end : IsHandleAtCursor moved p → length moved.left ≡ q
    at_end handle = omega (arith, length-moved, handle.within, ap length whole-moved)

    IsHandle-moved : IsHandleAtCursor moved p → IsHandle w p q
    IsHandle-moved handle = rw (whole-moved, at_end handle) at handle

    reduct-moved : IsHandleAtCursor moved p → reduct_at_cursor moved p ≡ reduct w p q
    reduct-moved handle = rw (whole-moved, at_end handle) refl

-- ---- Reductions that are steps ----

-- The cursor has moved before the end of a step's handle.
module _
    (old moved : Gap Letter) (p q : ℕ)
    (is : moved ≡ gap (take (q - 1) (whole old)) (drop (q - 1) (whole old)) old.spare)
  where
    -- no handle is no step
    pub stepped-none : (IsHandleAtCursor moved (p - 1) → ⊥) → Err Step ≡ stepped (whole old) (Handle p q)
    stepped-none none = sym (stepped-Step (whole old) p q (λ handle.
        absurd (none (IsHandleAtCursor-moved (whole old) moved (p - 1) (q - 1) old.spare is handle))))

    -- how long the reduct is
    pub length-moved_reduct
        : (n len : ℕ)
        → IsHandleAtCursor moved (p - 1)
        → n ≡ count_by (λ x. x.index == (at moved.left (p - 1)).index + 1) (drop (p - 1 + 1) moved.left)
        → len ≡ length moved.left + length moved.right
        → len - 2 + 2 * n ≡ length (reduct_at_cursor moved (p - 1))
    length-moved_reduct n len handle count sum =
        length-closed moved.left moved.right (at moved.left (p - 1)) (p - 1) _ n len handle refl refl count
        sum

    -- a handle whose reduct is too long
    pub stepped-too_long
        : (size : ℕ)
        → IsHandleAtCursor moved (p - 1)
        → size ≡ length (reduct_at_cursor moved (p - 1))
        → MAX_LETTERS < size
        → Err Long ≡ stepped (whole old) (Handle p q)
    stepped-too_long size handle count long =
        let same = reduct-moved (whole old) moved (p - 1) (q - 1) old.spare is handle in
        let more : MAX_LETTERS < length (reduct (whole old) (p - 1) (q - 1))
        = omega (arith, ap length same, count, long) in
        sym (stepped-Handle (whole old) p q
        (IsHandle-moved (whole old) moved (p - 1) (q - 1) old.spare is handle)
        ∙ rw (lt-ltb _ _ more) refl)

    -- and one whose reduct isn't
    pub stepped-reduct
        : (new : Gap Letter)
        → IsHandleAtCursor moved (p - 1)
        → whole new ≡ reduct_at_cursor moved (p - 1)
        → length (reduct_at_cursor moved (p - 1)) ≤ MAX_LETTERS
        → Ok (whole new) ≡ stepped (whole old) (Handle p q)
    stepped-reduct new handle reduced short =
        let same = reduct-moved (whole old) moved (p - 1) (q - 1) old.spare is handle in
        let few : length (reduct (whole old) (p - 1) (q - 1)) ≤ MAX_LETTERS
        = omega (arith, ap length same, short) in
        sym (stepped-Handle (whole old) p q
        (IsHandle-moved (whole old) moved (p - 1) (q - 1) old.spare is handle)
        ∙ rw (le-ltb _ _ few) (ap (λ v. Ok v) (sym (reduced ∙ same))))

    -- there is room as before
    pub IsPresent-moved : IsPresent old → IsPresent moved
    IsPresent-moved = IsPresent-step old moved moved (q - 1) [] [] (Took-none old moved (q - 1) is)
        (Puts-none moved) (omega arith)
