-- Steps that are made in place, at a cursor before their place.
--
-- The letters behind the place are taken out (`Took`), and others are put in (`Puts`); then the word is what
-- the step leads to, and has room as before (`IsPresent-step`).
use Rattle.std.proofs.Common.{◌≡◌, ℕ, ◌+◌, ◌-◌, ◌<◌, ◌≤◌, true, List, [], ◌∷◌, ◌++◌, length, take, drop, Ok, refl, sym, ap, ◌∙◌, arith, length-append, append_assoc}
use Rattle.std.proofs.lemmas.Bool.{le-ltb}
use Rattle.std.proofs.lemmas.List.{take-append-drop}
use Rattle.braid_word.specs.Words.{Letter}
use Rattle.gap_word.specs.Gap.{Gap, gap, PopsRight}
use Rattle.handle_find.specs.Scans.{whole}
use Rattle.trace_format.specs.declared.line.StepLine.TheVariants.{Commute, Swap, Delete}
use Rattle.trace_check.specs.Checking.{are_far, are_braided, are_inverse, stepped_to, commuted, braided, deleted, stepped}
use Rattle.trace_check.specs.Presents.{IsPresent}

-- ---- Letters that are taken out and put in ----

-- The letters `taken` were taken out behind the first k of a word.
pub record Took (old : Gap Letter) (k : ℕ) (taken : List Letter) (now : Gap Letter) : Type 0 where
  pub left : now.left ≡ take k (whole old)
  pub behind : drop k (whole old) ≡ taken ++ now.right
  pub spare : now.spare ≡ old.spare + length taken

-- none at first
pub Took-none
    : (old now : Gap Letter) (k : ℕ)
    → now ≡ gap (take k (whole old)) (drop k (whole old)) old.spare
    → Took old k [] now
Took-none old now k is = rw is (record { left = refl; behind = refl; spare = omega arith })

-- one more
pub Took-more
    : (old now next : Gap Letter) (k : ℕ) (taken : List Letter) (x : Letter)
    → Took old k taken now
    → PopsRight now x next
    → Took old k (taken ++ x ∷ []) next
Took-more old now next k taken x took pops = record {
  left = pops.left ∙ took.left;
  behind = took.behind ∙ ap (λ w. taken ++ w) pops.right ∙ sym (append_assoc taken (x ∷ []) next.right);
  spare = omega (arith, took.spare, pops.spare, length-append taken (x ∷ []));
}

-- two, and three
pub Took-two
    : (old now one two : Gap Letter) (k : ℕ) (x y : Letter)
    → now ≡ gap (take k (whole old)) (drop k (whole old)) old.spare
    → PopsRight now x one
    → PopsRight one y two
    → Took old k (x ∷ y ∷ []) two
Took-two old now one two k x y is first second =
    Took-more old one two k (x ∷ []) y (Took-more old now one k [] x (Took-none old now k is) first) second

pub Took-three
    : (old now one two three : Gap Letter) (k : ℕ) (x y z : Letter)
    → now ≡ gap (take k (whole old)) (drop k (whole old)) old.spare
    → PopsRight now x one
    → PopsRight one y two
    → PopsRight two z three
    → Took old k (x ∷ y ∷ z ∷ []) three
Took-three old now one two three k x y z is first second third =
    Took-more old two three k (x ∷ y ∷ []) z (Took-two old now one two k x y is first second) third

-- The letters `put` were put in front of right.
pub record Puts (old : Gap Letter) (put : List Letter) (new : Gap Letter) : Type 0 where
  pub left : new.left ≡ old.left
  pub right : new.right ≡ put ++ old.right
  pub spare : new.spare + length put ≡ old.spare

-- none at first
pub Puts-none : (old : Gap Letter) → Puts old [] old
Puts-none old = record { left = refl; right = refl; spare = omega arith }

-- one more
pub Puts-more
    : (old now next : Gap Letter) (put : List Letter) (x : Letter)
    → Puts old put now
    → length put < old.spare
    → next ≡ gap now.left (x ∷ now.right) (now.spare - 1)
    → Puts old (x ∷ put) next
Puts-more old now next put x puts more is = rw is (record {
  left = puts.left;
  right = ap (λ w. x ∷ w) puts.right;
  spare = omega (arith, puts.spare, more);
})

-- No more letters were put in than were taken out.
module _
    (old two new : Gap Letter) (k : ℕ) (taken put : List Letter)
    (took : Took old k taken two) (puts : Puts two put new) (fewer : length put ≤ length taken)
    (present : IsPresent old)
  where
    -- the word is in two parts
    parts : take k (whole old) ++ (taken ++ two.right) ≡ whole old
    parts = ap (λ w. take k (whole old) ++ w) (sym took.behind) ∙ take-append-drop k (whole old)

    -- the word is that of a step
    pub whole-step : whole new ≡ take k (whole old) ++ (put ++ two.right)
    whole-step = rw (puts.left, puts.right, took.left) refl

    -- and has room as before
    pub IsPresent-step : IsPresent new
    IsPresent-step =
        let all = ap length parts in
        let front = length-append (take k (whole old)) (taken ++ two.right) in
        let behind = length-append taken two.right in
        let words = length-append old.left old.right in
        let left = ap length puts.left in
        let right = ap length puts.right in
        let left' = ap length took.left in
        let right' = length-append put two.right in
        let new_words = length-append new.left new.right in
        let room = present.room in
        let short = present.short in
        record {
          room =
              omega
              (arith, all, front, behind, words, left, right, left', right', room, took.spare, puts.spare);
          short = omega (arith, all, front, behind, words, left, right, left', right', new_words, short);
        }

    -- it isn't too long
    pub stepped_to-step : stepped_to (take k (whole old) ++ (put ++ two.right)) ≡ Ok (whole new)
    stepped_to-step = rw (sym whole-step) (rw (le-ltb _ _ IsPresent-step.short) refl)

-- ---- Steps ----

-- two letters that commute
pub stepped-far
    : (old two new : Gap Letter) (p : ℕ) (x y : Letter)
    → Took old (p - 1) (x ∷ y ∷ []) two
    → Puts two (y ∷ x ∷ []) new
    → IsPresent old
    → are_far x y ≡ true
    → Ok (whole new) ≡ stepped (whole old) (Commute p)
stepped-far old two new p x y took puts present far =
    let to = stepped_to-step old two new (p - 1) _ _ took puts (omega arith) present in
    let split = ap (commuted (take (p - 1) (whole old))) took.behind in
    sym (split ∙ rw far to)

-- a side of a braid relation
pub stepped-braided
    : (old two new : Gap Letter) (p : ℕ) (x y z : Letter)
    → Took old (p - 1) (x ∷ y ∷ z ∷ []) two
    → Puts two (y ∷ x ∷ y ∷ []) new
    → IsPresent old
    → are_braided x y z ≡ true
    → Ok (whole new) ≡ stepped (whole old) (Swap p)
stepped-braided old two new p x y z took puts present side =
    let to = stepped_to-step old two new (p - 1) _ _ took puts (omega arith) present in
    let split = ap (braided (take (p - 1) (whole old))) took.behind in
    sym (split ∙ rw side to)

-- two letters that are inverse to each other
pub stepped-inverse
    : (old two : Gap Letter) (p : ℕ) (x y : Letter)
    → Took old (p - 1) (x ∷ y ∷ []) two
    → IsPresent old
    → are_inverse x y ≡ true
    → Ok (whole two) ≡ stepped (whole old) (Delete p)
stepped-inverse old two p x y took present inverse =
    let to = stepped_to-step old two two (p - 1) _ _ took (Puts-none two) (omega arith) present in
    let split = ap (deleted (take (p - 1) (whole old))) took.behind in
    sym (split ∙ rw inverse to)
