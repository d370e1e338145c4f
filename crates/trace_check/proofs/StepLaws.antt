-- Laws of steps: one is made exactly where it applies, and where its word isn't too long
-- (`stepped-IsStep`, `IsStep-stepped`).
use Rattle.std.proofs.Common.{◌≡◌, ℕ, suc, ◌+◌, ◌-◌, ◌≤◌, inl, inr, ◌&&◌, ◌==◌, Bool, true, false, not, cond, ltb, List, [], ◌∷◌, ◌++◌, length, length-append, take, drop, Ok, Err, refl, sym, ap, ap₂, ◌∙◌, subst, arith}
use Rattle.std.specs.Bool.{beq}
use Rattle.std.specs.Cmp.{booleans_Decides}
use Rattle.std.proofs.lemmas.Bool.{le-ltb, lt-ltb, ltb-true, ltb-false, eq-eqb, eqb-true, and_parts, and_from, or_cases, or_left, or_right}
use Rattle.std.proofs.lemmas.List.{take-append-drop, length-take, length-drop}
use Rattle.std.proofs.Math.Seq.{take-append_seam, drop-append_seam}
use Rattle.braid_word.specs.Words.{Letter, letter, opposite}
use Rattle.braid_word.specs.declared.TheConstants.{MAX_LETTERS}
use Rattle.wb_base.proofs.PartLemmas.{Ok-cond, Ok-injective, Ok-cond_not}
use Rattle.braid_word.proofs.CommutingLemmas.{AreFar, AreNear}
use Rattle.handle_find.specs.Handles.{reduct}
use Rattle.trace_format.specs.declared.line.StepLine.{StepLine}
use Rattle.trace_format.specs.declared.line.StepLine.TheVariants.{Handle, Commute, Swap, Delete, Insert}
use Rattle.trace_format.specs.TraceLines.{IsStepLine}
use Rattle.trace_check.specs.Accepted.{IsStep}
use Rattle.trace_check.specs.Checking.{are_far, are_near, have_one_sign, are_braided, are_inverse, stepped_to, commuted, braided, deleted, stepped}
use Rattle.trace_check.specs.declared.checked.Why.TheVariants.{Step, Long}
use Rattle.trace_check.proofs.KeepLemmas.{IsHandle-is_handle_within, is_handle_within-IsHandle}

-- ---- Tests of letters ----

-- letters that pass the test are far
pub are_far-true : (x y : Letter) → are_far x y ≡ true → AreFar x y
are_far-true x y pass = elim (or_cases (ltb (x.index + 1) y.index) (ltb (y.index + 1) x.index) pass) [
  | inl up ↦ (let up = ltb-true (x.index + 1) y.index up in inl (omega arith))
  | inr down ↦ (let down = ltb-true (y.index + 1) x.index down in inr (omega arith))
]

-- far letters pass it
pub are_far-from : (x y : Letter) → AreFar x y → are_far x y ≡ true
are_far-from x y (inl up) =
    or_left (ltb (x.index + 1) y.index) (ltb (y.index + 1) x.index) (lt-ltb _ _ (omega arith))
are_far-from x y (inr down) =
    or_right (ltb (x.index + 1) y.index) (ltb (y.index + 1) x.index) (lt-ltb _ _ (omega arith))

-- the same of letters whose indices differ by 1
are_near-true : (x y : Letter) → are_near x y ≡ true → AreNear x.index y.index
are_near-true x y pass = elim (or_cases (y.index == x.index + 1) (x.index == y.index + 1) pass) [
  | inl up ↦ inl (eqb-true y.index (x.index + 1) up)
  | inr down ↦ inr (eqb-true x.index (y.index + 1) down)
]

are_near-from : (x y : Letter) → AreNear x.index y.index → are_near x y ≡ true
are_near-from x y (inl up) =
    or_left (y.index == x.index + 1) (x.index == y.index + 1) (eq-eqb y.index (x.index + 1) up)
are_near-from x y (inr down) =
    or_right (y.index == x.index + 1) (x.index == y.index + 1) (eq-eqb x.index (y.index + 1) down)

-- Three letters are a side of a braid relation.
record AreBraided (x y z : Letter) : Type 0 where
  near : AreNear x.index y.index
  second : y ≡ letter y.index x.negative
  third : z ≡ x

-- letters that pass the test are
are_braided-true : (x y z : Letter) → are_braided x y z ≡ true → AreBraided x y z
are_braided-true x y z pass =
    let (signs, near) =
    and_parts ((z.index == x.index) && have_one_sign x y && have_one_sign x z) (are_near x y) pass in
    let (firsts, last) = and_parts ((z.index == x.index) && have_one_sign x y) (have_one_sign x z) signs in
    let (index, next) = and_parts (z.index == x.index) (have_one_sign x y) firsts in
    let one : y.negative ≡ x.negative = (booleans_Decides y.negative x.negative).0 next in
    let two : z.negative ≡ x.negative = (booleans_Decides z.negative x.negative).0 last in
    record {
      near = are_near-true x y near;
      second = ap (letter y.index) one;
      third = ap₂ letter (eqb-true z.index x.index index) two;
    }

-- a side of a braid relation passes it
are_braided-from
    : (i j : ℕ) (e : Bool)
    → AreNear i j
    → are_braided (letter i e) (letter j e) (letter i e) ≡ true
are_braided-from i j e near =
    let sign : beq e e ≡ true = (booleans_Decides e e).1 refl in
    let index : (i == i) ≡ true = eq-eqb i i refl in
    and_from _ _ (and_from _ _ (and_from _ _ index sign) sign)
    (are_near-from (letter i e) (letter j e) near)

-- a sign that isn't another is the opposite
beq-false : (a b : Bool) → not (beq a b) ≡ true → a ≡ not b
beq-false true true pass = cc
beq-false true false pass = refl
beq-false false true pass = refl
beq-false false false pass = cc

beq-not : (b : Bool) → not (beq (not b) b) ≡ true
beq-not true = refl
beq-not false = refl

-- letters that pass the test are inverse to each other
pub are_inverse-true : (x y : Letter) → are_inverse x y ≡ true → y ≡ opposite x
are_inverse-true x y pass =
    let (index, sign) = and_parts (y.index == x.index) (not (have_one_sign x y)) pass in
    ap₂ letter (eqb-true y.index x.index index) (beq-false y.negative x.negative sign)

-- letters inverse to each other pass it
pub are_inverse-from : (x : Letter) → are_inverse x (opposite x) ≡ true
are_inverse-from x = and_from _ _ (eq-eqb x.index x.index refl) (beq-not x.negative)

-- ---- The new word ----

-- a new word that is given isn't too long
stepped_to-Ok
    : (w v : List Letter)
    → stepped_to w ≡ Ok v
    → (v ≡ w) × (length v ≤ MAX_LETTERS)
stepped_to-Ok w v is = go (ltb MAX_LETTERS (length w)) refl is
  where
    go
        : (long : Bool)
        → ltb MAX_LETTERS (length w) ≡ long
        → cond long (Err Long) (Ok w) ≡ Ok v
        → (v ≡ w) × (length v ≤ MAX_LETTERS)
    go true test is = absurd (cc)
    go false test is =
        let same : w ≡ v = Ok-injective w v is in
        (sym same, omega (arith, ltb-false _ _ test, ap length same))

-- a new word that isn't too long is given
stepped_to-short
    : (w v : List Letter)
    → v ≡ w
    → length v ≤ MAX_LETTERS
    → stepped_to w ≡ Ok v
stepped_to-short w v same short =
    let few : length w ≤ MAX_LETTERS = omega (arith, short, ap length same) in
    rw (le-ltb _ _ few) (ap (λ z. Ok z) (sym same))

-- ---- Words cut at a place ----

-- A word is cut before a place, counted from 1.
record IsCut (w : List Letter) (p : ℕ) (front behind : List Letter) : Type 0 where
  place : length front + 1 ≡ p
  is : w ≡ front ++ behind

-- where letters stand from a place on it is cut there
IsCut-take
    : (w : List Letter) (p : ℕ)
    → 1 ≤ p
    → p - 1 ≤ length w
    → IsCut w p (take (p - 1) w) (drop (p - 1) w)
IsCut-take w p low within = record {
  place = let size = length-take (p - 1) w in omega arith;
  is = sym (take-append-drop (p - 1) w);
}

-- so it is where some are there
IsCut-some
    : (w : List Letter) (p : ℕ) (x : Letter) (behind : List Letter)
    → 1 ≤ p
    → drop (p - 1) w ≡ x ∷ behind
    → IsCut w p (take (p - 1) w) (x ∷ behind)
IsCut-some w p x behind low is =
    let size : length (drop (p - 1) w) ≡ length w - (p - 1) = length-drop (p - 1) w in
    let some : length (drop (p - 1) w) ≡ suc (length behind) = ap length is in
    subst (IsCut w p (take (p - 1) w)) is (IsCut-take w p low (omega arith))

-- the two parts of a word that is cut
cut_parts
    : {A : Type 0} (f : List Letter → List Letter → A) (w : List Letter) (p : ℕ)
    → (front behind : List Letter)
    → length front + 1 ≡ p
    → w ≡ front ++ behind
    → f (take (p - 1) w) (drop (p - 1) w) ≡ f front behind
cut_parts f w p front behind place is =
    let at : p - 1 ≡ length front = omega arith in
    rw (at, is) (ap₂ f (take-append_seam front behind) (drop-append_seam front behind))

-- ---- A step that is made ----

-- A step leads to a word that isn't too long.
abbrev Leads : List Letter → StepLine → List Letter → Type 0
Leads w step v = IsStep w step v × (length v ≤ MAX_LETTERS)

-- a commutation that is made
commuted-is
    : (w : List Letter) (p : ℕ) (behind v : List Letter)
    → 1 ≤ p
    → drop (p - 1) w ≡ behind
    → commuted (take (p - 1) w) behind ≡ Ok v
    → Leads w (Commute p) v
commuted-is w p [] v low cut is = absurd (cc)
commuted-is w p (x ∷ []) v low cut is = absurd (cc)
commuted-is w p (x ∷ (y ∷ back)) v low cut is =
    let (far, to) = Ok-cond _ _ _ _ is in
    let (same, short) = stepped_to-Ok _ v to in
    let parts = IsCut-some w p x (y ∷ back) low cut in (
      record {
        front = take (p - 1) w;
        x = x;
        y = y;
        back = back;
        place = parts.place;
        far = are_far-true x y far;
        before = parts.is;
        after = same;
      },
      short,
    )

-- a braid move that is made
braided-is
    : (w : List Letter) (p : ℕ) (behind v : List Letter)
    → 1 ≤ p
    → drop (p - 1) w ≡ behind
    → braided (take (p - 1) w) behind ≡ Ok v
    → Leads w (Swap p) v
braided-is w p [] v low cut is = absurd (cc)
braided-is w p (x ∷ []) v low cut is = absurd (cc)
braided-is w p (x ∷ (y ∷ [])) v low cut is = absurd (cc)
braided-is w p (x ∷ (y ∷ (z ∷ back))) v low cut is =
    let (test, to) = Ok-cond _ _ _ _ is in
    let (same, short) = stepped_to-Ok _ v to in
    let side = are_braided-true x y z test in
    let parts = IsCut-some w p x (y ∷ (z ∷ back)) low cut in (
      record {
        front = take (p - 1) w;
        i = x.index;
        j = y.index;
        negative = x.negative;
        back = back;
        place = parts.place;
        near = side.near;
        before = parts.is
            ∙ ap₂ (λ y z. take (p - 1) w ++ (x ∷ y ∷ z ∷ back)) side.second side.third;
        after = same
            ∙ ap (λ y. take (p - 1) w ++ (y ∷ x ∷ y ∷ back)) side.second;
      },
      short,
    )

-- a deletion that is made
deleted-is
    : (w : List Letter) (p : ℕ) (behind v : List Letter)
    → 1 ≤ p
    → drop (p - 1) w ≡ behind
    → deleted (take (p - 1) w) behind ≡ Ok v
    → Leads w (Delete p) v
deleted-is w p [] v low cut is = absurd (cc)
deleted-is w p (x ∷ []) v low cut is = absurd (cc)
deleted-is w p (x ∷ (y ∷ back)) v low cut is =
    let (test, to) = Ok-cond _ _ _ _ is in
    let (same, short) = stepped_to-Ok _ v to in
    let parts = IsCut-some w p x (y ∷ back) low cut in (
      (
        x,
        record {
          front = take (p - 1) w;
          back = back;
          place = parts.place;
          before = same;
          after = parts.is
              ∙ ap (λ y. take (p - 1) w ++ (x ∷ y ∷ back)) (are_inverse-true x y test);
        },
      ),
      short,
    )

-- a step that is made leads to its word
pub stepped-IsStep
    : (w : List Letter) (step : StepLine) (v : List Letter)
    → IsStepLine step
    → stepped w step ≡ Ok v
    → IsStep w step v × (length v ≤ MAX_LETTERS)
stepped-IsStep w (Handle p q) v bounds is =
    let (test, to) = Ok-cond _ _ _ _ is in
    let (same, short) = stepped_to-Ok (reduct w (p - 1) (q - 1)) v to in
    ((bounds.0.0, IsHandle-is_handle_within w (p - 1) (q - 1) test, same), short)
stepped-IsStep w (Commute p) v bounds is = commuted-is w p _ v bounds.0 refl is
stepped-IsStep w (Swap p) v bounds is = braided-is w p _ v bounds.0 refl is
stepped-IsStep w (Delete p) v bounds is = deleted-is w p _ v bounds.0 refl is
stepped-IsStep w (Insert p x) v bounds is =
    let word = take (p - 1) w ++ (x ∷ opposite x ∷ drop (p - 1) w) in
    let (test, to) = Ok-cond_not (ltb (length w) (p - 1)) Step (stepped_to word) v is in
    let (same, short) = stepped_to-Ok word v to in
    let within = ltb-false (length w) (p - 1) test in
    let parts = IsCut-take w p bounds.0.0 (omega (arith, within)) in (
      record {
        front = take (p - 1) w;
        back = drop (p - 1) w;
        place = parts.place;
        before = parts.is;
        after = same;
      },
      short,
    )

-- ---- A step that applies ----

-- a step that leads to a word is made
pub IsStep-stepped
    : (w : List Letter) (step : StepLine) (v : List Letter)
    → IsStep w step v
    → length v ≤ MAX_LETTERS
    → stepped w step ≡ Ok v
IsStep-stepped w (Handle p q) v (first, handle, is) short =
    rw (is_handle_within-IsHandle w (p - 1) (q - 1) handle) (stepped_to-short _ v is short)
IsStep-stepped w (Commute p) v step short =
    cut_parts commuted w p step.front (step.x ∷ step.y ∷ step.back) step.place step.before
    ∙ rw (are_far-from step.x step.y step.far) (stepped_to-short _ v step.after short)
IsStep-stepped w (Swap p) v step short =
    let x = letter step.i step.negative in
    let y = letter step.j step.negative in
    cut_parts braided w p step.front (x ∷ y ∷ x ∷ step.back) step.place step.before
    ∙ rw (are_braided-from step.i step.j step.negative step.near) (stepped_to-short _ v step.after short)
IsStep-stepped w (Delete p) v (x, step) short =
    cut_parts deleted w p step.front (x ∷ opposite x ∷ step.back) step.place step.after
    ∙ rw (are_inverse-from x) (stepped_to-short _ v step.before short)
IsStep-stepped w (Insert p x) v step short =
    let size : length w ≡ length step.front + length step.back
    = ap length step.before ∙ length-append step.front step.back in
    let within : p - 1 ≤ length w = omega (arith, step.place) in
    rw (le-ltb _ _ within)
    (cut_parts (λ front back. stepped_to (front ++ (x ∷ opposite x ∷ back))) w p
    step.front step.back step.place step.before
    ∙ stepped_to-short _ v step.after short)
