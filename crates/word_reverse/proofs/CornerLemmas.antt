-- Laws of corners.
--
-- Where a corner stands the word begins with one from there on, so the corner that is found is the leftmost
-- (`corner_of-IsLeftmostCorner`), and none is found exactly where there is none (`corner_of-HasNoCorner`).
-- A front without a corner needs no second look (`corner_of-cursor`). A turned corner is an equivalent word
-- on the same strands (`EquivalentOn-turned`).
use Rattle.std.proofs.Common.{◌≡◌, ◌↔◌, ℕ, zero, suc, ◌+◌, ◌<◌, ◌≤◌, ◌==◌, ◌&&◌, cond, Bool, true, false, not, ◌⊎◌, inl, inr, List, [], ◌∷◌, ◌++◌, length, length-append, drop, Option, Some, None, refl, ap, subst, arith}
use Rattle.std.specs.Option.{option_map}
use Rattle.std.proofs.lemmas.Bool.{eqb-true, eqb-false, cond_both, both_ways, or_cases, or_parts, cases_lt}
use Rattle.std.proofs.Math.Seq.{take-append_seam, drop-append_seam, drop-nil}
use Rattle.braid_word.specs.Words.{Letter, letter, IsOn}
use Rattle.braid_word.specs.Equivalence.{EquivalentOn}
use Rattle.braid_word.proofs.WordLemmas.{on_left, on_right}
use Rattle.braid_word.proofs.EquivalenceLemmas.{EquivalentOn-opposite, EquivalentOn-between, EquivalentOn-solve_right}
use Rattle.braid_word.proofs.CommutingLemmas.{AreFar, AreNear, EquivalentOn-swap_far, EquivalentOn-turn}
use Rattle.word_reverse.specs.Corners.{is_corner, begins_with_corner, IsCorner, IsLeftmostCorner, HasNoCorner, are_near, turned_pair, turned_at, corner_of}

-- ---- Corners ----

-- a letter in front moves a corner on
IsCorner-cons : (x : Letter) (w : List Letter) (p : ℕ) → IsCorner w p → IsCorner (x ∷ w) (suc p)
IsCorner-cons x w p c =
    record {
      front = x ∷ c.front;
      x = c.x;
      y = c.y;
      back = c.back;
      place = omega (arith, c.place);
      first = c.first;
      second = c.second;
      is = ap (λ v. x ∷ v) c.is;
    }

-- an inverse letter and a positive one are a corner
corner_signs : (a b : Bool) → a ≡ true → b ≡ false → (a && not b) ≡ true
corner_signs true false first second = refl
corner_signs true true first second = absurd cc
corner_signs false b first second = absurd cc

signs_of_corner : (a b : Bool) → (a && not b) ≡ true → (a ≡ true) × (b ≡ false)
signs_of_corner true false both = (refl, refl)
signs_of_corner true true both = absurd cc
signs_of_corner false b both = absurd cc

-- from the place of a corner on the word begins with it
pub begins-IsCorner
    : (w : List Letter) (p : ℕ)
    → IsCorner w p
    → begins_with_corner (drop p w) ≡ true
begins-IsCorner w p c = from_parts c.front c.x c.y c.back w p c.place c.first c.second c.is
  where
    from_parts
        : (front : List Letter)
        → (x y : Letter)
        → (back : List Letter)
        → (w : List Letter)
        → (p : ℕ)
        → length front ≡ p
        → x.negative ≡ true
        → y.negative ≡ false
        → w ≡ front ++ (x ∷ y ∷ back)
        → begins_with_corner (drop p w) ≡ true
    from_parts front x y back w p place first second is =
        rw (is, ← place, drop-append_seam front (x ∷ y ∷ back))
        (corner_signs x.negative y.negative first second)

-- where it begins with one, there is a corner
pub IsCorner-begins
    : (w : List Letter) (p : ℕ)
    → begins_with_corner (drop p w) ≡ true
    → IsCorner w p
IsCorner-begins [] p begins = absurd (both_ways false refl (rw (drop-nil {A = Letter} p) at begins))
IsCorner-begins (x ∷ []) zero begins = absurd cc
IsCorner-begins (x ∷ (y ∷ w)) zero begins =
    let (first, second) = signs_of_corner x.negative y.negative begins in
    record {
      front = [];
      x = x;
      y = y;
      back = w;
      place = refl;
      first = first;
      second = second;
      is = refl;
    }
IsCorner-begins (x ∷ w) (suc p) begins = IsCorner-cons x w p (IsCorner-begins w p begins)

-- a corner and the letter behind it are in the word
pub IsCorner-within : (w : List Letter) (p : ℕ) → IsCorner w p → p + 1 < length w
IsCorner-within w p c =
    rw c.is (let count = length-append c.front (c.x ∷ c.y ∷ c.back) in omega (arith, count, c.place))

-- ---- The leftmost corner ----

-- What was found: no place at which the word begins with a corner, or the first one.
abbrev Found : List Letter → Option ℕ → Type 0
Found w None = (q : ℕ) → begins_with_corner (drop q w) ≡ false
Found w (Some p) =
    (begins_with_corner (drop p w) ≡ true) × ((q : ℕ) → q < p → begins_with_corner (drop q w) ≡ false)

-- one letter more in front, by whether the word begins with a corner there
Found-cons
    : (x : Letter) (w : List Letter) (begins : Bool) (found : Option ℕ)
    → begins_with_corner (x ∷ w) ≡ begins
    → Found w found
    → Found (x ∷ w) (cond begins (Some 0) (option_map suc found))
Found-cons x w true found here rest = (here, λ q low. absurd (omega (arith, low)))
Found-cons x w false None here rest = each_place
  where
    each_place : (q : ℕ) → begins_with_corner (drop q (x ∷ w)) ≡ false
    each_place zero = here
    each_place (suc q) = rest q
Found-cons x w false (Some p) here rest = (rest.0, each_place)
  where
    each_place : (q : ℕ) → q < suc p → begins_with_corner (drop q (x ∷ w)) ≡ false
    each_place zero low = here
    each_place (suc q) low = rest.1 q (omega (arith, low))

corner_of-Found : (w : List Letter) → Found w (corner_of w)
corner_of-Found [] = λ q. rw (drop-nil {A = Letter} q) refl
corner_of-Found (x ∷ w) =
    Found-cons x w (begins_with_corner (x ∷ w)) (corner_of w) refl (corner_of-Found w)

-- what was found is a corner, and none stands before it
pub corner_of-Some : (w : List Letter) (p : ℕ) → corner_of w ≡ Some p → IsLeftmostCorner w p
corner_of-Some w p found =
    let (here, before) = subst (Found w) found (corner_of-Found w) in
    record { corner = IsCorner-begins w p here; first = λ q c. not_before q c before }
  where
    not_before
        : (q : ℕ)
        → IsCorner w q
        → ((q : ℕ) → q < p → begins_with_corner (drop q w) ≡ false)
        → p ≤ q
    not_before q c before = elim (cases_lt q p) [
      | inl low ↦ absurd (both_ways _ (before q low) (begins-IsCorner w q c))
      | inr high ↦ high
    ]

-- where none was found there is none
pub corner_of-None : (w : List Letter) → corner_of w ≡ None → HasNoCorner w
corner_of-None w found =
    let none = subst (Found w) found (corner_of-Found w) in
    λ q c. both_ways _ (none q) (begins-IsCorner w q c)

-- one of the two is so
corner_of-either
    : (w : List Letter) (o : Option ℕ)
    → corner_of w ≡ o
    → HasNoCorner w ⊎ ((p : ℕ) × (o ≡ Some p))
corner_of-either w None found = inl (corner_of-None w found)
corner_of-either w (Some p) found = inr (p, refl)

-- the place that is found is that of the leftmost corner
pub corner_of-IsLeftmostCorner
    : (w : List Letter) (p : ℕ)
    → (corner_of w ≡ Some p) ↔ IsLeftmostCorner w p
corner_of-IsLeftmostCorner w p = (corner_of-Some w p, found)
  where
    found : IsLeftmostCorner w p → corner_of w ≡ Some p
    found leftmost = elim (corner_of-either w (corner_of w) refl) [
      | inl none ↦ absurd (none p leftmost.corner)
      | inr (q, is) ↦
          let other = corner_of-Some w q is in
          let low = leftmost.first q other.corner in
          let high = other.first p leftmost.corner in
          let same : p ≡ q = omega (arith, low, high) in
          rw same is
    ]

-- and none is found exactly where there is none
pub corner_of-HasNoCorner : (w : List Letter) → (corner_of w ≡ None) ↔ HasNoCorner w
corner_of-HasNoCorner w = (corner_of-None w, found (corner_of w) refl)
  where
    found : (o : Option ℕ) → corner_of w ≡ o → HasNoCorner w → corner_of w ≡ None
    found None is none = is
    found (Some p) is none = absurd (none p (corner_of-Some w p is).corner)

-- ---- A cursor ----

-- where nothing is found by places that are moved, nothing is
none_mapped : (f : ℕ → ℕ) (o : Option ℕ) → option_map f o ≡ None → o ≡ None
none_mapped f None is = refl
none_mapped f (Some p) is = absurd cc

-- the first two letters decide whether a word begins with a corner
begins-two
    : (z : Letter) (a : List Letter) (x : Letter) (b c : List Letter)
    → begins_with_corner (z ∷ (a ++ (x ∷ b))) ≡ begins_with_corner (z ∷ (a ++ (x ∷ c)))
begins-two z [] x b c = refl
begins-two z (y ∷ a) x b c = refl

-- a word without a corner in front of its last letter is passed: what is found stands from that letter on
pub corner_of-cursor
    : (a : List Letter) (x : Letter) (b : List Letter)
    → corner_of (a ++ (x ∷ [])) ≡ None
    → corner_of (a ++ (x ∷ b)) ≡ option_map (λ k. length a + k) (corner_of (x ∷ b))
corner_of-cursor [] x b none = from_0 (corner_of (x ∷ b))
  where
    from_0 : (o : Option ℕ) → o ≡ option_map (λ k. 0 + k) o
    from_0 None = refl
    from_0 (Some k) = ap Some (omega arith)
corner_of-cursor (z ∷ a) x b none =
    by_test (begins_with_corner (z ∷ (a ++ (x ∷ [])))) (begins-two z a x b []) none
    (corner_of-cursor a x b)
  where
    counted
        : (o : Option ℕ)
        → option_map suc (option_map (λ k. length a + k) o) ≡ option_map (λ k. length (z ∷ a) + k) o
    counted None = refl
    counted (Some k) = ap Some (omega arith)

    by_test
        : (t : Bool)
        → begins_with_corner (z ∷ (a ++ (x ∷ b))) ≡ t
        → cond t (Some 0) (option_map suc (corner_of (a ++ (x ∷ [])))) ≡ None
        → (corner_of (a ++ (x ∷ [])) ≡ None
        → corner_of (a ++ (x ∷ b)) ≡ option_map (λ k. length a + k) (corner_of (x ∷ b)))
        → corner_of (z ∷ (a ++ (x ∷ b))) ≡ option_map (λ k. length (z ∷ a) + k) (corner_of (x ∷ b))
    by_test true test here rest = absurd cc
    by_test false test here rest =
        rw (test, rest (none_mapped suc _ here)) (counted (corner_of (x ∷ b)))

-- a word without a corner has none behind its first letter
pub corner_of-tail : (x : Letter) (w : List Letter) → corner_of (x ∷ w) ≡ None → corner_of w ≡ None
corner_of-tail x w none = by_test (begins_with_corner (x ∷ w)) none
  where
    by_test
        : (t : Bool)
        → cond t (Some 0) (option_map suc (corner_of w)) ≡ None
        → corner_of w ≡ None
    by_test true here = absurd cc
    by_test false here = none_mapped suc _ here

-- a front of a word without a corner has none
pub corner_of-front : (a b : List Letter) → corner_of (a ++ b) ≡ None → corner_of a ≡ None
corner_of-front [] b none = refl
corner_of-front (x ∷ []) b none = refl
corner_of-front (x ∷ (y ∷ a)) b none =
    by_test (is_corner x y) none (corner_of-front (y ∷ a) b)
  where
    by_test
        : (t : Bool)
        → cond t (Some 0) (option_map suc (corner_of ((y ∷ a) ++ b))) ≡ None
        → (corner_of ((y ∷ a) ++ b) ≡ None → corner_of (y ∷ a) ≡ None)
        → cond t (Some 0) (option_map suc (corner_of (y ∷ a))) ≡ None
    by_test true here rest = absurd cc
    by_test false here rest = rw (rest (none_mapped suc _ here)) refl

-- ---- A corner turned ----

-- near letters have indices that differ by 1
near_letters : (x y : Letter) → are_near x y ≡ true → AreNear x.index y.index
near_letters x y near = elim (or_cases (y.index == x.index + 1) (x.index == y.index + 1) near) [
  | inl up ↦ inl (eqb-true y.index (x.index + 1) up)
  | inr down ↦ inr (eqb-true x.index (y.index + 1) down)
]

-- others have the same, or they are far
far_letters : (x y : Letter) → (x.index ≡ y.index → ⊥) → are_near x y ≡ false → AreFar x y
far_letters x y other apart =
    let (low, high) = or_parts (y.index == x.index + 1) (x.index == y.index + 1) apart in
    let up = eqb-false y.index (x.index + 1) low in
    let down = eqb-false x.index (y.index + 1) high in
    elim (cases_lt x.index y.index) [
      | inl below ↦ inl (omega (arith, below, up))
      | inr above ↦ inr (omega (arith, above, other, down))
    ]

-- what stands for a corner, by the signs of its letters
by_signs
    : (n i j : ℕ) (e d : Bool)
    → e ≡ true
    → d ≡ false
    → IsOn n (letter i e ∷ letter j d ∷ [])
    → EquivalentOn n (letter i e ∷ letter j d ∷ []) (turned_pair (letter i e) (letter j d))
by_signs n i j false d first second on = absurd cc
by_signs n i j true true first second on = absurd cc
by_signs n i j true false first second on =
    let x : Letter = letter i true in
    let y : Letter = letter j false in
    cond_both (i == j) _ _ (EquivalentOn n (x ∷ y ∷ []))
    (λ same. rw (← eqb-true i j same) (EquivalentOn-opposite n x (on.0, tt)))
    (λ other. cond_both (are_near x y) _ _ (EquivalentOn n (x ∷ y ∷ []))
    (λ near. EquivalentOn-solve_right (x ∷ y ∷ []) (letter i false ∷ [])
    (EquivalentOn-turn n i j true false (near_letters x y near) on))
    (λ apart. EquivalentOn-swap_far n x y (far_letters x y (eqb-false i j other) apart) on))

-- a corner is equivalent to what stands for it
pub EquivalentOn-turned_pair
    : (n : ℕ) (x y : Letter)
    → x.negative ≡ true
    → y.negative ≡ false
    → IsOn n (x ∷ y ∷ [])
    → EquivalentOn n (x ∷ y ∷ []) (turned_pair x y)
EquivalentOn-turned_pair n x y first second on =
    by_signs n x.index y.index x.negative y.negative first second on

-- the word turned at the first of two letters behind a front
pub turned_at-append
    : (front : List Letter) (x y : Letter) (back : List Letter)
    → turned_at (front ++ (x ∷ y ∷ back)) (length front) ≡ front ++ (turned_pair x y ++ back)
turned_at-append front x y back =
    rw (take-append_seam front (x ∷ y ∷ back), drop-append_seam front (x ∷ y ∷ back)) refl

-- a turned corner is an equivalent word, on the same strands
pub EquivalentOn-turned
    : (n : ℕ) (w : List Letter) (p : ℕ)
    → IsOn n w
    → IsCorner w p
    → EquivalentOn n w (turned_at w p)
EquivalentOn-turned n w p on c =
    from_parts c.front c.x c.y c.back w p c.place c.first c.second c.is on
  where
    from_parts
        : (front : List Letter)
        → (x y : Letter)
        → (back : List Letter)
        → (w : List Letter)
        → (p : ℕ)
        → length front ≡ p
        → x.negative ≡ true
        → y.negative ≡ false
        → w ≡ front ++ (x ∷ y ∷ back)
        → IsOn n w
        → EquivalentOn n w (turned_at w p)
    from_parts front x y back w p place first second is on =
        let all = rw is at on in
        let behind = on_right n front (x ∷ y ∷ back) all in
        rw (is, ← place, turned_at-append front x y back)
        (EquivalentOn-between front back (on_left n front (x ∷ y ∷ back) all) behind.1.1
        (EquivalentOn-turned_pair n x y first second (behind.0, (behind.1.0, tt))))
