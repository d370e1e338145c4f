-- Laws of the words that stand in a braid of a term: shifted several times, inverted or not.
--
-- A product's word is placed by placing those of its parts, in four pieces: forward (`placed-forward`), and
-- in
-- the other order where it is inverted (`placed-inverted`).
use Rattle.std.proofs.Common.{ℕ, ◌≡◌, ◌+◌, zero, suc, Bool, true, false, List, [], ◌∷◌, ◌++◌, refl, ap, ◌∙◌, append_assoc, append-nil, ◌≤◌, Result, OnOk, arith}
use Rattle.std.proofs.lemmas.Result.{on_ok_weaker}
use Rattle.std.proofs.Math.Nat.{le-max_left, le-max_right}
use Rattle.braid_word.specs.Words.{Letter, letter, inverse, shift}
use Rattle.braid_word.proofs.WordLemmas.{inverse-append, inverse-inverse}
use Rattle.braid_word.proofs.ShiftLemmas.{shift-append, shift-inverse}
use Rattle.ld_term.specs.Terms.{Term, variable, multiply, height}
use Rattle.shift_braid.specs.Bracket.{bracket}
use Rattle.term_eval.specs.Braids.{braid, shift_by, placed}

-- ---- Shifting several times ----

-- shifting a product shifts its two parts
shift_by-append : (k : ℕ) (u v : List Letter) → shift_by k (u ++ v) ≡ shift_by k u ++ shift_by k v
shift_by-append zero u v = refl
shift_by-append (suc k) u v = ap shift (shift_by-append k u v) ∙ shift-append (shift_by k u) (shift_by k v)

-- shifting an inverse inverts the shifted word
shift_by-inverse : (k : ℕ) (u : List Letter) → shift_by k (inverse u) ≡ inverse (shift_by k u)
shift_by-inverse zero u = refl
shift_by-inverse (suc k) u = ap shift (shift_by-inverse k u) ∙ shift-inverse (shift_by k u)

-- a shifted word is shifted once more
shift_by-shift : (k : ℕ) (u : List Letter) → shift_by k (shift u) ≡ shift_by (k + 1) u
shift_by-shift zero u = refl
shift_by-shift (suc k) u = let e : suc k + 1 ≡ suc (k + 1) = omega arith in
    rw e (ap shift (shift_by-shift k u))

-- the generator of index 1
shift_by-one : (k : ℕ) (e : Bool) → shift_by k (letter 1 e ∷ []) ≡ letter (k + 1) e ∷ []
shift_by-one zero e = refl
shift_by-one (suc k) e = let i : suc k + 1 ≡ k + 1 + 1 = omega arith in rw i (ap shift (shift_by-one k e))

-- a bracket
shift_by-bracket
    : (k : ℕ) (a b : List Letter)
    → shift_by k (bracket a b)
    ≡ shift_by k a ++ (shift_by (k + 1) b ++ (letter (k + 1) false ∷ inverse (shift_by (k + 1) a)))
shift_by-bracket k a b =
    rw (
      shift_by-append k a (shift b ++ (letter 1 false ∷ inverse (shift a))),
      shift_by-append k (shift b)
          (letter 1 false ∷ inverse (shift a)),
      shift_by-append k (letter 1 false ∷ [])
          (inverse (shift a)),
      shift_by-one k false,
      shift_by-inverse k
          (shift a),
      shift_by-shift k a,
      shift_by-shift k b,
    ) refl

-- ---- The pieces of a term ----

-- the empty word, shifted several times
shift_by-nil : (k : ℕ) → shift_by k [] ≡ []
shift_by-nil zero = refl
shift_by-nil (suc k) = ap shift (shift_by-nil k)

-- the variable's word
placed-variable : (k : ℕ) (negative : Bool) → placed k negative (braid variable) ≡ []
placed-variable k false = shift_by-nil k
placed-variable k true = ap inverse (shift_by-nil k)

-- a product's word, shifted
pub placed-forward
    : (k : ℕ) (t u : Term)
    → placed k false (braid (multiply t u))
    ≡ ((placed k false (braid t) ++ placed (k + 1) false (braid u)) ++ (letter (k + 1) false ∷ []))
    ++ placed (k + 1) true (braid t)
placed-forward k t u = shift_by-bracket k (braid t) (braid u) ∙ simp append_assoc

-- a product's word, shifted and inverted
pub placed-inverted
    : (k : ℕ) (t u : Term)
    → placed k true (braid (multiply t u))
    ≡ ((placed (k + 1) false (braid t) ++ (letter (k + 1) true ∷ [])) ++ placed (k + 1) true (braid u))
    ++ placed k true (braid t)
placed-inverted k t u =
    ap inverse (shift_by-bracket k (braid t) (braid u)) ∙ simp (inverse-append, inverse-inverse, append_assoc)

-- ---- Writing the pieces one after another ----

-- the parts of a product that is low enough, shifted, are low enough, shifted once more
pub parts_low
    : (k most : ℕ) (s t u : Term)
    → s ≡ multiply t u
    → height s + k ≤ most
    → (height t + (k + 1) ≤ most) × (height u + (k + 1) ≤ most)
parts_low k most s t u is low =
    omega (arith, ap height is, le-max_left (height t) (height u), le-max_right (height t) (height u))

-- the four pieces of a product's word, where the last one is written unless memory runs out
pub pieces-forward
    : {T E : Type 0} (result : Result T E) (k : ℕ) (negative : Bool) (s t u : Term)
    (before one two three four : List Letter) (x : Letter)
    → negative ≡ false
    → s ≡ multiply t u
    → one ≡ before ++ placed k false (braid t)
    → two ≡ one ++ placed (k + 1) false (braid u)
    → x ≡ letter (k + 1) false
    → three ≡ two ++ (x ∷ [])
    → OnOk result (four ≡ three ++ placed (k + 1) true (braid t))
    → OnOk result (four ≡ before ++ placed k negative (braid s))
pieces-forward result k negative s t u before one two three four x sign is first second one_letter third
    last =
    on_ok_weaker result whole last
  where
    whole : four ≡ three ++ placed (k + 1) true (braid t) → four ≡ before ++ placed k negative (braid s)
    whole fourth = rw (fourth, third, second, first, one_letter, sign, is, placed-forward k t u)
        (simp append_assoc)

-- the four pieces of its inverse
pub pieces-inverted
    : {T E : Type 0} (result : Result T E) (k : ℕ) (negative : Bool) (s t u : Term)
    (before one two three four : List Letter) (x : Letter)
    → negative ≡ true
    → s ≡ multiply t u
    → one ≡ before ++ placed (k + 1) false (braid t)
    → x ≡ letter (k + 1) true
    → two ≡ one ++ (x ∷ [])
    → three ≡ two ++ placed (k + 1) true (braid u)
    → OnOk result (four ≡ three ++ placed k true (braid t))
    → OnOk result (four ≡ before ++ placed k negative (braid s))
pieces-inverted result k negative s t u before one two three four x sign is first one_letter second third
    last =
    on_ok_weaker result whole last
  where
    whole : four ≡ three ++ placed k true (braid t) → four ≡ before ++ placed k negative (braid s)
    whole fourth = rw (fourth, third, second, first, one_letter, sign, is, placed-inverted k t u)
        (simp append_assoc)

-- the variable has no letters
pub pieces-variable
    : (k : ℕ) (negative : Bool) (s : Term) (before : List Letter)
    → s ≡ variable
    → before ≡ before ++ placed k negative (braid s)
pieces-variable k negative s before is = rw (is, placed-variable k negative, append-nil before) refl
