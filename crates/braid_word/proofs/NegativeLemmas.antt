-- The first inverse letter of a word.
use Rattle.std.proofs.Common.{ℕ, zero, suc, ◌≡◌, ◌<◌, true, List, [], ◌∷◌, Some, None, length, take, get_or, refl, subst, arith}
use Rattle.std.specs.List.{position_or_len}
use Rattle.std.proofs.lemmas.Bool.{lt-ltb, le-ltb}
use Rattle.braid_word.specs.Words.{Letter, IsPositiveWord, first_negative}

-- a positive word has no place of one
position-positive
    : (w : List Letter)
    → IsPositiveWord w
    → position_or_len (λ (x : Letter). x.negative) w ≡ length w
position-positive [] positive = refl
position-positive (x ∷ w) positive = rw positive.0 (let rest = position-positive w positive.1 in omega arith)

-- so it has none
pub first_negative-positive : (w : List Letter) → IsPositiveWord w → first_negative w ≡ None
first_negative-positive w positive =
    rw (position-positive w positive, le-ltb (length w) (length w) (omega arith)) refl

-- an inverse letter behind a positive word
position-here
    : (k : ℕ) (w : List Letter) (d : Letter)
    → k < length w
    → IsPositiveWord (take k w)
    → (get_or w k d).negative ≡ true
    → position_or_len (λ (x : Letter). x.negative) w ≡ k
position-here k [] d within positive here = absurd (omega (arith, within))
position-here zero (x ∷ w) d within positive here = rw here refl
position-here (suc k) (x ∷ w) d within positive here =
    rw positive.0 (let rest = position-here k w d (omega (arith, within)) positive.1 here in omega arith)

-- is the first
pub first_negative-here
    : (k : ℕ) (w : List Letter) (x d : Letter)
    → k < length w
    → x ≡ get_or w k d
    → IsPositiveWord (take k w)
    → x.negative ≡ true
    → first_negative w ≡ Some k
first_negative-here k w x d within is positive here =
    let first = position-here k w d within positive (subst (λ z. z.negative ≡ true) is here) in
    rw (first, lt-ltb k (length w) within) refl
