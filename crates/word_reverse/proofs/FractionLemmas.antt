-- Laws of fractions.
--
-- Behind an inverse letter of a word without a corner all letters are inverse, so such a word is a fraction
-- as it stands (`IsSplit-none`), by its positive front and the rest, and by no other words (`IsSplit-front`,
-- `IsSplit-behind`).
use Rattle.std.proofs.Common.{◌≡◌, ℕ, suc, ◌+◌, ◌-◌, ◌<◌, ◌≤◌, ◌&&◌, cond, Bool, true, false, not, List, [], ◌∷◌, ◌++◌, append-nil, length, length-append, take, drop, get_or, slice_get, reverse, Some, None, refl, sym, ap, ◌∙◌, subst, arith}
use Rattle.std.specs.Option.{option_map}
use Rattle.std.proofs.lemmas.Bool.{cond_both, cond-true}
use Rattle.std.proofs.lemmas.Option.{slice_get-get_or, slice_get-map, slice_get_within, get_or_from_slice_get}
use Rattle.std.proofs.lemmas.List.{take-append-drop, take_more, take_all, length-take-le, length-reverse, get_or-reverse}
use Rattle.std.proofs.Math.Seq.{take-append_seam, drop-append_seam, drop-cons}
use Rattle.braid_word.specs.Words.{Letter, opposite, inverse, EachLetter, IsOn, IsPositiveWord}
use Rattle.braid_word.specs.Equivalence.{EquivalentOn}
use Rattle.braid_word.proofs.WordLemmas.{each_append, each_inverse, inverse-inverse, inverse-reverse}
use Rattle.braid_word.proofs.EquivalenceLemmas.{EquivalentOn-sym}
use Rattle.word_reverse.specs.Corners.{corner_of}
use Rattle.word_reverse.specs.Fractions.{positive_front, behind_front, IsSplit, IsFraction}
use Rattle.word_reverse.proofs.CornerLemmas.{corner_of-tail}

-- ---- Inverses ----

-- a letter of the inverse of a word, counted from its end
pub slice_get-inverse
    : (w : List Letter) (k : ℕ) (x : Letter)
    → k < length w
    → get_or w (length w - 1 - k) x ≡ x
    → slice_get (inverse w) k ≡ Some (opposite x)
slice_get-inverse w k x low is =
    let within : k < length (reverse w) = omega (arith, low, length-reverse w) in
    let backwards = slice_get-get_or (reverse w) k x within ∙ ap Some (get_or-reverse w k x low ∙ is) in
    rw (inverse-reverse w, slice_get-map opposite (reverse w) k, backwards) refl

-- ---- The positive front ----

-- the two parts of a word
pub front_and_behind : (w : List Letter) → positive_front w ++ behind_front w ≡ w
front_and_behind [] = refl
front_and_behind (x ∷ w) = by_sign x.negative (front_and_behind w)
  where
    by_sign
        : (t : Bool)
        → positive_front w ++ behind_front w ≡ w
        → cond t [] (x ∷ positive_front w) ++ cond t (x ∷ w) (behind_front w) ≡ x ∷ w
    by_sign true rest = refl
    by_sign false rest = ap (λ v. x ∷ v) rest

-- the first is positive
pub front_positive : (w : List Letter) → IsPositiveWord (positive_front w)
front_positive [] = tt
front_positive (x ∷ w) =
    cond_both x.negative _ _ IsPositiveWord (λ _. tt) (λ positive. (positive, front_positive w))

-- No letter is positive.
abbrev IsNegativeWord : List Letter → Type 0
IsNegativeWord = EachLetter (λ x. x.negative ≡ true)

-- behind an inverse letter of a word without a corner all are inverse
all_negative
    : (x : Letter) (w : List Letter)
    → x.negative ≡ true
    → corner_of (x ∷ w) ≡ None
    → IsNegativeWord w
all_negative x [] first none = tt
all_negative x (y ∷ w) first none = by_signs x.negative y.negative refl first none
    (λ second. all_negative y w second (corner_of-tail x (y ∷ w) none))
  where
    by_signs
        : (a b : Bool)
        → y.negative ≡ b
        → a ≡ true
        → cond (a && not b) (Some 0) (option_map suc (corner_of (y ∷ w))) ≡ None
        → (y.negative ≡ true → IsNegativeWord w)
        → IsNegativeWord (y ∷ w)
    by_signs true true second first none rest = (second, rest second)
    by_signs true false second first none rest = absurd cc
    by_signs false b second first none rest = absurd cc

-- what stands behind the positive front of such a word is inverse
pub behind_negative : (w : List Letter) → corner_of w ≡ None → IsNegativeWord (behind_front w)
behind_negative [] none = tt
behind_negative (x ∷ w) none =
    cond_both x.negative _ _ IsNegativeWord (λ first. (first, all_negative x w first none))
    (λ _. behind_negative w (corner_of-tail x w none))

-- ---- Fractions ----

-- the inverse of inverse letters is positive
inverse_positive : (w : List Letter) → IsNegativeWord w → IsPositiveWord (inverse w)
inverse_positive = each_inverse _ _ (λ x negative. ap not negative)

-- a word without a corner is a fraction as it stands
pub IsSplit-none
    : (w : List Letter)
    → corner_of w ≡ None
    → IsSplit w (positive_front w) (inverse (behind_front w))
IsSplit-none w none =
    record {
      first = front_positive w;
      second = inverse_positive (behind_front w) (behind_negative w none);
      is = rw (inverse-inverse (behind_front w)) (sym (front_and_behind w));
    }

-- what doesn't begin with a positive letter has no positive front
behind-whole : (v : List Letter) → positive_front v ≡ [] → behind_front v ≡ v
behind-whole [] none = refl
behind-whole (x ∷ v) none = by_sign x.negative none
  where
    by_sign : (t : Bool) → cond t [] (x ∷ positive_front v) ≡ [] → cond t (x ∷ v) (behind_front v) ≡ x ∷ v
    by_sign true is = refl
    by_sign false is = absurd cc

-- a positive word before such a one is its positive front
front-append
    : (u v : List Letter)
    → IsPositiveWord u
    → positive_front v ≡ []
    → (positive_front (u ++ v) ≡ u) × (behind_front (u ++ v) ≡ v)
front-append [] v positive none = (none, behind-whole v none)
front-append (x ∷ u) v positive none = by_sign x.negative positive.0 (front-append u v positive.1 none)
  where
    by_sign
        : (t : Bool)
        → t ≡ false
        → (positive_front (u ++ v) ≡ u) × (behind_front (u ++ v) ≡ v)
        → (cond t [] (x ∷ positive_front (u ++ v)) ≡ x ∷ u)
        × (cond t (x ∷ (u ++ v)) (behind_front (u ++ v)) ≡ v)
    by_sign true is rest = absurd cc
    by_sign false is rest = (ap (λ w. x ∷ w) rest.0, rest.1)

-- an inverse letter begins no positive front
front-inverse : (x : Letter) (w : List Letter) → x.negative ≡ true → positive_front (x ∷ w) ≡ []
front-inverse x w is = cond-true x.negative [] (x ∷ positive_front w) is

-- nor does the inverse of a positive word
front-negative : (w : List Letter) → IsNegativeWord w → positive_front w ≡ []
front-negative [] negative = refl
front-negative (x ∷ w) negative = front-inverse x w negative.0

split_parts
    : (w u v : List Letter)
    → IsSplit w u v
    → (positive_front (u ++ inverse v) ≡ u) × (behind_front (u ++ inverse v) ≡ inverse v)
split_parts w u v split =
    let negative = each_inverse _ _ (λ x positive. ap not positive) v split.second in
    front-append u (inverse v) split.first (front-negative (inverse v) negative)

-- the first word of a fraction is the positive front
pub IsSplit-front : (w u v : List Letter) → IsSplit w u v → u ≡ positive_front w
IsSplit-front w u v split = rw split.is (sym (split_parts w u v split).0)

-- and the second the inverse of the rest
pub IsSplit-behind : (w u v : List Letter) → IsSplit w u v → v ≡ inverse (behind_front w)
IsSplit-behind w u v split =
    rw (split.is, (split_parts w u v split).1) (sym (inverse-inverse v))

-- the fraction of a word that represents the same braid
pub IsFraction-split
    : (w last u v : List Letter)
    → ((n : ℕ) → IsOn n w → EquivalentOn n w last)
    → IsSplit last u v
    → IsFraction w u v
IsFraction-split w last u v chain split =
    record {
      first = split.first;
      second = split.second;
      equivalent = λ n on. rw (← split.is) (EquivalentOn-sym (chain n on));
    }

-- ---- A place that cuts a word ----

-- where the positive front is cut off
pub cut_front : (w : List Letter) (k : ℕ) → k ≡ length (positive_front w) → take k w ≡ positive_front w
cut_front w k is =
    rw is (subst (λ z. take (length (positive_front w)) z ≡ positive_front w) (front_and_behind w)
    (take-append_seam (positive_front w) (behind_front w)))

-- and the rest
pub cut_behind : (w : List Letter) (k : ℕ) → k ≡ length (positive_front w) → drop k w ≡ behind_front w
cut_behind w k is =
    rw is (subst (λ z. drop (length (positive_front w)) z ≡ behind_front w) (front_and_behind w)
    (drop-append_seam (positive_front w) (behind_front w)))

-- so a word without a corner is cut into its fraction
pub IsSplit-cut
    : (w : List Letter) (k : ℕ)
    → corner_of w ≡ None
    → k ≡ length (positive_front w)
    → IsSplit w (take k w) (inverse (drop k w))
IsSplit-cut w k none is = rw (cut_front w k is, cut_behind w k is) (IsSplit-none w none)

-- that place is within the word
pub length-positive_front : (w : List Letter) → length (positive_front w) ≤ length w
length-positive_front w =
    let all = ap length (front_and_behind w) in
    omega (arith, all, length-append (positive_front w) (behind_front w))

-- ---- Counting the positive front ----

-- one more letter goes with it where that is positive
pub positive_next
    : (w : List Letter) (k : ℕ) (x : Letter)
    → slice_get w k ≡ Some x
    → x.negative ≡ false
    → IsPositiveWord (take k w)
    → IsPositiveWord (take (k + 1) w)
positive_next w k x is positive front =
    rw (take_more w k x (slice_get_within w k x is), get_or_from_slice_get w k x x is)
    (each_append _ (take k w) (x ∷ []) front (positive, tt))

-- it ends before the first inverse letter
pub length-front_here
    : (w : List Letter) (k : ℕ) (x : Letter)
    → slice_get w k ≡ Some x
    → x.negative ≡ true
    → IsPositiveWord (take k w)
    → k ≡ length (positive_front w)
length-front_here w k x is negative front =
    let within = slice_get_within w k x is in
    let behind : drop k w ≡ x ∷ drop (suc k) w
    = drop-cons w k x within ∙ ap (λ z. z ∷ drop (suc k) w) (get_or_from_slice_get w k x x is) in
    let parts = front-append (take k w) (drop k w) front
    (rw behind (front-inverse x (drop (suc k) w) negative)) in
    let whole : positive_front w ≡ take k w = rw (take-append-drop k w) at parts.0 in
    rw whole (sym (length-take-le k w (omega (arith, within))))

-- or with the word
pub length-front_whole
    : (w : List Letter) (k n : ℕ)
    → n ≡ length w
    → n ≤ k
    → IsPositiveWord (take k w)
    → n ≡ length (positive_front w)
length-front_whole w k n len past front =
    let all : IsPositiveWord w = subst IsPositiveWord (take_all k w (omega (arith, len, past))) front in
    let parts = front-append w [] all refl in
    len ∙ ap length (sym (rw (append-nil w) at parts.0))
