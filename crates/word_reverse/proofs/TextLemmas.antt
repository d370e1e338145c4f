-- Laws of the text of a reverse file, by the letters that are written.
use Rattle.std.proofs.Common.{◌≡◌, ℕ, ◌+◌, ◌-◌, ◌<◌, ◌≤◌, List, [], ◌∷◌, ◌++◌, append_assoc, codes, decimal, length, take, drop, get_or, slice_get, Some, refl, ap, ◌∙◌, arith}
use Rattle.std.proofs.lemmas.Option.{slice_get-get_or, get_or_from_slice_get, slice_get_within}
use Rattle.std.proofs.lemmas.List.{length-take, length-drop, get_or-take, get_or-drop}
use Rattle.braid_word.specs.Words.{Letter, opposite, inverse}
use Rattle.braid_word.proofs.WordLemmas.{length-inverse}
use Rattle.word_reverse.specs.Fractions.{positive_front, behind_front}
use Rattle.word_reverse.specs.ReverseText.{step_line, tail_text}
use Rattle.word_reverse.specs.Written.{side_of}
use Rattle.word_reverse.specs.declared.text.Side.{Side}
use Rattle.word_reverse.specs.declared.text.Side.TheVariants.{Right}
use Rattle.word_reverse.proofs.FractionLemmas.{slice_get-inverse, cut_front, cut_behind, length-positive_front}

-- a letter before a place, in the word that is cut there
pub left_at
    : (w : List Letter) (cut k : ℕ) (x : Letter)
    → k < cut
    → slice_get w k ≡ Some x
    → slice_get (take cut w) k ≡ Some x
left_at w cut k x low is =
    let within : k < length (take cut w) = omega (arith, low, slice_get_within w k x is, length-take cut w) in
    let same = get_or-take cut w k x low ∙ get_or_from_slice_get w k x x is in
    slice_get-get_or (take cut w) k x within ∙ ap Some same

-- a letter of the inverse of those from a place on
pub right_at
    : (w : List Letter) (cut k : ℕ) (x : Letter)
    → cut + k < length w
    → slice_get w (length w - 1 - k) ≡ Some x
    → slice_get (inverse (drop cut w)) k ≡ Some (opposite x)
right_at w cut k x low is =
    let len = length-drop cut w in
    let i = length (drop cut w) - 1 - k in
    let place : cut + i ≡ length w - 1 - k = omega (arith, low, len) in
    let same : get_or (drop cut w) i x ≡ x
    = get_or-drop cut w i x ∙ ap (λ j. get_or w j x) place
    ∙ get_or_from_slice_get w (length w - 1 - k) x x is in
    slice_get-inverse (drop cut w) k x (omega (arith, low, len)) same

-- the right word has a letter for each one from its place on
pub length-right
    : (side : Side) (cut len : ℕ) (w : List Letter)
    → side ≡ Right cut
    → len ≡ length w
    → len - cut ≡ length (side_of side w)
length-right side cut len w is size =
    rw is (omega (arith, size, length-inverse (drop cut w), length-drop cut w))

pub within_right
    : (side : Side) (cut k : ℕ) (w : List Letter)
    → side ≡ Right cut
    → k < length (side_of side w)
    → cut + k < length w
within_right side cut k w is within =
    let size = length-right side cut (length w) w is refl in
    omega (arith, within, size)

-- the lines behind the steps, where a word is cut behind its positive front
pub tail_cut
    : (w : List Letter) (cut : ℕ)
    → cut ≡ length (positive_front w)
    → tail_text (take cut w) (inverse (drop cut w)) ≡ tail_text (positive_front w) (inverse (behind_front w))
tail_cut w cut is = rw (cut_front w cut is, cut_behind w cut is) refl

-- that place is in the word
pub cut_within : (w : List Letter) (cut : ℕ) → cut ≡ length (positive_front w) → cut ≤ length w
cut_within w cut is = omega (arith, is, length-positive_front w)

-- a text, to which the three pieces of a step's line were added
pub step-pushed
    : (old keyword place new : List ℕ) (p : ℕ)
    → keyword ≡ old ++ codes "r "
    → place ≡ keyword ++ decimal p
    → new ≡ place ++ codes "\n"
    → new ≡ old ++ step_line p
step-pushed old keyword place new p first second third =
    let pushed : new ≡ ((old ++ codes "r ") ++ decimal p) ++ codes "\n" =
    rw (third, second, first) refl in
    pushed
    ∙ append_assoc (old ++ codes "r ") (decimal p) (10 ∷ [])
    ∙ append_assoc old (codes "r ") (decimal p ++ (10 ∷ []))
