-- Laws of the word that steps change, in its buffer.
--
-- Words that agree letter by letter are one (`agreeing_words`), at the front of a word (`agreeing_front`) and
-- as u v^-1 (`slice_get-right`). So the tests of letters are those of words (`front-tested`,
-- `is_split-tested`).
use Rattle.std.proofs.Common.{◌≡◌, ℕ, ◌+◌, ◌-◌, ◌<◌, ◌≤◌, ◌==◌, Bool, false, List, [], ◌∷◌, ◌++◌, length, length-append, take, drop, get_or, slice_get, Some, None, Err, refl, sym, ap, ◌∙◌, subst, arith}
use Rattle.std.specs.Bool.{Decides}
use Rattle.std.specs.Option.{unwrap_or}
use Rattle.std.proofs.lemmas.Bool.Decides.{same_from_decides}
use Rattle.std.proofs.lemmas.Bool.{ne_eqb}
use Rattle.std.proofs.lemmas.List.{same_lists, length-take, length-drop, get_or-take, get_or-append-add}
use Rattle.std.proofs.lemmas.Option.{unwrap_or-slice_get, slice_get_read, get_or_from_slice_get}
use Rattle.braid_word.specs.Words.{Letter, opposite, inverse, first_negative}
use Rattle.braid_word.proofs.WordLemmas.{length-inverse}
use Rattle.word_reverse.specs.Corners.{begins_with_corner}
use Rattle.word_reverse.specs.Fractions.{positive_front}
use Rattle.word_reverse.specs.Checking.{word_eq, is_split, stepped}
use Rattle.word_reverse.specs.declared.fraction.ReverseWhy.TheVariants.{Step}
use Rattle.word_reverse.proofs.FractionLemmas.{slice_get-inverse, cut_front}
use Rattle.word_reverse.proofs.StepLaws.{Decides-word_eq}

-- ---- Steps ----

-- a word that ends before a step's second letter has no corner there
begins-short : (w : List Letter) → length w ≤ 1 → begins_with_corner w ≡ false
begins-short [] short = refl
begins-short (x ∷ []) short = refl
begins-short (x ∷ (y ∷ w)) short = absurd (omega (arith, short))

-- so a step at the last letter or behind it turns none
pub stepped-past : (w : List Letter) (p : ℕ) → 1 ≤ p → length w ≤ p → stepped w p ≡ Err Step
stepped-past w p low past =
    let rest = length-drop (p - 1) w in
    rw (begins-short (drop (p - 1) w) (omega (arith, rest, low, past))) refl

-- ---- Words that agree ----

-- words of one length that agree at each place are one
pub agreeing_words
    : (u v : List Letter)
    → length u ≡ length v
    → ((k : ℕ) → k < length u → slice_get v k ≡ slice_get u k)
    → u ≡ v
agreeing_words u v size same = same_lists u v size (λ k d below.
    sym (unwrap_or-slice_get u k d) ∙ ap (λ o. unwrap_or o d) (sym (same k below))
    ∙ unwrap_or-slice_get v k d)

-- the first letters of a word that are those of another, one by one, are that
pub agreeing_front
    : (u w : List Letter)
    → length u ≤ length w
    → ((k : ℕ) → k < length u → slice_get w k ≡ slice_get u k)
    → u ≡ take (length u) w
agreeing_front u w within same =
    same_lists u (take (length u) w) (omega (arith, within, length-take (length u) w)) (λ k d below.
    sym (unwrap_or-slice_get u k d) ∙ ap (λ o. unwrap_or o d) (sym (same k below))
    ∙ unwrap_or-slice_get w k d ∙ sym (get_or-take (length u) w k d below))

-- the test of a positive front, by that of as many letters in front
pub front-tested
    : (u v w : List Letter) (n : ℕ) (t : Bool)
    → w ≡ v
    → n ≡ length (positive_front w)
    → n ≡ length u
    → Decides t (u ≡ take (length u) w)
    → t ≡ word_eq u (positive_front v)
front-tested u v w n t view size same decides =
    let front : Decides t (u ≡ positive_front w)
    = subst (λ z. Decides t (u ≡ z)) (cut_front w (length u) (sym same ∙ size)) decides in
    let test = Decides-word_eq u (positive_front w) in
    rw (← view) (same_from_decides t (word_eq u (positive_front w)) front test)

-- a word of another length is no positive front
pub front-other
    : (u v w : List Letter) (n : ℕ)
    → w ≡ v
    → n ≡ length (positive_front w)
    → (n ≡ length u → ⊥)
    → (n == length u) ≡ word_eq u (positive_front v)
front-other u v w n view size other =
    let none : Decides false (u ≡ positive_front w)
    = (λ no. absurd cc, λ same. absurd (other (size ∙ sym (ap length same)))) in
    let test = Decides-word_eq u (positive_front w) in
    ne_eqb n (length u) other
    ∙ rw (← view) (same_from_decides false (word_eq u (positive_front w)) none test)

-- ---- Fractions ----

-- a letter of u v^-1 behind u
pub slice_get-right
    : (u v : List Letter) (k : ℕ) (x y : Letter)
    → length u ≤ k
    → k < length u + length v
    → y ≡ get_or v (length u + length v - 1 - k) y
    → x ≡ opposite y
    → slice_get (u ++ inverse v) k ≡ Some x
slice_get-right u v k x y low high is turned =
    let size = length-inverse v in
    let n : ℕ = k - length u in
    let place : k ≡ length u + n = omega arith in
    let other : length v - 1 - n ≡ length u + length v - 1 - k = omega (arith, low) in
    let read : get_or v (length v - 1 - n) y ≡ y = ap (λ i. get_or v i y) other ∙ sym is in
    let there = slice_get-inverse v n y (omega (arith, low, high)) read in
    let here : x ≡ get_or (u ++ inverse v) k x
    = turned ∙ sym (get_or_from_slice_get (inverse v) n (opposite y) x there)
    ∙ sym (get_or-append-add u (inverse v) n x)
    ∙ ap (λ m. get_or (u ++ inverse v) m x) (sym place) in
    slice_get_read (u ++ inverse v) (length (u ++ inverse v)) k x refl
    (omega (arith, high, size, length-append u (inverse v))) here

-- the test of a fraction, where no letter of v is inverse
pub is_split-tested
    : (w u v z : List Letter) (t : Bool)
    → z ≡ w
    → first_negative v ≡ None
    → Decides t (z ≡ u ++ inverse v)
    → t ≡ is_split w u v
is_split-tested w u v z t view none decides =
    let test = Decides-word_eq z (u ++ inverse v) in
    rw (← view, none) (same_from_decides t (word_eq z (u ++ inverse v)) decides test)
