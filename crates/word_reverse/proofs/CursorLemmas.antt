-- What a cursor before which no corner stands has come to.
--
-- If the letters beside it are a corner, that is the leftmost (`AtCorner-met`), and if they aren't the letter
-- behind it can be passed (`passed-met`). To turn them is to take both out and to put what stands for them in
-- front of what is left (`turned_at_cursor-met`).
use Rattle.std.proofs.Common.{◌≡◌, ℕ, suc, ◌+◌, ◌-◌, ◌<◌, Bool, true, false, cond, ◌⊎◌, inl, inr, List, [], ◌∷◌, ◌++◌, length, length-append, get_or, slice_get, append_assoc, Some, None, refl, sym, ap, ◌∙◌, arith}
use Rattle.std.specs.Option.{option_map}
use Rattle.std.proofs.lemmas.Option.{get_or_from_slice_get}
use Rattle.std.proofs.lemmas.List.{length_push}
use Rattle.braid_word.specs.Words.{Letter}
use Rattle.gap_word.specs.Gap.{Gap}
use Rattle.word_reverse.specs.Corners.{is_corner, turned_pair, corner_of}
use Rattle.word_reverse.specs.Cursors.{whole, MeetAt, IsBetween, AtCorner, turned_at_cursor}
use Rattle.word_reverse.proofs.CornerLemmas.{corner_of-cursor, corner_of-front, turned_at-append}

-- ---- The letters beside the cursor ----

-- the last letter of a word, behind the others
last_letter
    : (xs : List Letter) (d : Letter)
    → 0 < length xs
    → (front : List Letter) × (xs ≡ front ++ (get_or xs (length xs - 1) d ∷ []))
last_letter [] d some = absurd (omega (arith, some))
last_letter (x ∷ []) d some = ([], refl)
last_letter (x ∷ (y ∷ xs)) d some =
    let (front, is) = last_letter (y ∷ xs) d (omega arith) in
    let at : length (x ∷ (y ∷ xs)) - 1 ≡ suc (length (y ∷ xs) - 1) = omega arith in
    (x ∷ front, rw at (ap (λ w. x ∷ w) is))

-- the first letter of a word, before the others
first_letter
    : (xs : List Letter) (x : Letter)
    → slice_get xs 0 ≡ Some x
    → (back : List Letter) × (xs ≡ x ∷ back)
first_letter [] x is = absurd cc
first_letter (y ∷ xs) x is = (xs, ap (λ z. z ∷ xs) (get_or_from_slice_get (y ∷ xs) 0 x y is))

-- the letters that were read beside the cursor
pub MeetAt-read
    : (g : Gap Letter) (k : ℕ) (x y : Letter)
    → k ≡ length g.left
    → 0 < k
    → slice_get g.left (k - 1) ≡ Some x
    → slice_get g.right 0 ≡ Some y
    → MeetAt g x y
MeetAt-read g k x y len some last first =
    let (front, left) = last_letter g.left x (omega (arith, len, some)) in
    let (back, right) = first_letter g.right y first in
    let same : get_or g.left (length g.left - 1) x ≡ x
    = get_or_from_slice_get g.left (length g.left - 1) x x (rw len at last) in
    record { front = front; back = back; left = rw same at left; right = right }

-- where one can't be read, it is missing
pub missing_right : (ys : List Letter) → slice_get ys 0 ≡ None → ys ≡ []
missing_right [] none = refl
missing_right (y ∷ ys) none = absurd cc

-- ---- The corner at the cursor ----

-- left and right in a row, with the letters beside the cursor between them
whole-met : (g : Gap Letter) (x y : Letter) (m : MeetAt g x y) → whole g ≡ m.front ++ (x ∷ (y ∷ m.back))
whole-met g x y m = rw (m.left, m.right) (append_assoc m.front (x ∷ []) (y ∷ m.back))

-- there are two letters beside it
pub IsBetween-met : (g : Gap Letter) (x y : Letter) → MeetAt g x y → IsBetween g
IsBetween-met g x y m =
    let before = ap length m.left ∙ length_push m.front x in
    let behind : length g.right ≡ length (y ∷ m.back) = ap length m.right in
    record { before = omega (arith, before); behind = omega (arith, behind) }

-- between two letters none is missing
pub beside : (g : Gap Letter) → IsBetween g → (g.left ≡ []) ⊎ (g.right ≡ []) → ⊥
beside g between (inl none) =
    let len : length g.left ≡ 0 = ap length none in omega (arith, between.before, len)
beside g between (inr none) =
    let len : length g.right ≡ 0 = ap length none in omega (arith, between.behind, len)

-- the place of the letter before the cursor
place-met : (g : Gap Letter) (x y : Letter) (m : MeetAt g x y) → length g.left - 1 ≡ length m.front
place-met g x y m = let len = ap length m.left ∙ length_push m.front x in omega (arith, len)

-- what is found behind letters without a corner
found-met
    : (front : List Letter) (x y : Letter) (back : List Letter)
    → corner_of (front ++ (x ∷ [])) ≡ None
    → (t : Bool)
    → is_corner x y ≡ t
    → corner_of (front ++ (x ∷ (y ∷ back)))
    ≡ option_map (λ k. length front + k) (cond t (Some 0) (option_map suc (corner_of (y ∷ back))))
found-met front x y back none t is =
    rw (← is) (corner_of-cursor front x (y ∷ back) none)

-- letters beside the cursor that are a corner are the leftmost
pub AtCorner-met
    : (g : Gap Letter) (x y : Letter)
    → MeetAt g x y
    → corner_of g.left ≡ None
    → is_corner x y ≡ true
    → AtCorner g
AtCorner-met g x y m passed is =
    let found = found-met m.front x y m.back (rw m.left at passed) true is in
    let place : length m.front + 0 ≡ length g.left - 1 = omega (arith, place-met g x y m) in
    record {
      passed = passed;
      between = IsBetween-met g x y m;
      corner = rw (whole-met g x y m, found) (ap Some place);
    }

-- if they aren't one, the letter behind the cursor is passed
passed-met
    : (g : Gap Letter) (x y : Letter)
    → MeetAt g x y
    → corner_of g.left ≡ None
    → is_corner x y ≡ false
    → corner_of (g.left ++ (y ∷ [])) ≡ None
passed-met g x y m passed is =
    let found = found-met m.front x y [] (rw m.left at passed) false is in
    rw (m.left, append_assoc m.front (x ∷ []) (y ∷ [])) found

-- the same of the first letter of right, by the test of the two that were read
pub passes-met
    : (g : Gap Letter) (x y : Letter)
    → MeetAt g x y
    → corner_of g.left ≡ None
    → (t : Bool)
    → t ≡ is_corner x y
    → t ≡ false
    → (z : Letter) (back : List Letter)
    → g.right ≡ z ∷ back
    → corner_of (g.left ++ (z ∷ [])) ≡ None
passes-met g x y m passed t is other z back right =
    let same : z ≡ y = ap (λ w. get_or w 0 y) (sym right ∙ m.right) in
    rw same (passed-met g x y m passed (sym is ∙ other))

-- where left goes on with a letter that was taken out, it has no corner
pub passed-front
    : (old left : List Letter)
    → corner_of old ≡ None
    → ((x : Letter) × (old ≡ left ++ x ∷ []))
    → corner_of left ≡ None
passed-front old left passed (x, is) = corner_of-front left (x ∷ []) (rw is at passed)

-- ---- A corner turned at the cursor ----

-- the letters beside the cursor go, and what stands for them comes
pub turned_at_cursor-met
    : (g : Gap Letter) (x y : Letter) (m : MeetAt g x y)
    → turned_at_cursor g ≡ m.front ++ (turned_pair x y ++ m.back)
turned_at_cursor-met g x y m =
    rw (whole-met g x y m, place-met g x y m) (turned_at-append m.front x y m.back)

-- how many letters there are then
pub length-turned_at_cursor
    : (g : Gap Letter) (x y : Letter)
    → MeetAt g x y
    → length (turned_at_cursor g) + 2 ≡ length g.left + length g.right + length (turned_pair x y)
length-turned_at_cursor g x y m =
    let turned = ap length (turned_at_cursor-met g x y m) in
    let parts = length-append m.front (turned_pair x y ++ m.back) in
    let pair = length-append (turned_pair x y) m.back in
    let before = ap length m.left ∙ length_push m.front x in
    let behind : length g.right ≡ length (y ∷ m.back) = ap length m.right in
    omega (arith, turned, parts, pair, before, behind)
