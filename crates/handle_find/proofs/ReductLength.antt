-- How long the reduct of a word at a handle is, and the parts that it is written in.
--
-- Each letter of the next index inside the handle adds two letters, and two are lost at its ends
-- (`length-reduct_by_count`). The three parts in a row are the reduct (`reduct-written`).
use Rattle.std.proofs.Common.{◌≡◌, ℕ, ◌+◌, ◌-◌, ◌*◌, ◌<◌, ◌≤◌, ◌==◌, Bool, cond, List, [], ◌∷◌, ◌++◌, length, get_or, take, drop, count_by, flat_map, refl, ap, ◌∙◌, inl, inr, arith, length-append, length-take, length-drop, append_assoc}
use Rattle.std.proofs.lemmas.Bool.{cases_Bool}
use Rattle.std.proofs.lemmas.List.{take_rest}
use Rattle.std.proofs.lemmas.List.Folds.{length-flat_map-take}
use Rattle.std.proofs.lemmas.List.Sums.{sum_by-cons}
use Rattle.braid_word.specs.Words.{Letter}
use Rattle.handle_find.specs.Handles.{at, IsHandle, inside, replaced, reduct}
use Rattle.handle_find.proofs.HandleLemmas.{at-read, length-inside}

-- ---- What is written for the letters inside ----

-- whether a letter is raised, as a number
abbrev raised_once : ℕ → Letter → ℕ
raised_once i x = cond (x.index == i) 1 0

-- one letter becomes one or three
length-replaced
    : (j : ℕ) (negative : Bool) (x : Letter)
    → length (replaced j negative x) ≡ 1 + 2 * raised_once (j + 1) x
length-replaced j negative x = elim (cases_Bool (x.index == j + 1)) [
  | inl raised ↦ simp raised
  | inr other ↦ simp other
]

-- how many letters have this index
abbrev pub raised_in : ℕ → List Letter → ℕ
raised_in i w = count_by (λ (y : Letter). y.index == i) w

-- each raised letter adds two
pub length-flat_map_replaced
    : (j : ℕ) (negative : Bool) (w : List Letter)
    → length (flat_map (replaced j negative) w)
    ≡ length w + 2 * raised_in (j + 1) w
length-flat_map_replaced j negative [] = refl
length-flat_map_replaced j negative (x ∷ w) =
    let head = length-replaced j negative x in
    let both = length-append (replaced j negative x) (flat_map (replaced j negative) w) in
    let count = sum_by-cons (raised_once (j + 1)) x w in
    let rest = length-flat_map_replaced j negative w in
    omega (arith, both, head, count, rest)

-- ---- The length of a reduct ----

-- what stands for the letters inside a handle that begins with this letter
abbrev pub middle_of : List Letter → ℕ → ℕ → Letter → List Letter
middle_of w p q first = flat_map (replaced first.index first.negative) (inside w p q)

-- the three parts
pub length-reduct
    : (w : List Letter) (p q : ℕ) (first : Letter)
    → IsHandle w p q
    → first ≡ get_or w p first
    → length (reduct w p q) ≡ p + (length (middle_of w p q first) + (length w - (q + 1)))
unfolding reduct
length-reduct w p q first h read =
    let ordered : p < q = h.ordered in
    let within : q < length w = h.within in
    let is : first ≡ at w p = at-read w p first read (omega arith) in
    rw is (simp (length-append, length-take, length-drop) (omega arith))

-- by the count of raised letters
pub length-reduct_by_count
    : (w : List Letter) (p q : ℕ) (first : Letter) (i n : ℕ)
    → IsHandle w p q
    → first ≡ get_or w p first
    → i ≡ first.index
    → n ≡ raised_in (i + 1) (inside w p q)
    → (length w - 2) + 2 * n ≡ length (reduct w p q)
length-reduct_by_count w p q first i n h read index count =
    let ordered : p < q = h.ordered in
    let within : q < length w = h.within in
    let parts = length-reduct w p q first h read in
    let middle = length-flat_map_replaced first.index first.negative (inside w p q) in
    let many : n ≡ raised_in (first.index + 1) (inside w p q)
    = count ∙ ap (λ k. raised_in (k + 1) (inside w p q)) index in
    let between = length-inside w p q (omega arith) in
    omega (arith, parts, middle, many, between)

-- ---- Writing ----

-- there is room for what stands for the next letter
pub room-next
    : (f : Letter → List Letter) (old into letters : List Letter) (i room capacity : ℕ) (x : Letter)
    → i < length letters
    → x ≡ get_or letters i x
    → length old + length (flat_map f letters) ≤ room
    → room ≤ capacity
    → into ≡ old ++ flat_map f (take i letters)
    → length into + length (f x) ≤ capacity
room-next f old into letters i room capacity x within read fits more is =
    let part : length (flat_map f (take i letters)) + length (f x) ≤ length (flat_map f letters)
    = rw (← read) at (length-flat_map-take f letters i x within) in
    let both = length-append old (flat_map f (take i letters)) in
    let all : length into ≡ length (old ++ flat_map f (take i letters)) = ap length is in
    omega (arith, part, both, all)

-- the three parts one after another are the reduct
pub reduct-written
    : (w : List Letter) (p q : ℕ) (first : Letter) (none front middle all : List Letter)
    → p < length w
    → first ≡ get_or w p first
    → none ≡ []
    → front ≡ none ++ take p w
    → middle ≡ front ++ middle_of w p q first
    → all ≡ middle ++ take (length w - (q + 1)) (drop (q + 1) w)
    → all ≡ reduct w p q
unfolding reduct
reduct-written w p q first none front middle all within read empty front_is middle_is all_is =
    let is : first ≡ at w p = at-read w p first read within in
    rw (all_is, middle_is, front_is, empty, is, take_rest) (simp append_assoc)
