-- A level on top of a stack of heights, and its height.
use Rattle.std.proofs.Common.{◌≡◌, ℕ, ◌+◌, ◌==◌, ◌↔◌, Bool, true, false, IsTrue, List, [], ◌∷◌, ◌++◌, length, length-append, Option, Some, None, refl, ap, sym, ◌∙◌, true≢false, arith}
use Rattle.std.proofs.lemmas.Bool.{ne_eqb}
use Rattle.ld_term.specs.Levels.{levels_of, how_many}

-- ---- Marks ----

-- a level without a height
pub how_many-none : (marks : List Bool) → how_many (marks ++ false ∷ []) ≡ how_many marks
how_many-none [] = refl
how_many-none (false ∷ marks) = how_many-none marks
how_many-none (true ∷ marks) = let rest = how_many-none marks in omega (arith, rest)

-- a level with one
pub how_many-some : (marks : List Bool) → how_many (marks ++ true ∷ []) ≡ how_many marks + 1
how_many-some [] = refl
how_many-some (false ∷ marks) = how_many-some marks
how_many-some (true ∷ marks) = let rest = how_many-some marks in omega (arith, rest)

-- no level is open exactly where there is no mark
pub levels_of-nil : (marks : List Bool) (heights : List ℕ) → levels_of marks heights ≡ [] → marks ≡ []
levels_of-nil [] heights none = refl
levels_of-nil (false ∷ marks) heights none = absurd cc
levels_of-nil (true ∷ marks) [] none = absurd cc
levels_of-nil (true ∷ marks) (h ∷ heights) none = absurd cc

-- ---- Heights ----

-- a level without a height
pub levels_of-none
    : (marks : List Bool) (heights : List ℕ)
    → levels_of (marks ++ false ∷ []) heights ≡ levels_of marks heights ++ None ∷ []
levels_of-none [] heights = refl
levels_of-none (false ∷ marks) heights = ap (λ z. None ∷ z) (levels_of-none marks heights)
levels_of-none (true ∷ marks) [] = ap (λ z. None ∷ z) (levels_of-none marks [])
levels_of-none (true ∷ marks) (h ∷ heights) = ap (λ z. Some h ∷ z) (levels_of-none marks heights)

-- a level with one
pub levels_of-some
    : (marks : List Bool) (heights : List ℕ) (h : ℕ)
    → length heights ≡ how_many marks
    → levels_of (marks ++ true ∷ []) (heights ++ h ∷ []) ≡ levels_of marks heights ++ Some h ∷ []
levels_of-some [] [] h same = refl
levels_of-some [] (k ∷ heights) h same = absurd (omega (arith, same))
levels_of-some (false ∷ marks) heights h same = ap (λ z. None ∷ z) (levels_of-some marks heights h same)
levels_of-some (true ∷ marks) [] h same = absurd (omega (arith, same))
levels_of-some (true ∷ marks) (k ∷ heights) h same =
    ap (λ z. Some k ∷ z) (levels_of-some marks heights h (omega (arith, same)))

-- ---- The stack ----

-- whether no level is open
pub none_open
    : (marks : List Bool) (heights : List ℕ) (levels : List (Option ℕ)) (n : ℕ) (is : Bool)
    → is ≡ (n == 0)
    → n ≡ length marks
    → levels_of marks heights ≡ levels
    → IsTrue is ↔ (levels ≡ [])
none_open [] heights levels n is test len view = ((λ on. sym view), (λ none. rw (test, len) refl))
none_open (m ∷ marks) heights levels n is test len view = (
  (λ on. absurd (true≢false (sym on ∙ test ∙ ne_eqb n 0 (λ zero. absurd (omega (arith, zero, len)))))),
  (λ none. absurd (cons_nil (levels_of-nil (m ∷ marks) heights (view ∙ none)))),
)
  where
    cons_nil : m ∷ marks ≡ [] → ⊥
    cons_nil e = absurd cc

-- a level is put on top
pub put-none
    : (marks more : List Bool) (heights : List ℕ) (levels : List (Option ℕ))
    → more ≡ marks ++ false ∷ []
    → length heights ≡ how_many marks
    → levels_of marks heights ≡ levels
    → (length heights ≡ how_many more) × (levels_of more heights ≡ levels ++ None ∷ [])
put-none marks more heights levels is same view =
    (rw (is, how_many-none marks) same, rw (is, ← view) (levels_of-none marks heights))

pub put-some
    : (marks more : List Bool) (heights taller : List ℕ) (levels : List (Option ℕ)) (h : ℕ)
    → more ≡ marks ++ true ∷ []
    → taller ≡ heights ++ h ∷ []
    → length heights ≡ how_many marks
    → levels_of marks heights ≡ levels
    → (length taller ≡ how_many more) × (levels_of more taller ≡ levels ++ Some h ∷ [])
put-some marks more heights taller levels h is put same view = (
  rw (is, put) (let marked = how_many-some marks in omega (arith, same, marked, length-append heights (h ∷ []))),
  rw (is, put, ← view) (levels_of-some marks heights h same),
)

-- the topmost level is taken off
pub off-none
    : (marks less : List Bool) (heights : List ℕ) (levels : List (Option ℕ))
    → marks ≡ less ++ false ∷ []
    → length heights ≡ how_many marks
    → levels_of marks heights ≡ levels
    → (length heights ≡ how_many less) × (levels ≡ levels_of less heights ++ None ∷ [])
off-none marks less heights levels is same view = (
  rw (is, how_many-none less) at same,
  sym view ∙ rw is (levels_of-none less heights),
)

pub off-some
    : (marks less : List Bool) (heights fewer : List ℕ) (levels : List (Option ℕ)) (h : ℕ)
    → marks ≡ less ++ true ∷ []
    → heights ≡ fewer ++ h ∷ []
    → length heights ≡ how_many marks
    → levels_of marks heights ≡ levels
    → (length fewer ≡ how_many less) × (levels ≡ levels_of less fewer ++ Some h ∷ [])
off-some marks less heights fewer levels h is off same view =
    let marked = how_many-some less in
    let size = ap length off in
    let count = ap how_many is in
    let fits : length fewer ≡ how_many less =
    omega (arith, same, marked, size, count, length-append fewer (h ∷ [])) in
    (fits, sym view ∙ rw (is, off) (levels_of-some less fewer h fits))

-- a level with a height has one
pub off-never
    : (marks less : List Bool) (heights : List ℕ)
    → marks ≡ less ++ true ∷ []
    → length heights ≡ 0
    → length heights ≡ how_many marks
    → ⊥
off-never marks less heights is none same =
    let marked = how_many-some less in
    let count = ap how_many is in
    omega (arith, same, marked, none, count)
