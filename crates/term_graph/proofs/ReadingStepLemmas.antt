-- The steps of the loop that reads a term file, line after line, and its ends.
use Rattle.std.proofs.Common.{◌≡◌, ℕ, ◌+◌, ◌<◌, ◌≤◌, ◌⊎◌, true, false, List, [], ◌∷◌, ◌++◌, length, Option, Some, None, is_some, ◌↔◌, sym, ap, ◌∙◌, subst, arith}
use Rattle.std.specs.Map.{keys_of}
use Rattle.std.proofs.lemmas.Bool.{true≢false}
use Rattle.ld_term.specs.Terms.{Term}
use Rattle.term_graph.specs.TermFiles.{Line, IsLineFault, IsTermFile, IsFileRefusal}
use Rattle.term_graph.specs.Readings.{IsReadTo, Defines, Closes}
use Rattle.term_graph.specs.declared.file_error.DefsErr.{DefsErr}
use Rattle.term_graph.specs.declared.file_error.DefsErr.TheVariants as file_errors
use Rattle.term_graph.specs.declared.term_file.Reading.{Reading}
use Rattle.term_graph.proofs.ReadingLemmas.{IsReadTo-definition, IsReadTo-closing, definition-fault, closing-fault, numbers_of, file-made}

-- ---- The steps of the loop ----

-- a line is left
pub next-some
    : (terms k : ℕ) (lines rest : List (List ℕ)) (reading : Reading) (numbers : List ℕ)
    → IsReadTo terms lines rest k reading numbers
    → k < length lines
    → rest ≡ []
    → ⊥
next-some terms k lines rest reading numbers so_far below none =
    let left = so_far.left in
    let empty : length rest ≡ 0 = ap length none in
    omega (arith, left, empty)

-- a line was read that defines a name
pub next-definition
    : (terms k d : ℕ) (lines rest more : List (List ℕ)) (bytes : List ℕ) (old new : Reading)
    (numbers : List ℕ) (r : Line)
    → IsReadTo terms lines rest k old numbers
    → rest ≡ bytes ∷ more
    → d + terms ≡ length lines
    → k < d
    → Defines (k + 1) bytes old new r
    → IsReadTo terms lines more (k + 1) new numbers
next-definition terms k d lines rest more bytes old new numbers r so_far is whole below defines =
    let left = so_far.left in
    let count : length rest ≡ length more + 1 = ap length is ∙ omega arith in
    IsReadTo-definition terms k lines more bytes old new numbers r
    (subst (λ z. IsReadTo terms lines z k old numbers) is so_far) (omega (arith, left, count)) defines

-- a line that is to define a name has a fault
pub next-definition_fault
    : (terms k d : ℕ) (lines rest more : List (List ℕ)) (bytes : List ℕ) (old : Reading) (numbers : List ℕ)
    (e : DefsErr)
    → IsReadTo terms lines rest k old numbers
    → rest ≡ bytes ∷ more
    → d + terms ≡ length lines
    → k < d
    → (e ≡ file_errors.Memory)
    ⊎ IsLineFault (k + 1) (keys_of old.names) (record { defines = true; bytes = bytes }) e
    → (e ≡ file_errors.Memory) ⊎ IsFileRefusal terms lines e
next-definition_fault terms k d lines rest more bytes old numbers e so_far is whole below fault =
    let left = so_far.left in
    let count : length rest ≡ length more + 1 = ap length is ∙ omega arith in
    definition-fault terms k lines more bytes old numbers e
    (subst (λ z. IsReadTo terms lines z k old numbers) is so_far) (omega (arith, left, count)) fault

-- a line was read that is a term
pub next-closing
    : (terms k : ℕ) (lines rest more : List (List ℕ)) (bytes : List ℕ) (old new : Reading) (numbers : List ℕ)
    (r : Line) (n : ℕ)
    → IsReadTo terms lines rest k old numbers
    → rest ≡ bytes ∷ more
    → length lines ≤ k + terms
    → Closes (k + 1) bytes old new r n
    → IsReadTo terms lines more (k + 1) new (numbers ++ (n ∷ []))
next-closing terms k lines rest more bytes old new numbers r n so_far is last closes =
    let left = so_far.left in
    let count : length rest ≡ length more + 1 = ap length is ∙ omega arith in
    IsReadTo-closing terms k lines more bytes old new numbers r n
    (subst (λ z. IsReadTo terms lines z k old numbers) is so_far) (omega (arith, left, count)) closes

-- a line that is to be a term has a fault
pub next-closing_fault
    : (terms k : ℕ) (lines rest more : List (List ℕ)) (bytes : List ℕ) (old : Reading) (numbers : List ℕ)
    (e : DefsErr)
    → IsReadTo terms lines rest k old numbers
    → rest ≡ bytes ∷ more
    → terms ≤ length lines
    → length lines ≤ k + terms
    → (e ≡ file_errors.Memory)
    ⊎ IsLineFault (k + 1) (keys_of old.names) (record { defines = false; bytes = bytes }) e
    → (e ≡ file_errors.Memory) ⊎ IsFileRefusal terms lines e
next-closing_fault terms k lines rest more bytes old numbers e so_far is enough last fault =
    let left = so_far.left in
    let count : length rest ≡ length more + 1 = ap length is ∙ omega arith in
    closing-fault terms k lines more bytes old numbers e
    (subst (λ z. IsReadTo terms lines z k old numbers) is so_far) enough (omega (arith, left, count)) fault

-- the line of the first term has a fault
pub first-fault
    : (terms k d : ℕ) (lines rest more : List (List ℕ)) (bytes : List ℕ) (old : Reading) (e : DefsErr)
    → IsReadTo terms lines rest k old []
    → rest ≡ bytes ∷ more
    → d + terms ≡ length lines
    → k ≡ d
    → (e ≡ file_errors.Memory)
    ⊎ IsLineFault (d + 1) (keys_of old.names) (record { defines = false; bytes = bytes }) e
    → (e ≡ file_errors.Memory) ⊎ IsFileRefusal terms lines e
first-fault terms k d lines rest more bytes old e so_far is whole end fault =
    next-closing_fault terms d lines rest more bytes old [] e
    (subst (λ z. IsReadTo terms lines rest z old []) end so_far) is
    (omega (arith, whole)) (omega (arith, whole)) fault

-- the first term was read
pub first-closed
    : (terms k d : ℕ) (lines rest more : List (List ℕ)) (bytes : List ℕ) (old new : Reading) (r : Line)
    (n : ℕ)
    → IsReadTo terms lines rest k old []
    → rest ≡ bytes ∷ more
    → d + terms ≡ length lines
    → k ≡ d
    → Closes (d + 1) bytes old new r n
    → IsReadTo terms lines more (d + 1) new (n ∷ [])
first-closed terms k d lines rest more bytes old new r n so_far is whole end closes =
    next-closing terms d lines rest more bytes old new [] r n
    (subst (λ z. IsReadTo terms lines rest z old []) end so_far) is
    (omega (arith, whole)) closes

-- the line of the second term has a fault
pub second-fault
    : (terms d : ℕ) (lines rest more : List (List ℕ)) (bytes : List ℕ) (old : Reading) (n : ℕ) (e : DefsErr)
    → IsReadTo terms lines rest (d + 1) old (n ∷ [])
    → rest ≡ bytes ∷ more
    → d + terms ≡ length lines
    → (e ≡ file_errors.Memory)
    ⊎ IsLineFault (d + 2) (keys_of old.names) (record { defines = false; bytes = bytes }) e
    → (e ≡ file_errors.Memory) ⊎ IsFileRefusal terms lines e
second-fault terms d lines rest more bytes old n e so_far is whole fault =
    let number : d + 2 ≡ d + 1 + 1 = omega arith in
    next-closing_fault terms (d + 1) lines rest more bytes old (n ∷ []) e so_far is (omega (arith, whole))
    (omega (arith, whole))
    (subst (λ z. (e ≡ file_errors.Memory)
    ⊎ IsLineFault z (keys_of old.names) (record { defines = false; bytes = bytes }) e) number fault)

-- so many lines were read as there are
none-left
    : (terms k : ℕ) (lines rest : List (List ℕ)) (reading : Reading) (numbers : List ℕ)
    → IsReadTo terms lines rest k reading numbers
    → length lines ≤ k
    → IsReadTo terms lines [] k reading numbers
none-left terms k lines [] reading numbers so_far all = so_far
none-left terms k lines (bytes ∷ rest) reading numbers so_far all =
    let left = so_far.left in absurd (omega (arith, left, all))

-- one term was asked for where no line is left behind the first
pub one-term
    : (terms d : ℕ) (lines rest : List (List ℕ)) (reading : Reading) (n : ℕ)
    → IsReadTo terms lines rest (d + 1) reading (n ∷ [])
    → rest ≡ []
    → d + terms ≡ length lines
    → terms ≡ 1
one-term terms d lines rest reading n so_far none whole =
    let left = so_far.left in
    let empty : length rest ≡ 0 = ap length none in
    omega (arith, left, empty, whole)

-- all lines were read
pub one-read
    : (terms d : ℕ) (lines rest : List (List ℕ)) (reading : Reading) (n : ℕ)
    → IsReadTo terms lines rest (d + 1) reading (n ∷ [])
    → rest ≡ []
    → IsReadTo terms lines [] (d + 1) reading (n ∷ [])
one-read terms d lines rest reading n so_far none =
    subst (λ z. IsReadTo terms lines z (d + 1) reading (n ∷ [])) none so_far

-- two terms were asked for where a line is left behind the first
pub two-terms
    : (terms d : ℕ) (lines rest more : List (List ℕ)) (bytes : List ℕ) (reading : Reading) (n : ℕ)
    → IsReadTo terms lines rest (d + 1) reading (n ∷ [])
    → rest ≡ bytes ∷ more
    → d + terms ≡ length lines
    → terms ≤ 2
    → terms ≡ 2
two-terms terms d lines rest more bytes reading n so_far is whole few =
    let left = so_far.left in
    let count : length rest ≡ length more + 1 = ap length is ∙ omega arith in
    omega (arith, left, count, whole, few)

-- the second term was read, and no line is left
pub second-closed
    : (terms d : ℕ) (lines rest more : List (List ℕ)) (bytes : List ℕ) (old new : Reading) (r : Line)
    (n m : ℕ)
    → IsReadTo terms lines rest (d + 1) old (n ∷ [])
    → rest ≡ bytes ∷ more
    → d + terms ≡ length lines
    → terms ≤ 2
    → Closes (d + 2) bytes old new r m
    → IsReadTo terms lines [] (d + 2) new (n ∷ (m ∷ []))
second-closed terms d lines rest more bytes old new r n m so_far is whole few closes =
    let number : d + 2 ≡ d + 1 + 1 = omega arith in
    none-left terms (d + 2) lines more new (n ∷ (m ∷ []))
    (subst (λ z. IsReadTo terms lines more z new (n ∷ (m ∷ []))) (sym number)
    (next-closing terms (d + 1) lines rest more bytes old new (n ∷ []) r m so_far is (omega (arith, whole))
    (subst (λ z. Closes z bytes old new r m) number closes)))
    (omega (arith, whole, few))

-- a file is made of what was read
pub made-finished
    : (terms k : ℕ) (lines : List (List ℕ)) (reading : Reading) (graph : List Term) (first n : ℕ)
    (second m : Option ℕ)
    → terms ≤ length lines
    → IsReadTo terms lines [] k reading (numbers_of n m)
    → (reading.limit ≡ None) × (graph ≡ reading.graph) × (first ≡ n) × (second ≡ m)
    → IsTermFile terms lines graph first second
made-finished terms k lines reading graph first n second m enough so_far
    (none, graph_is, first_is, second_is) =
    rw (graph_is, first_is, second_is) (file-made terms k lines reading n m enough so_far none)

-- whether there is a second term
pub second-none
    : (terms : ℕ) (second : Option ℕ)
    → second ≡ None
    → terms ≡ 1
    → (is_some second ≡ true) ↔ (terms ≡ 2)
second-none terms second is one =
    (λ e. absurd (true≢false (sym e ∙ ap is_some is)), λ two. absurd (omega (arith, one, two)))

pub second-some
    : (terms n : ℕ) (second : Option ℕ)
    → second ≡ Some n
    → terms ≡ 2
    → (is_some second ≡ true) ↔ (terms ≡ 2)
second-some terms n second is two = (λ e. two, λ also. ap is_some is)
