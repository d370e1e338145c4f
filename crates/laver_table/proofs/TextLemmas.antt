-- The text of a row and of a table, taken apart as they are written.
use Rattle.std.proofs.Common.{◌≡◌, ℕ, ◌+◌, ◌-◌, ◌<◌, ◌≤◌, List, [], ◌∷◌, ◌++◌, Some, length, get_or, slice_index, drop, decimal, flat_map, refl, sym, ap, ◌∙◌, arith, length-drop}
use Rattle.std.specs.List.{slice_get}
use Rattle.std.proofs.lemmas.List.{take_rest}
use Rattle.std.proofs.lemmas.Option.{slice_get_read, slice_get-get_or}
use Rattle.std.proofs.lemmas.Grind.{get_or_default_zero, get_or_after_one}
use Rattle.wb_base.proofs.JoinLemmas.{join-first}
use Rattle.laver_table.specs.Table.{row_of, entry, IsUpTo, IsLaver}
use Rattle.laver_table.proofs.LaverLemmas.{width-laver}
use Rattle.wb_base.specs.Numbers.{spaced_number}
use Rattle.laver_table.specs.TableText.{row_line}

-- ---- A row ----

-- an entry after the first one
pub later_entry
    : (row : List ℕ) (k x : ℕ)
    → k + 1 < length row
    → x ≡ slice_index row (k + 2 - 1)
    → slice_get (drop 1 row) k ≡ Some x
later_entry row k x within is =
    let place : k + 2 - 1 ≡ 1 + k = omega arith in
    let here : x ≡ get_or row (1 + k) 0 = is ∙ ap (slice_index row) place in
    slice_get_read (drop 1 row) (length (drop 1 row)) k x refl (omega (arith, length-drop 1 row))
    (here ∙ sym (get_or_default_zero row (1 + k) x (omega arith)) ∙ sym (get_or_after_one row k x))

-- a line is its first entry, the others, each after a space, and LF
pub row_line-parts
    : (row : List ℕ) (x : ℕ)
    → 1 ≤ length row
    → x ≡ slice_index row 0
    → row_line row ≡ (decimal x ++ flat_map spaced_number (drop 1 row)) ++ 10 ∷ []
unfolding row_line
row_line-parts row x some is =
    let first : x ≡ get_or row 0 x = is ∙ sym (get_or_default_zero row 0 x some) in
    let rest = ap (λ later. decimal x ++ flat_map spaced_number later) (take_rest row 1) in
    ap (λ text. text ++ 10 ∷ []) (join-first decimal row x some first ∙ rest)

-- an entry after the first one, in a row of a Laver table
pub found_entry
    : (n : ℕ) (table : List (List ℕ)) (p k x : ℕ)
    → IsLaver n table
    → IsUpTo (length table) p
    → k + 1 < length table
    → x ≡ entry table p (k + 2)
    → slice_get (drop 1 (row_of table p)) k ≡ Some x
found_entry n table p k x laver row within is =
    later_entry (row_of table p) k x (omega (arith, width-laver n table p laver row)) is

-- a row with an entry has a first one
pub first_entry : (row : List ℕ) (x : ℕ) → x ≡ slice_index row 0 → 1 ≤ x → 1 ≤ length row
first_entry [] x is positive = absurd (omega arith)
first_entry (y ∷ row) x is positive = omega arith

-- ---- A table ----

-- a row, found at its place
pub row_at
    : (rows : List (List ℕ)) (k : ℕ)
    → k < length rows
    → slice_get rows k ≡ Some (row_of rows (k + 1))
row_at rows k within =
    let place : k + 1 - 1 ≡ k = omega arith in
    slice_get-get_or rows k [] within ∙ ap (λ i. Some (get_or rows i [])) (sym place)
