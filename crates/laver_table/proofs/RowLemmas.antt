-- The rows of the operation of Laver tables as lists.
use Rattle.std.proofs.Common.{◌≡◌, ℕ, ◌+◌, ◌-◌, ◌<◌, inl, inr, List, [], length, get_or, All, sym, ap, ◌∙◌, subst, arith}
use Rattle.std.proofs.lemmas.Bool.{cases_eq}
use Rattle.std.proofs.lemmas.List.FromFn.{length-map-range_with_len, get_or-map-range_with_len}
use Rattle.laver_table.specs.Product.{product, product_row, product_rows}
use Rattle.laver_table.specs.Table.{row_of, entry, IsUpTo, IsSquare, ExceedsRows}
use Rattle.laver_table.proofs.ProductLemmas.{product-between, product-top}

-- ---- Lengths and reads ----

-- a row has N entries
pub length-product_row : (N p : ℕ) → length (product_row N p) ≡ N
unfolding product_row
length-product_row N p = length-map-range_with_len (product N p) 1 N

-- there are N rows
pub length-product_rows : (N : ℕ) → length (product_rows N) ≡ N
unfolding product_rows
length-product_rows N = length-map-range_with_len (product_row N) 1 N

-- an entry of a row, found at its place
pub get_or-product_row
    : (N p k d : ℕ)
    → k < N
    → get_or (product_row N p) k d ≡ product N p (k + 1)
unfolding product_row
get_or-product_row N p k d within =
    get_or-map-range_with_len (product N p) 1 N k (k + 1) d within (omega arith)

-- a row, found at its place
pub get_or-product_rows
    : (N k : ℕ) (d : List ℕ)
    → k < N
    → get_or (product_rows N) k d ≡ product_row N (k + 1)
unfolding product_rows
get_or-product_rows N k d within =
    get_or-map-range_with_len (product_row N) 1 N k (k + 1) d within (omega arith)

-- row p
pub row_of-product_rows : (N p : ℕ) → IsUpTo N p → row_of (product_rows N) p ≡ product_row N p
row_of-product_rows N p (low, high) =
    get_or-product_rows N (p - 1) [] (omega arith) ∙ ap (product_row N) (omega arith)

-- the entry in row p and column q
pub entry-product_rows
    : (N p q : ℕ)
    → IsUpTo N p
    → IsUpTo N q
    → entry (product_rows N) p q ≡ product N p q
entry-product_rows N p q row (low, high) =
    ap (λ r. get_or r (q - 1) 0) (row_of-product_rows N p row)
    ∙ get_or-product_row N p (q - 1) 0 (omega arith)
    ∙ ap (product N p) (omega arith)

-- ---- A square of numbers from 1 to N ----

-- an entry is a number from 1 to N
pub IsUpTo-product : (N p q : ℕ) → IsUpTo N p → IsUpTo N q → IsUpTo N (product N p q)
IsUpTo-product N p q (low, high) column = elim (cases_eq p N) [
  | inl top ↦
      let here = subst (IsUpTo N) (sym (product-top N q)) column in
      subst (λ row. IsUpTo N (product N row q)) (sym top) here
  | inr ne ↦
      let between = product-between N p q (omega arith) in
      (omega (arith, between.above), between.within)
]

-- the entries of a row are numbers from 1 to N
All-product_row : (N p : ℕ) → IsUpTo N p → All (IsUpTo N) (product_row N p)
All-product_row N p row k d within =
    let inside : k < N = omega (arith, length-product_row N p) in
    subst (IsUpTo N) (sym (get_or-product_row N p k d inside))
    (IsUpTo-product N p (k + 1) row (omega arith, omega arith))

-- the rows are a square of numbers from 1 to N
pub IsSquare-product_rows : (N : ℕ) → IsSquare N (product_rows N)
IsSquare-product_rows N = record {
  height = length-product_rows N;
  widths = λ k d within.
      let inside : k < N = omega (arith, length-product_rows N) in
      ap length (get_or-product_rows N k d inside) ∙ length-product_row N (k + 1);
  numbers = λ k d within.
      let inside : k < N = omega (arith, length-product_rows N) in
      subst (All (IsUpTo N)) (sym (get_or-product_rows N k d inside))
      (All-product_row N (k + 1) (omega arith, omega arith));
}

-- each entry of a row below N is above the row's number
pub ExceedsRows-product_rows : (N : ℕ) → ExceedsRows N (product_rows N)
ExceedsRows-product_rows N p q low below column =
    let between = product-between N p q below in
    omega (arith, entry-product_rows N p q (low, omega arith) column, between.above)
