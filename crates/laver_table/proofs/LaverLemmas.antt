-- The rows of the operation are a Laver table for N = 2^n, and they are the only one.
--
-- With r = 1 the law of distributivity is the equation p * (q + 1) = (p * q) * (p + 1), so a Laver table has
-- the equations (`IsComputed-laver`); a table that has them is equal to the operation entry by entry, from
-- row N down.
use Rattle.std.proofs.Common.{◌≡◌, ℕ, zero, suc, ◌+◌, ◌-◌, ◌^◌, ◌≤◌, inl, inr, List, [], length, get_or, refl, sym, ap, ◌∙◌, subst, arith}
use Rattle.std.proofs.lemmas.Bool.{cases_eq}
use Rattle.std.proofs.lemmas.List.{ext_get_or}
use Rattle.laver_table.specs.Product.{product, product_rows}
use Rattle.laver_table.specs.Table.{entry, IsUpTo, IsSquare, IsLaver, IsComputed, row_of, ExceedsRows}
use Rattle.laver_table.proofs.ProductLemmas.{product-between, product-top, product-one, product-suc}
use Rattle.laver_table.proofs.DoublingLemmas.{IsFull-pow}
use Rattle.laver_table.proofs.DistributiveLemmas.{product-distributes}
use Rattle.laver_table.proofs.RowLemmas.{entry-product_rows, IsUpTo-product, IsSquare-product_rows, ExceedsRows-product_rows}

-- ---- The rows of the operation ----

-- an entry of the row that another entry names
entry-entry
    : (N p q r : ℕ)
    → IsUpTo N p
    → IsUpTo N q
    → IsUpTo N r
    → entry (product_rows N) (entry (product_rows N) p q) r ≡ product N (product N p q) r
entry-entry N p q r row column last =
    ap (λ x. entry (product_rows N) x r) (entry-product_rows N p q row column)
    ∙ entry-product_rows N (product N p q) r (IsUpTo-product N p q row column) last

-- they obey the equations
pub IsComputed-product_rows : (N : ℕ) → IsComputed N (product_rows N)
IsComputed-product_rows N = record {
  square = IsSquare-product_rows N;
  last = λ q (low, high). entry-product_rows N N q (omega arith, omega arith) (low, high) ∙ product-top N q;
  first = λ p low below.
      entry-product_rows N p 1 (low, omega arith) (omega arith, omega arith)
      ∙ product-one N p below
      ∙ omega arith;
  next = λ p q low below first above.
      let column : q + 1 ≡ suc q = omega arith in
      let behind : p + 1 ≡ suc p = omega arith in
      entry-product_rows N p (q + 1) (low, omega arith) (omega arith, omega arith)
      ∙ ap (product N p) column
      ∙ product-suc N p q below
      ∙ ap (product N (product N p q)) (sym behind)
      ∙ sym (entry-entry N p q (p + 1) (low, omega arith) (first, omega arith) (omega arith, omega arith));
}

-- where N is a power of two they are a Laver table
pub IsLaver-product_rows : (n : ℕ) → IsLaver n (product_rows (2 ^ n))
IsLaver-product_rows n =
    let N = 2 ^ n in
    let full = IsFull-pow n in
    let computed = IsComputed-product_rows N in
    record {
      square = computed.square;
      distributive = λ p q r row column last.
          let inner = entry-product_rows N q r column last in
          ap (entry (product_rows N) p) inner
          ∙ entry-product_rows N p (product N q r) row (IsUpTo-product N q r column last)
          ∙ product-distributes N p q r full row.1 column.1
          ∙ sym (entry-entry N p q (product N p r) row column (IsUpTo-product N p r row last))
          ∙ ap (entry (product_rows N) (entry (product_rows N) p q))
          (sym (entry-product_rows N p r row last));
      first = computed.first;
      last = computed.last 1 (omega arith, full.positive);
    }

-- ---- The only table ----

-- row N of a table with the equations
computed-top
    : (N : ℕ) (rows : List (List ℕ)) (p q : ℕ)
    → IsComputed N rows
    → p ≡ N
    → IsUpTo N q
    → entry rows p q ≡ product N p q
computed-top N rows p q computed top column =
    ap (λ row. entry rows row q) top
    ∙ computed.last q column
    ∙ sym (product-top N q)
    ∙ ap (λ row. product N row q) (sym top)

-- a table with the equations has the entries of the operation, by the number of rows after
computed_by
    : (N : ℕ) (rows : List (List ℕ)) (k p q : ℕ)
    → IsComputed N rows
    → N ≤ p + k
    → IsUpTo N p
    → IsUpTo N (suc q)
    → entry rows p (suc q) ≡ product N p (suc q)
computed_by N rows zero p q computed enough (low, high) column =
    computed-top N rows p (suc q) computed (omega arith) column
computed_by N rows (suc k) p zero computed enough (low, high) column = elim (cases_eq p N) [
  | inl top ↦ computed-top N rows p 1 computed top column
  | inr ne ↦
      let first = computed.first p low (omega arith) in
      let product_first = product-one N p (omega arith) in
      omega (arith, first, product_first)
]
computed_by N rows (suc k) p (suc q) computed enough (low, high) (first, last) = elim (cases_eq p N) [
  | inl top ↦ computed-top N rows p (suc (suc q)) computed top (first, last)
  | inr ne ↦
      let x = product N p (suc q) in
      let between = product-between N p (suc q) (omega arith) in
      let column : suc (suc q) ≡ suc q + 1 = omega arith in
      let behind : p + 1 ≡ suc p = omega arith in
      let before : entry rows p (suc q) ≡ x
      = computed_by N rows (suc k) p q computed enough (low, high) (omega arith, omega arith) in
      let here : entry rows x (suc p) ≡ product N x (suc p)
      = computed_by N rows k x p computed (omega (arith, between.above))
      (omega (arith, between.above), between.within) (omega arith, omega arith) in
      ap (entry rows p) column
      ∙ computed.next p (suc q) low (omega arith) (omega arith) (omega arith)
      ∙ ap (λ y. entry rows y (p + 1)) before
      ∙ ap (entry rows x) behind
      ∙ here
      ∙ sym (product-suc N p (suc q) (omega arith))
]

-- a table with the equations has the entries of the operation
entry-computed
    : (N : ℕ) (rows : List (List ℕ)) (p q : ℕ)
    → IsComputed N rows
    → IsUpTo N p
    → IsUpTo N q
    → entry rows p q ≡ product N p q
entry-computed N rows p zero computed row (low, high) = absurd (omega arith)
entry-computed N rows p (suc q) computed row column =
    computed_by N rows N p q computed (omega arith) row column

-- an entry by its places, counted from 0
entry-at
    : (rows : List (List ℕ)) (k j : ℕ)
    → entry rows (k + 1) (j + 1) ≡ get_or (get_or rows k []) j 0
entry-at rows k j =
    let row : k + 1 - 1 ≡ k = omega arith in
    let column : j + 1 - 1 ≡ j = omega arith in
    rw (row, column) refl

-- two tables of N rows and columns with the same entries are one
same_tables
    : (N : ℕ) (xs ys : List (List ℕ))
    → IsSquare N xs
    → IsSquare N ys
    → ((p q : ℕ) → IsUpTo N p → IsUpTo N q → entry xs p q ≡ entry ys p q)
    → xs ≡ ys
same_tables N xs ys first second same =
    ext_get_or [] xs ys (first.height ∙ sym second.height) (λ k within.
    let width : length (get_or xs k []) ≡ N = first.widths k [] within in
    let other : length (get_or ys k []) ≡ N
    = second.widths k [] (omega (arith, first.height, second.height)) in
    ext_get_or 0 (get_or xs k []) (get_or ys k []) (width ∙ sym other) (λ j inside.
    sym (entry-at xs k j)
    ∙ same (k + 1) (j + 1) (omega arith, omega (arith, first.height)) (omega arith, omega arith)
    ∙ entry-at ys k j))

-- a table with the equations has the rows of the operation
pub IsComputed-only
    : (N : ℕ) (rows : List (List ℕ))
    → IsComputed N rows
    → rows ≡ product_rows N
IsComputed-only N rows computed =
    same_tables N rows (product_rows N) computed.square (IsSquare-product_rows N) (λ p q row column.
    entry-computed N rows p q computed row column ∙ sym (entry-product_rows N p q row column))

-- the last row of a Laver table gives each number back
last_row
    : (n : ℕ) (rows : List (List ℕ)) (q : ℕ)
    → IsLaver n rows
    → IsUpTo (2 ^ n) (suc q)
    → entry rows (2 ^ n) (suc q) ≡ suc q
last_row n rows zero laver column = laver.last
last_row n rows (suc q) laver (low, high) =
    let N = 2 ^ n in
    let column : IsUpTo N (suc q) = (omega arith, omega arith) in
    let more : entry rows (suc q) 1 ≡ suc (suc q)
    = laver.first (suc q) (omega arith) (omega arith) ∙ omega arith in
    let before : entry rows N (suc q) ≡ suc q = last_row n rows q laver column in
    let law : entry rows N (entry rows (suc q) 1) ≡ entry rows (entry rows N (suc q)) (entry rows N 1)
    = laver.distributive N (suc q) 1 (omega arith, omega arith) column (omega arith, omega arith) in
    ap (entry rows N) (sym more)
    ∙ law
    ∙ ap (λ x. entry rows x (entry rows N 1)) before
    ∙ ap (entry rows (suc q)) laver.last
    ∙ more

-- a Laver table obeys the equations
pub IsComputed-laver : (n : ℕ) (rows : List (List ℕ)) → IsLaver n rows → IsComputed (2 ^ n) rows
IsComputed-laver n rows laver =
    let N = 2 ^ n in
    record {
      square = laver.square;
      last = λ q (low, high).
          let above : suc (q - 1) ≡ q = omega arith in
          subst (λ x. entry rows N x ≡ x) above (last_row n rows (q - 1) laver (omega arith, omega arith));
      first = laver.first;
      next = λ p q low below first above.
          let law : entry rows p (entry rows q 1) ≡ entry rows (entry rows p q) (entry rows p 1)
          = laver.distributive p q 1 (low, omega arith) (first, omega arith) (omega arith, omega arith) in
          ap (entry rows p) (sym (laver.first q first above))
          ∙ law
          ∙ ap (entry rows (entry rows p q)) (laver.first p low below);
    }

-- a Laver table has the rows of the operation
pub IsLaver-only
    : (n : ℕ) (rows : List (List ℕ))
    → IsLaver n rows
    → rows ≡ product_rows (2 ^ n)
IsLaver-only n rows laver = IsComputed-only (2 ^ n) rows (IsComputed-laver n rows laver)

-- ---- What callers see ----

-- the size of a Laver table is its number of rows
pub length-laver : (n : ℕ) (rows : List (List ℕ)) → IsLaver n rows → length rows ≡ 2 ^ n
length-laver n rows laver = let square = laver.square in square.height

-- each row has as many entries as there are rows
pub width-laver
    : (n : ℕ) (rows : List (List ℕ)) (p : ℕ)
    → IsLaver n rows
    → IsUpTo (length rows) p
    → length (row_of rows p) ≡ length rows
width-laver n rows p laver row =
    let square = laver.square in
    square.widths (p - 1) [] (omega (arith, row.0, row.1)) ∙ sym square.height

-- each entry is the number of a row
pub IsUpTo-entry
    : (n : ℕ) (rows : List (List ℕ)) (p q : ℕ)
    → IsLaver n rows
    → IsUpTo (length rows) p
    → IsUpTo (length rows) q
    → IsUpTo (length rows) (entry rows p q)
IsUpTo-entry n rows p q laver row column =
    let square = laver.square in
    let width = width-laver n rows p laver row in
    let number = square.numbers (p - 1) [] (omega (arith, row.0, row.1)) (q - 1) 0
    (omega (arith, column.0, column.1, width)) in
    subst (λ N. IsUpTo N (entry rows p q)) (sym square.height) number

-- each row has 2^n in its last column
pub full-laver
    : (n : ℕ) (rows : List (List ℕ)) (p : ℕ)
    → IsLaver n rows
    → IsUpTo (2 ^ n) p
    → entry rows p (2 ^ n) ≡ 2 ^ n
full-laver n rows p laver row =
    let full = IsFull-pow n in
    ap (λ table. entry table p (2 ^ n)) (IsLaver-only n rows laver)
    ∙ entry-product_rows (2 ^ n) p (2 ^ n) row (full.positive, omega arith)
    ∙ full.full p row.1

-- each entry of a row but the last is above the number of its row
pub ExceedsRows-laver : (n : ℕ) (rows : List (List ℕ)) → IsLaver n rows → ExceedsRows (2 ^ n) rows
ExceedsRows-laver n rows laver =
    subst (ExceedsRows (2 ^ n)) (sym (IsLaver-only n rows laver)) (ExceedsRows-product_rows (2 ^ n))
