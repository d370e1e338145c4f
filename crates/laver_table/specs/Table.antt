-- Laver tables: left-distributive products on the numbers 1 to 2^n.
--
-- A table is the list of its rows, and each row the list of its entries; rows and columns count from 1.
-- For each n one table of size 2^n is left-distributive and has p + 1 in column 1 of each row p but the last,
-- and 1 in that of the last.
-- Source: R. Laver, On the algebra of elementary embeddings of a rank into itself, 1995;
-- P. Dehornoy, Braids and Self-Distributivity, 2000, chapter X.
--
--   row_of rows p          row p
--   entry rows p q         the entry in row p and column q
--   IsUpTo N x             x is one of the numbers 1 to N
--   IsSquare N rows        N rows of N numbers from 1 to N
--   IsLaver n rows         the rows are the Laver table of size 2^n
--   IsComputed N rows      the rows obey the equations by which a table is computed from row N down
--   ExceedsRows N rows     each entry of a row but the last is above the number of its row
use Rattle.std.specs.Prelude.{◌≡◌, ℕ, ◌+◌, ◌-◌, ◌^◌, ◌<◌, ◌≤◌, List, [], length, All, slice_index, slice_index_or}

-- Row p, counted from 1.
abbrev pub row_of : List (List ℕ) → ℕ → List ℕ
row_of rows p = slice_index_or rows (p - 1) []

-- The entry in row p and column q, both counted from 1.
abbrev pub entry : List (List ℕ) → ℕ → ℕ → ℕ
entry rows p q = slice_index (row_of rows p) (q - 1)

-- A number from 1 to N.
abbrev pub IsUpTo : ℕ → ℕ → Type 0
IsUpTo N x = (1 ≤ x) × (x ≤ N)

-- N rows of N numbers from 1 to N.
pub record IsSquare (N : ℕ) (rows : List (List ℕ)) : Type 0 where
  pub height : length rows ≡ N
  pub widths : All (λ row. length row ≡ N) rows
  pub numbers : All (λ row. All (IsUpTo N) row) rows

-- The Laver table of size 2^n: p * (q * r) = (p * q) * (p * r), and column 1 has 2, 3, .., 2^n, 1.
pub record IsLaver (n : ℕ) (rows : List (List ℕ)) : Type 0 where
  pub square : IsSquare (2 ^ n) rows
  pub distributive : (p q r : ℕ) → IsUpTo (2 ^ n) p → IsUpTo (2 ^ n) q → IsUpTo (2 ^ n) r
      → entry rows p (entry rows q r) ≡ entry rows (entry rows p q) (entry rows p r)
  pub first : (p : ℕ) → 1 ≤ p → p < 2 ^ n → entry rows p 1 ≡ p + 1
  pub last : entry rows (2 ^ n) 1 ≡ 1

-- The equations from row N down: N * q = q, p * 1 = p + 1, and p * (q + 1) = (p * q) * (p + 1).
pub record IsComputed (N : ℕ) (rows : List (List ℕ)) : Type 0 where
  pub square : IsSquare N rows
  pub last : (q : ℕ) → IsUpTo N q → entry rows N q ≡ q
  pub first : (p : ℕ) → 1 ≤ p → p < N → entry rows p 1 ≡ p + 1
  pub next : (p q : ℕ) → 1 ≤ p → p < N → 1 ≤ q → q < N
      → entry rows p (q + 1) ≡ entry rows (entry rows p q) (p + 1)

-- Each entry of a row p below N is above p.
abbrev pub ExceedsRows : ℕ → List (List ℕ) → Type 0
ExceedsRows N rows = (p q : ℕ) → 1 ≤ p → p < N → IsUpTo N q → p < entry rows p q
