-- The operation of Laver tables, computed from the last row down.
--
-- The table of size N is a product on the numbers 1 to N. Row N gives each q back. A row p below N is
-- computed from the rows after it: p * 1 = p + 1, and p * (q + 1) = (p * q) * (p + 1). With a column 0 whose
-- entries are N it is one orbit, since N * (p + 1) = p + 1: p * q is what N becomes where x to x * (p + 1) is
-- applied q times. Here q may be any number, and p may be 0: row 0 is as row N from column 1 to column N.
-- Source: R. Laver, On the algebra of elementary embeddings of a rank into itself, 1995; P. Dehornoy, Braids
-- and Self-Distributivity, 2000, chapter X.
--
--   product_within N depth p q   p * q by the rows from N - depth on
--   product N p q                p * q in the table of size N
--   product_row N p              row p
--   product_rows N               all rows, from the first on
use Rattle.std.specs.Prelude.{ℕ, zero, suc, ◌+◌, ◌==◌, if◌then◌else◌, List, map}
use Rattle.std.specs.Fn.{iterate}
use Rattle.std.specs.List.{range_with_len}

-- The product p * q for the rows p from N - depth on, of which row N gives q back.
unfoldable pub product_within : ℕ → ℕ → ℕ → ℕ → ℕ
product_within N zero p q = q
product_within N (suc depth) p q =
    if p + suc depth == N then iterate (λ x. product_within N depth x (suc p)) q N
    else product_within N depth p q

-- The product p * q in the table of size N: in size 8, of 1 and 2 it is 4.
unfoldable pub product : ℕ → ℕ → ℕ → ℕ
product N p q = product_within N N p q

-- Row p, from column 1 to column N: row 2 of size 4 is `3 4 3 4`.
unfoldable pub product_row : ℕ → ℕ → List ℕ
product_row N p = map (product N p) (range_with_len 1 N)

-- The rows from 1 to N.
unfoldable pub product_rows : ℕ → List (List ℕ)
product_rows N = map (product_row N) (range_with_len 1 N)
