-- Worked rows of the operation of Laver tables.
use Rattle.std.proofs.Common.{◌≡◌, [], ◌∷◌, refl}
use Rattle.laver_table.specs.Product.{product_within, product, product_row, product_rows}

-- the table of size 1
size_1_rows : product_rows 1 ≡ (1 ∷ []) ∷ []
unfolding product_within product product_row product_rows
size_1_rows = refl

-- the table of size 4
size_4_rows
    : product_rows 4
    ≡ (2 ∷ 4 ∷ 2 ∷ 4 ∷ [])
    ∷ ((3 ∷ 4 ∷ 3 ∷ 4 ∷ []) ∷ ((4 ∷ 4 ∷ 4 ∷ 4 ∷ []) ∷ ((1 ∷ 2 ∷ 3 ∷ 4 ∷ []) ∷ [])))
unfolding product_within product product_row product_rows
size_4_rows = refl

-- rows 1 to 8 of size 8
size_8_row_1 : product_row 8 1 ≡ 2 ∷ 4 ∷ 6 ∷ 8 ∷ 2 ∷ 4 ∷ 6 ∷ 8 ∷ []
unfolding product_within product product_row
size_8_row_1 = refl

size_8_row_2 : product_row 8 2 ≡ 3 ∷ 4 ∷ 7 ∷ 8 ∷ 3 ∷ 4 ∷ 7 ∷ 8 ∷ []
unfolding product_within product product_row
size_8_row_2 = refl

size_8_row_3 : product_row 8 3 ≡ 4 ∷ 8 ∷ 4 ∷ 8 ∷ 4 ∷ 8 ∷ 4 ∷ 8 ∷ []
unfolding product_within product product_row
size_8_row_3 = refl

size_8_row_4 : product_row 8 4 ≡ 5 ∷ 6 ∷ 7 ∷ 8 ∷ 5 ∷ 6 ∷ 7 ∷ 8 ∷ []
unfolding product_within product product_row
size_8_row_4 = refl

size_8_row_5 : product_row 8 5 ≡ 6 ∷ 8 ∷ 6 ∷ 8 ∷ 6 ∷ 8 ∷ 6 ∷ 8 ∷ []
unfolding product_within product product_row
size_8_row_5 = refl

size_8_row_6 : product_row 8 6 ≡ 7 ∷ 8 ∷ 7 ∷ 8 ∷ 7 ∷ 8 ∷ 7 ∷ 8 ∷ []
unfolding product_within product product_row
size_8_row_6 = refl

size_8_row_7 : product_row 8 7 ≡ 8 ∷ 8 ∷ 8 ∷ 8 ∷ 8 ∷ 8 ∷ 8 ∷ 8 ∷ []
unfolding product_within product product_row
size_8_row_7 = refl

size_8_row_8 : product_row 8 8 ≡ 1 ∷ 2 ∷ 3 ∷ 4 ∷ 5 ∷ 6 ∷ 7 ∷ 8 ∷ []
unfolding product_within product product_row
size_8_row_8 = refl

-- rows 0 and 8 of size 8 differ in column 0 alone, which has 8 and 0
size_8_row_0 : product_row 8 0 ≡ product_row 8 8
unfolding product_within product product_row
size_8_row_0 = refl

size_8_column_0 : product 8 0 0 ∷ product 8 8 0 ∷ [] ≡ 8 ∷ 0 ∷ []
unfolding product_within product
size_8_column_0 = refl
