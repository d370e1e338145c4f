-- Laws of the commands `laver` and `row`.
use Rattle.std.proofs.Common.{◌≡◌, ℕ, ◌^◌, List, refl, sym, subst, ap, ◌∙◌}
use Rattle.wb_base.specs.Status.{Answer}
use Rattle.laver_table.specs.Product.{product_rows}
use Rattle.laver_table.specs.Table.{row_of, IsLaver}
use Rattle.laver_table.proofs.LaverLemmas.{IsLaver-product_rows, IsLaver-only}
use Rattle.wb_command.specs.Meaning.{IsSound}
use Rattle.wb_command.proofs.TermInputLemmas.{done-Refused}
use Rattle.wb_terms.specs.Laver.{table_answer, whole_table, HasTable, laver_meaning}
use Rattle.wb_terms.specs.Row.{RowNumbers, row_answer, table_row, HasRow, row_meaning}

-- a Laver table is the one that is answered
pub whole_table-only
    : (exponent : ℕ) (rows : List (List ℕ))
    → IsLaver exponent rows
    → whole_table exponent ≡ table_answer rows
whole_table-only exponent rows laver =
    ap table_answer (sym (IsLaver-only exponent rows laver))

-- so is a row of one
pub table_row-only
    : (exponent row : ℕ) (rows : List (List ℕ))
    → IsLaver exponent rows
    → table_row exponent row ≡ row_answer (row_of rows row)
table_row-only exponent row rows laver =
    ap (λ rows. row_answer (row_of rows row)) (sym (IsLaver-only exponent rows laver))

-- a table that is answered is the only one
HasTable-whole_table : (exponent : ℕ) → HasTable exponent (whole_table exponent).text
HasTable-whole_table exponent = record {
  rows = product_rows (2 ^ exponent);
  laver = IsLaver-product_rows exponent;
  only = IsLaver-only exponent;
  is = refl;
}

HasRow-table_row : (exponent row : ℕ) → HasRow exponent row (table_row exponent row).text
HasRow-table_row exponent row = record {
  rows = product_rows (2 ^ exponent);
  laver = IsLaver-product_rows exponent;
  only = IsLaver-only exponent;
  is = refl;
}

-- `laver` is sound
pub IsSound-laver : (exponent : ℕ) → IsSound (laver_meaning exponent)
IsSound-laver exponent = record {
  one = λ input a b first second. sym first ∙ second;
  promised = λ input a is done. subst (λ (b : Answer). HasTable exponent b.text) is
      (HasTable-whole_table exponent);
  refused = λ input a is refused. done-Refused _ a is refl refused;
  alone = λ nothing input other a is. is;
  plain = λ pieces before now s. tt;
}

-- `row` is sound
pub IsSound-row : (n : RowNumbers) → IsSound (row_meaning n)
IsSound-row n = record {
  one = λ input a b first second. sym first ∙ second;
  promised = λ input a is done.
      subst (λ (b : Answer). HasRow n.exponent n.row b.text) is (HasRow-table_row n.exponent n.row);
  refused = λ input a is refused. done-Refused _ a is refl refused;
  alone = λ nothing input other a is. is;
  plain = λ pieces before now s. tt;
}
