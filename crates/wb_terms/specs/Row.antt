-- The command `row n p`: a row of a Laver table.
--
-- Source: this project's own; the tables are those of R. Laver, On the algebra of elementary embeddings of a
-- rank into itself, 1995.
--
--   RowNumbers         the exponent of a table's size, and the number of a row, from 1
--   table_row n p      the answer
--   HasRow n p text    the text is row p of the Laver table of size 2^n, of which there is one
--   row_meaning ..     what the command means
--   row_of_words words the numbers of its words
use Rattle.std.specs.Prelude.{◌≡◌, ℕ, ◌^◌, ◌≤◌, List, Option}
use Rattle.wb_base.specs.Status.{Answer, answer}
use Rattle.wb_base.specs.declared.status.Status.TheVariants.{Done}
use Rattle.laver_table.specs.Product.{product_rows}
use Rattle.laver_table.specs.Table.{row_of, IsLaver}
use Rattle.laver_table.specs.TableText.{row_line}
use Rattle.laver_table.specs.declared.TheConstants.{MAX_EXPONENT}
use Rattle.wb_command.specs.Args.{then_read, first_number, last_read, rest_of}
use Rattle.wb_command.specs.Meaning.{Meaning, reads_nothing}

pub record RowNumbers : Type 0 where
  pub exponent : ℕ
  pub row : ℕ

-- The row is one of the table.
pub record AreRowNumbers (n : RowNumbers) : Type 0 where
  pub small : n.exponent ≤ MAX_EXPONENT
  pub first : 1 ≤ n.row
  pub last : n.row ≤ 2 ^ n.exponent

abbrev pub row_answer : List ℕ → Answer
row_answer entries = answer Done (row_line entries)

abbrev pub table_row : ℕ → ℕ → Answer
table_row exponent row = row_answer (row_of (product_rows (2 ^ exponent)) row)

pub record HasRow (exponent row : ℕ) (text : List ℕ) : Type 0 where
  pub rows : List (List ℕ)
  pub laver : IsLaver exponent rows
  pub only : (other : List (List ℕ)) → IsLaver exponent other → other ≡ rows
  pub is : text ≡ row_line (row_of rows row)

abbrev pub row_meaning : RowNumbers → Meaning
row_meaning n = record {
  reads = reads_nothing;
  answers = λ input a. table_row n.exponent n.row ≡ a;
  says = λ input text. HasRow n.exponent n.row text;
  refuses = λ input text. ⊥;
  serves = λ before now s. Unit {0};
}

abbrev pub row_of_words : List (List ℕ) → Option RowNumbers
row_of_words words =
    then_read (first_number 0 MAX_EXPONENT words) (λ exponent.
    then_read (first_number 1 (2 ^ exponent) (rest_of words)) (λ row.
    last_read (rest_of (rest_of words)) (record { exponent = exponent; row = row })))
