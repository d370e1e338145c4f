-- The command `laver n`: a Laver table.
--
-- Source: this project's own; the tables are those of R. Laver, On the algebra of elementary embeddings of a
-- rank into itself, 1995.
--
--   whole_table n      the answer
--   HasTable n text    the text is the Laver table of size 2^n, of which there is one
--   laver_meaning n    what the command means
--   laver_of words     the number of its words
use Rattle.std.specs.Prelude.{◌≡◌, ℕ, ◌^◌, List, Option}
use Rattle.wb_base.specs.Status.{Answer, answer}
use Rattle.wb_base.specs.declared.status.Status.TheVariants.{Done}
use Rattle.laver_table.specs.Product.{product_rows}
use Rattle.laver_table.specs.Table.{IsLaver}
use Rattle.laver_table.specs.TableText.{table_text}
use Rattle.wb_command.specs.Args.{then_read, first_number, last_read, rest_of}
use Rattle.wb_command.specs.Meaning.{Meaning, reads_nothing}
use Rattle.wb_terms.specs.declared.TheConstants.{MAX_PRINTED}

abbrev pub table_answer : List (List ℕ) → Answer
table_answer rows = answer Done (table_text rows)

abbrev pub whole_table : ℕ → Answer
whole_table exponent = table_answer (product_rows (2 ^ exponent))

pub record HasTable (exponent : ℕ) (text : List ℕ) : Type 0 where
  pub rows : List (List ℕ)
  pub laver : IsLaver exponent rows
  pub only : (other : List (List ℕ)) → IsLaver exponent other → other ≡ rows
  pub is : text ≡ table_text rows

abbrev pub laver_meaning : ℕ → Meaning
laver_meaning exponent = record {
  reads = reads_nothing;
  answers = λ input a. whole_table exponent ≡ a;
  says = λ input text. HasTable exponent text;
  refuses = λ input text. ⊥;
  serves = λ before now s. Unit {0};
}

-- The exponent of the table's size.
abbrev pub laver_of : List (List ℕ) → Option ℕ
laver_of words = then_read (first_number 0 MAX_PRINTED words) (λ exponent. last_read (rest_of words) exponent)
