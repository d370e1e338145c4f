-- The command `value n`: the value of a term in a Laver table.
--
-- Source: this project's own; the tables are those of R. Laver, On the algebra of elementary embeddings of a
-- rank into itself, 1995.
--
--   valued n t               the answer on the term t
--   HasValue n input text    the text is the value of the term of the input in the Laver table of size 2^n
--   value_meaning n          what the command means
--   value_of_words words     the number of its words
use Rattle.std.specs.Prelude.{◌≡◌, ℕ, ◌^◌, List, decimal, Option, None}
use Rattle.wb_base.specs.Lines.{lines_of, line}
use Rattle.wb_base.specs.Status.{Answer, answer}
use Rattle.wb_base.specs.declared.status.Status.TheVariants.{Done}
use Rattle.ld_term.specs.Terms.{Term, IsEquivalent}
use Rattle.term_graph.specs.TermLists.{term_at}
use Rattle.term_graph.specs.TermFiles.{IsTermFile}
use Rattle.term_eval.specs.Values.{value_of}
use Rattle.laver_table.specs.Product.{product_rows}
use Rattle.laver_table.specs.Table.{IsLaver}
use Rattle.laver_table.specs.declared.TheConstants.{MAX_EXPONENT}
use Rattle.wb_command.specs.Args.{then_read, first_number, last_read, rest_of}
use Rattle.wb_command.specs.TermInputs.{IsOnTerm}
use Rattle.wb_command.specs.Meaning.{Meaning, reads_whole}

-- The line of a value.
abbrev pub number_answer : ℕ → Answer
number_answer n = answer Done (line (decimal n))

abbrev pub valued : ℕ → Term → Answer
valued exponent t = number_answer (value_of (product_rows (2 ^ exponent)) t)

-- The input is a term file of one term, and the text its value in the Laver table of size 2^n, which is
-- that of
-- each equivalent term.
pub record HasValue (exponent : ℕ) (input text : List ℕ) : Type 0 where
  pub made : List Term
  pub first : ℕ
  pub file : IsTermFile 1 (lines_of input) made first None
  pub rows : List (List ℕ)
  pub laver : IsLaver exponent rows
  pub only : (other : List (List ℕ)) → IsLaver exponent other → other ≡ rows
  pub is : text ≡ line (decimal (value_of rows (term_at made first)))
  pub equivalent : (t : Term) → IsEquivalent t (term_at made first) → text ≡ line (decimal (value_of rows t))

abbrev pub value_meaning : ℕ → Meaning
value_meaning exponent = record {
  reads = reads_whole;
  answers = λ input a. IsOnTerm (λ made t. valued exponent t) input a;
  says = λ input text. HasValue exponent input text;
  refuses = λ input text. ⊥;
  serves = λ before now s. Unit {0};
}

-- The exponent of the table's size.
abbrev pub value_of_words : List (List ℕ) → Option ℕ
value_of_words words = then_read (first_number 0 MAX_EXPONENT words)
    (λ exponent. last_read (rest_of words) exponent)
