-- Laws of the command `value`.
use Rattle.std.proofs.Common.{◌≡◌, ℕ, ◌^◌, List, decimal, refl, sym, ap, ◌∙◌}
use Rattle.wb_base.specs.Lines.{line}
use Rattle.wb_base.specs.Status.{Answer}
use Rattle.wb_base.specs.declared.status.Status.TheVariants.{Done}
use Rattle.ld_term.specs.Terms.{Term}
use Rattle.term_graph.specs.TermLists.{term_at}
use Rattle.laver_table.specs.Product.{product_rows}
use Rattle.laver_table.specs.Table.{IsLaver}
use Rattle.laver_table.proofs.LaverLemmas.{IsLaver-product_rows, IsLaver-only}
use Rattle.term_eval.specs.Values.{value_of}
use Rattle.term_eval.proofs.ValueLemmas.{value_of-IsEquivalent}
use Rattle.wb_command.specs.Meaning.{IsSound}
use Rattle.wb_command.specs.TermInputs.{IsOnTerm}
use Rattle.wb_command.proofs.TermInputLemmas.{done-Refused, IsOnTerm-one, IsOnTerm-Done, IsOnTerm-Refused}
use Rattle.wb_terms.specs.Value.{number_answer, valued, HasValue, value_meaning}

-- a value in the only table is the answer
pub valued-only
    : (exponent : ℕ) (rows : List (List ℕ)) (t : Term) (v : ℕ)
    → IsLaver exponent rows
    → v ≡ value_of rows t
    → valued exponent t ≡ number_answer v
valued-only exponent rows t v laver is =
    ap number_answer
    (ap (λ own. value_of own t) (sym (IsLaver-only exponent rows laver)) ∙ sym is)

-- `value` on an input
HasValue-Done
    : (exponent : ℕ) (input : List ℕ) (a : Answer)
    → IsOnTerm (λ made t. valued exponent t) input a
    → a.status ≡ Done
    → HasValue exponent input a.text
HasValue-Done exponent input a on done =
    let has = IsOnTerm-Done (λ made t. valued exponent t) input a on done in
    let rows : List (List ℕ) = product_rows (2 ^ exponent) in
    let t : Term = term_at has.made has.first in
    let text : a.text ≡ line (decimal (value_of rows t)) = ap (λ (b : Answer). b.text) (sym has.is) in
    record {
      made = has.made;
      first = has.first;
      file = has.file;
      rows = rows;
      laver = IsLaver-product_rows exponent;
      only = IsLaver-only exponent;
      is = text;
      equivalent = λ u same.
          text ∙ ap (λ v. line (decimal v)) (sym
          (value_of-IsEquivalent exponent rows u t (IsLaver-product_rows exponent) same));
    }

-- `value` is sound
pub IsSound-value : (exponent : ℕ) → IsSound (value_meaning exponent)
IsSound-value exponent = record {
  one = IsOnTerm-one (λ made t. valued exponent t);
  promised = HasValue-Done exponent;
  refused = λ input a on refused.
      IsOnTerm-Refused (λ made t. valued exponent t) input a
      (λ made t is. done-Refused _ a is refl) on refused;
  alone = λ nothing. absurd cc;
  plain = λ pieces before now s. tt;
}
