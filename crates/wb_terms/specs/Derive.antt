-- The command `derive`: the derived term of a term.
--
-- Source: this project's own; derived terms are those of P. Dehornoy, Braids and Self-Distributivity, 2000.
--
--   derived_in made t           the answer on the term t, in the graph `made`
--   HasDerivation input text    the text is the listing of the derived term of that of the input
--   derive_meaning              what the command means
use Rattle.std.specs.Prelude.{ℕ, List, None}
use Rattle.wb_base.specs.Lines.{lines_of}
use Rattle.wb_base.specs.Status.{Answer}
use Rattle.ld_term.specs.Terms.{Term, derived}
use Rattle.term_graph.specs.TermLists.{term_at}
use Rattle.term_graph.specs.TermFiles.{IsTermFile}
use Rattle.term_graph.specs.Asks.{answered, ask_all}
use Rattle.term_expand.specs.Requests.{derive_requests}
use Rattle.wb_command.specs.TermInputs.{IsOnTerm}
use Rattle.wb_command.specs.Meaning.{Meaning, reads_whole}
use Rattle.wb_terms.specs.Listed.{listed, HasListing}

abbrev pub derived_in : List Term → Term → Answer
derived_in made t = listed (ask_all (answered made) (derive_requests t)) (derived t)

-- The input is a term file of one term, and the text the listing of the derived term.
pub record HasDerivation (input text : List ℕ) : Type 0 where
  pub made : List Term
  pub first : ℕ
  pub file : IsTermFile 1 (lines_of input) made first None
  pub listing : HasListing (term_at made first) (derived (term_at made first)) text

abbrev pub derive_meaning : Meaning
derive_meaning = record {
  reads = reads_whole;
  answers = λ input a. IsOnTerm derived_in input a;
  says = λ input text. HasDerivation input text;
  refuses = λ input text. ⊥;
  serves = λ before now s. Unit {0};
}
