-- The command `expand A`: a term whose part at an address is expanded by left distributivity.
--
-- A fault of the address comes before the products that the expansion asks for.
-- Source: this project's own.
--
--   expanded_at k address made t       the answer on the term t of line k, in the graph `made`
--   HasExpansion address input text    the text is the listing of the input's term, expanded at the address
--   expand_meaning address             what the command means
--   address_of word                    the address that a command word is, if it is one
--   expand_of words                    the address of the command's words
use Rattle.std.specs.Prelude.{◌≡◌, ℕ, ◌==◌, ◌&&◌, ◌||◌, not, nat_lt, Bool, if◌then◌else◌, List, [], ◌∷◌, length, Option, Some, None}
use Rattle.std.specs.List.{list_all}
use Rattle.wb_base.specs.Lines.{lines_of}
use Rattle.wb_base.specs.Status.{Answer}
use Rattle.ld_term.specs.Terms.{Term, Expands}
use Rattle.term_graph.specs.TermLists.{term_at}
use Rattle.term_graph.specs.TermFiles.{IsTermFile}
use Rattle.term_graph.specs.Asks.{Asked, answered, ask_all}
use Rattle.term_expand.specs.Expansions.{Expansion, expanded, no_place, not_expandable, expansion_at}
use Rattle.term_expand.specs.Requests.{expand_requests}
use Rattle.term_expand.specs.declared.TheConstants.{MAX_ADDRESS}
use Rattle.wb_command.specs.declared.fault.Fault.TheVariants as faults
use Rattle.wb_command.specs.Answers.{bad_input}
use Rattle.wb_command.specs.Args.{then_read, first_word, last_read, rest_of}
use Rattle.wb_command.specs.TermInputs.{IsOnTerm}
use Rattle.wb_command.specs.Meaning.{Meaning, reads_whole}
use Rattle.wb_terms.specs.Listed.{listed, HasListing}

-- ---- Answers ----

-- The answer on an expansion, of a term in line k, whose requests were answered so.
abbrev pub expansion_answer : ℕ → Expansion → Asked → Answer
expansion_answer k (expanded t) asked = listed asked t
expansion_answer k no_place asked = bad_input (faults.Address k)
expansion_answer k not_expandable asked = bad_input (faults.Expand k)

abbrev pub expanded_at : ℕ → List ℕ → List Term → Term → Answer
expanded_at k address made t =
    expansion_answer k (expansion_at address t) (ask_all (answered made) (expand_requests address t))

-- The input is a term file of one term, and the text the listing of that term with its part at the address
-- expanded.
pub record HasExpansion (address input text : List ℕ) : Type 0 where
  pub made : List Term
  pub first : ℕ
  pub file : IsTermFile 1 (lines_of input) made first None
  pub term : Term
  pub expansion : expansion_at address (term_at made first) ≡ expanded term
  pub expands : Expands (term_at made first) term
  pub listing : HasListing (term_at made first) term text

abbrev pub expand_meaning : List ℕ → Meaning
expand_meaning address = record {
  reads = reads_whole;
  answers = λ input a. IsOnTerm (expanded_at (length (lines_of input)) address) input a;
  says = λ input text. HasExpansion address input text;
  refuses = λ input text. ⊥;
  serves = λ before now s. Unit {0};
}

-- ---- Addresses on a command line ----

-- Whether a byte is a side: `0` for the left one, `1` for the right one.
abbrev pub is_side : ℕ → Bool
is_side byte = (byte == 48) || (byte == 49)

-- The address that some sides are: at most 1,000, the greatest height of a term.
abbrev pub sides_of : List ℕ → Option (List ℕ)
sides_of sides = if not (nat_lt MAX_ADDRESS (length sides)) && list_all is_side sides then Some sides else
    None

-- The address that a command word is, after a dot: of `.` it is that of the whole term.
abbrev pub address_of : List ℕ → Option (List ℕ)
address_of [] = None
address_of (byte ∷ sides) = if byte == 46 then sides_of sides else None

abbrev pub expand_of : List (List ℕ) → Option (List ℕ)
expand_of words =
    then_read (first_word words) (λ word.
    then_read (address_of word) (λ address. last_read (rest_of words) address))
