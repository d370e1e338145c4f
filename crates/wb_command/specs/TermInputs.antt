-- Answers to an input that is a term file.
--
-- A file that is refused is answered with its first fault, or with the limit that its graph meets.
-- Source: this project's own.
--
--   file_refused error         the answer to a term file that is refused for this
--   IsOnTerm of_term input a   a is the answer to a term file of one term, where `of_term made t` is that
--                              on its term t in the graph `made`
use Rattle.std.specs.Prelude.{◌≡◌, ℕ, List, None}
use Rattle.wb_base.specs.Lines.{lines_of}
use Rattle.wb_base.specs.Status.{Answer}
use Rattle.ld_term.specs.Terms.{Term}
use Rattle.term_graph.specs.TermLists.{term_at}
use Rattle.term_graph.specs.TermFiles.{IsTermFile, IsFileRefusal}
use Rattle.term_graph.specs.declared.file_error.DefsErr.{DefsErr}
use Rattle.term_graph.specs.declared.file_error.DefsErr.TheVariants as refusals
use Rattle.wb_command.specs.declared.fault.Fault.TheVariants as faults
use Rattle.wb_command.specs.Answers.{bad_input}
use Rattle.wb_command.specs.Refusals.{height_met, nodes_met}

-- Want of memory has an answer here for completeness: a definition never answers it.
abbrev pub file_refused : DefsErr → Answer
file_refused (refusals.Lines k) = bad_input (faults.Lines k)
file_refused (refusals.Form k place) = bad_input (faults.Term k place)
file_refused (refusals.TooDeep k height) = bad_input (faults.Deep k height)
file_refused (refusals.TooMany k products) = bad_input (faults.Many k products)
file_refused (refusals.Twice k place) = bad_input (faults.Twice k place)
file_refused (refusals.Unknown k place) = bad_input (faults.Unknown k place)
file_refused refusals.Height = height_met
file_refused refusals.Nodes = nodes_met
file_refused refusals.Memory = bad_input (faults.Lines 0)

pub data IsOnTerm (of_term : List Term → Term → Answer) (input : List ℕ) (a : Answer) : Type 0 where
  on_refusal : (error : DefsErr) → IsFileRefusal 1 (lines_of input) error → file_refused error ≡ a
      → IsOnTerm of_term input a
  on_term : (made : List Term) (first : ℕ) → IsTermFile 1 (lines_of input) made first None
      → of_term made (term_at made first) ≡ a → IsOnTerm of_term input a
