-- The command `terms H L`: two terms by the order of their braids.
--
-- The lengths of the braid words come before their indices, and these before the run.
-- Source: this project's own; the braid of a term is that of P. Dehornoy, Braid groups and left distributive
-- operations, 1994.
--
--   term_trace_of t u run v      the trace of two terms
--   braids_compared H L t u      the answer of the run of the quotient of their braid words
--   terms_compared H L t u       the answer on the terms t and u
--   AreCompared H L input a      a is the answer to an input
--   HasTermVerdict input text    the text is an accepted trace of the two terms of the input
--   terms_meaning limits         what the command means
use Rattle.std.specs.Prelude.{◌≡◌, ◌↔◌, ℕ, ◌+◌, ◌≤◌, nat_lt, max, map, if◌then◌else◌, List, length, codes, Option, Some}
use Rattle.wb_base.specs.Lines.{lines_of}
use Rattle.wb_base.specs.Status.{Answer, answer}
use Rattle.wb_base.specs.declared.status.Status.TheVariants.{Done}
use Rattle.braid_word.specs.Words.{IsOn}
use Rattle.braid_word.specs.Equivalence.{EquivalentOn}
use Rattle.braid_word.specs.declared.TheConstants.{MAX_INDEX}
use Rattle.handle_reduce.specs.Runs.{RunState}
use Rattle.ld_term.specs.Terms.{Term, height}
use Rattle.ld_term.specs.StrictTexts.{strict_text}
use Rattle.term_graph.specs.TermLists.{term_at, braid_length}
use Rattle.term_graph.specs.TermFiles.{IsTermFile, IsFileRefusal}
use Rattle.term_graph.specs.declared.file_error.DefsErr.{DefsErr}
use Rattle.term_eval.specs.Braids.{braid}
use Rattle.trace_format.specs.declared.verdict.Verdict.{Verdict}
use Rattle.trace_format.specs.declared.verdict.Verdict.TheVariants.{Equal}
use Rattle.trace_format.specs.TraceText.{terms, Trace, TermTrace, term_trace_text, handle_step}
use Rattle.trace_check.specs.Accepted.{IsAccepted, IsValid}
use Rattle.wb_command.specs.declared.TheConstants.{MAX_INPUT}
use Rattle.wb_command.specs.Answers.{limit_met}
use Rattle.wb_command.specs.Refusals.{index_met}
use Rattle.wb_command.specs.TermInputs.{file_refused}
use Rattle.wb_command.specs.Meaning.{Meaning, reads_whole}
use Rattle.wb_compare.specs.Reductions.{run_answer}
use Rattle.wb_compare.specs.Limits.{Limits}
use Rattle.wb_compare.specs.declared.terms.ComparedTerms.{ComparedTerms}

-- The trace of two terms, where the quotient of their braid words has this run.
abbrev pub term_trace_of : Term → Term → RunState → Verdict → TermTrace
term_trace_of t u run verdict = record {
  left = strict_text t;
  right = strict_text u;
  steps = map handle_step run.steps;
  verdict = verdict;
  witness = run.present;
}

-- The trace of the leftmost reduction of the quotient of two terms' braid words, or the limit that it meets.
abbrev pub braids_compared : ℕ → ℕ → Term → Term → Option Answer
braids_compared handles limit t u =
    run_answer (λ run verdict. term_trace_text (term_trace_of t u run verdict)) handles limit (braid t)
    (braid u)

-- `terms H L` on two terms: the lengths of their braid words together, then the indices, and then the run.
abbrev pub terms_compared : ℕ → ℕ → Term → Term → Option Answer
terms_compared handles limit t u =
    if nat_lt limit (braid_length t + braid_length u) then Some (limit_met (codes "length ") limit)
    else (if nat_lt MAX_INDEX (max (height t) (height u)) then Some index_met
    else braids_compared handles limit t u)

-- The answer of `terms H L`.
pub data AreCompared (handles limit : ℕ) (input : List ℕ) (a : Answer) : Type 0 where
  terms_refused : (error : DefsErr) → IsFileRefusal 2 (lines_of input) error → file_refused error ≡ a
      → AreCompared handles limit input a
  terms_read : (made : List Term) (first second : ℕ) → IsTermFile 2 (lines_of input) made first (Some second)
      → terms_compared handles limit (term_at made first) (term_at made second) ≡ Some a
      → AreCompared handles limit input a

-- The text of a comparison that has come to a verdict.
abbrev pub compared_terms_answer : ComparedTerms → Answer
compared_terms_answer done = answer Done (term_trace_text (record {
  left = done.left.items;
  right = done.right.items;
  steps = map handle_step done.reducer.run.steps;
  verdict = done.verdict;
  witness = done.reducer.run.present;
}))

-- The input is a term file of two terms. The text is a trace of these terms, would be accepted by `check`,
-- which can read it, and is valid. Its verdict is equal exactly where their braid words are equivalent, on
-- any
-- number of strands that both are on.
pub record HasTermVerdict (input text : List ℕ) : Type 0 where
  pub made : List Term
  pub first : ℕ
  pub second : ℕ
  pub file : IsTermFile 2 (lines_of input) made first (Some second)
  pub trace : Trace
  pub header : trace.header ≡ terms (term_at made first) (term_at made second)
  pub accepted : IsAccepted text trace
  pub short : length text ≤ MAX_INPUT
  pub valid : IsValid trace
  pub equal : (n : ℕ) → IsOn n (braid (term_at made first)) → IsOn n (braid (term_at made second))
      → (trace.verdict ≡ Equal) ↔ EquivalentOn n (braid (term_at made first)) (braid (term_at made second))

abbrev pub terms_meaning : Limits → Meaning
terms_meaning limits = record {
  reads = reads_whole;
  answers = λ input a. AreCompared limits.handles limits.letters input a;
  says = λ input text. HasTermVerdict input text;
  refuses = λ input text. ⊥;
  serves = λ before now s. Unit {0};
}
