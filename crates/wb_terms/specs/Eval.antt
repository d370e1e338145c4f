-- The command `eval L`: the braid word of a term.
--
-- The length of the braid word comes before its indices.
-- Source: this project's own; the braid of a term is that of P. Dehornoy, Braid groups and left distributive
-- operations, 1994.
--
--   evaluated L t            the answer on the term t
--   HasBraid L input text    the text is the braid word of the term of the input
--   eval_meaning L           what the command means
--   eval_of words            the number of its words
use Rattle.std.specs.Prelude.{◌≡◌, ℕ, ◌+◌, ◌≤◌, nat_lt, if◌then◌else◌, List, length, Option, None}
use Rattle.wb_base.specs.Lines.{lines_of, line}
use Rattle.wb_base.specs.Status.{Answer, answer}
use Rattle.wb_base.specs.declared.status.Status.TheVariants.{Done}
use Rattle.braid_word.specs.Words.{Letter, IsOn}
use Rattle.braid_word.specs.Notation.{word_text}
use Rattle.braid_word.specs.Equivalence.{Equivalent}
use Rattle.braid_word.specs.declared.TheConstants.{MAX_INDEX}
use Rattle.handle_reduce.specs.declared.TheConstants.{MAX_BOUND}
use Rattle.ld_term.specs.Terms.{Term, height, IsEquivalent}
use Rattle.term_graph.specs.TermLists.{term_at, braid_length, capped}
use Rattle.term_graph.specs.TermFiles.{IsTermFile}
use Rattle.term_eval.specs.Braids.{braid}
use Rattle.wb_command.specs.Args.{then_read, first_number, last_read, rest_of}
use Rattle.wb_command.specs.Refusals.{length_needed, index_met}
use Rattle.wb_command.specs.TermInputs.{IsOnTerm}
use Rattle.wb_command.specs.Meaning.{Meaning, reads_whole}

-- The line of a braid word.
abbrev pub word_answer : List Letter → Answer
word_answer w = answer Done (line (word_text w))

-- The braid word, where it isn't too long and has no index that is too great. Its greatest index is the
-- term's height.
abbrev pub evaluated : ℕ → Term → Answer
evaluated limit t =
    if nat_lt limit (braid_length t) then length_needed limit (capped (braid_length t))
    else (if nat_lt MAX_INDEX (height t) then index_met else word_answer (braid t))

-- The input is a term file of one term, and the text its braid word, which has no more letters than it may
-- have, and no index above 255. The braid word of each equivalent term is equivalent to it.
pub record HasBraid (limit : ℕ) (input text : List ℕ) : Type 0 where
  pub made : List Term
  pub first : ℕ
  pub file : IsTermFile 1 (lines_of input) made first None
  pub short : length (braid (term_at made first)) ≤ limit
  pub on : IsOn (MAX_INDEX + 1) (braid (term_at made first))
  pub is : text ≡ line (word_text (braid (term_at made first)))
  pub equivalent : (t : Term) → IsEquivalent t (term_at made first)
      → Equivalent (braid t) (braid (term_at made first))

abbrev pub eval_meaning : ℕ → Meaning
eval_meaning limit = record {
  reads = reads_whole;
  answers = λ input a. IsOnTerm (λ made t. evaluated limit t) input a;
  says = λ input text. HasBraid limit input text;
  refuses = λ input text. ⊥;
  serves = λ before now s. Unit {0};
}

-- The most letters of the braid word.
abbrev pub eval_of : List (List ℕ) → Option ℕ
eval_of words = then_read (first_number 0 MAX_BOUND words) (λ limit. last_read (rest_of words) limit)
