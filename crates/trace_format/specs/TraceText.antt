-- The text of a trace file, version 1.
--
-- A trace claims how the braids of two words, or of two terms, compare, by which steps that was found, and
-- gives a word by which it can be seen. Each line ends with LF (byte 10); fields are parted by one space.
-- Source: this project's own.
--
--   Header               what is compared: two words, or two terms
--   Trace                what a trace file says
--   trace_text t         its text
--   TermTrace            what is written of two terms, which are given by their texts
--   term_trace_text t    its text, which is that of a trace where these are strict texts
use Rattle.std.specs.Prelude.{ℕ, List, ◌∷◌, ◌++◌, codes, decimal}
use Rattle.std.specs.List.{flat_map}
use Rattle.wb_base.specs.Lines.{line}
use Rattle.braid_word.specs.Words.{Letter}
use Rattle.braid_word.specs.Notation.{next_text, word_field}
use Rattle.ld_term.specs.Terms.{Term}
use Rattle.ld_term.specs.StrictTexts.{strict_text}
use Rattle.trace_format.specs.declared.line.StepLine.{StepLine}
use Rattle.trace_format.specs.declared.line.StepLine.TheVariants.{Handle, Commute, Swap, Delete, Insert}
use Rattle.trace_format.specs.declared.verdict.Verdict.{Verdict}
use Rattle.trace_format.specs.declared.verdict.Verdict.TheVariants.{Less, Equal, Greater}

-- What is compared: the braids of two words, or those of two terms.
pub data Header : Type 0 where
  words : (left right : List Letter) → Header
  terms : (left right : Term) → Header

-- What is compared, the steps from the quotient on, the verdict, and the word that it gives as witness.
pub record Trace : Type 0 where
  pub header : Header
  pub steps : List StepLine
  pub verdict : Verdict
  pub witness : List Letter

-- The texts of two terms, and the steps, the verdict and the witness of their braids.
pub record TermTrace : Type 0 where
  pub left : List ℕ
  pub right : List ℕ
  pub steps : List StepLine
  pub verdict : Verdict
  pub witness : List Letter

-- A step, by its places, counted from 1 in the word before it: `h 2 4` reduces a handle, `c 2` commutes two
-- letters, `s 2` is the braid relation on three, `d 2` deletes two that are inverse to each other, and
-- `i 2 -1` inserts a letter and its inverse.
abbrev pub step_text : StepLine → List ℕ
step_text (Handle p q) = codes "h " ++ (decimal p ++ (32 ∷ decimal q))
step_text (Commute p) = codes "c " ++ decimal p
step_text (Swap p) = codes "s " ++ decimal p
step_text (Delete p) = codes "d " ++ decimal p
step_text (Insert p x) = codes "i " ++ (decimal p ++ next_text x)

-- The same as a line.
abbrev pub step_line : StepLine → List ℕ
step_line step = line (step_text step)

-- The step that reduces the handle at a pair of places.
abbrev pub handle_step : ℕ × ℕ → StepLine
handle_step (p, q) = Handle p q

-- Its line.
abbrev pub handle_line : ℕ × ℕ → List ℕ
handle_line places = step_line (handle_step places)

-- A verdict, as it is written.
abbrev pub verdict_word : Verdict → List ℕ
verdict_word Less = codes "less"
verdict_word Equal = codes "equal"
verdict_word Greater = codes "greater"

-- The lines before the steps, for two words.
abbrev pub word_head_text : List Letter → List Letter → List ℕ
word_head_text left right =
    line (codes "braid-trace 1") ++ line (codes "left" ++ word_field left)
    ++ line (codes "right" ++ word_field right)

-- The same for the texts of two terms.
abbrev pub term_head_text : List ℕ → List ℕ → List ℕ
term_head_text left right =
    line (codes "braid-trace 1") ++ line (codes "left-term " ++ left) ++ line (codes "right-term " ++ right)

-- The lines before the steps.
abbrev pub head_text : Header → List ℕ
head_text (words u v) = word_head_text u v
head_text (terms t u) = term_head_text (strict_text t) (strict_text u)

-- The lines behind the steps.
abbrev pub tail_text : Verdict → List Letter → List ℕ
tail_text verdict witness =
    line (codes "verdict " ++ verdict_word verdict) ++ line (codes "witness" ++ word_field witness)
    ++ line (codes "end")

-- The text of a trace file.
unfoldable pub trace_text : Trace → List ℕ
trace_text t = head_text t.header ++ flat_map step_line t.steps ++ tail_text t.verdict t.witness

-- The text of a trace file of two terms that are given by their texts.
unfoldable pub term_trace_text : TermTrace → List ℕ
term_trace_text t =
    term_head_text t.left t.right ++ flat_map step_line t.steps ++ tail_text t.verdict t.witness
