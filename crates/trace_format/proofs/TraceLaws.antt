-- Laws of the text of a trace file, as its lines.
--
-- The text is that of its lines, one after the other (`trace_text-lines`), and is cut into these
-- again (`lines_of-trace_text`). So two different traces have different texts
-- (`trace_text-injective`).
use Rattle.std.proofs.Common.{◌≡◌, ℕ, List, [], ◌∷◌, ◌++◌, append_assoc, map, flat_map, codes, refl, ap, ap₂, sym, ◌∙◌}
use Rattle.std.specs.List.{AllByRecursion}
use Rattle.std.proofs.lemmas.List.{append-nil}
use Rattle.wb_base.specs.Lines.{lines_of, line, HasNoLf}
use Rattle.wb_base.proofs.LineLemmas.{lines_of-flat_map}
use Rattle.braid_word.specs.Words.{Letter}
use Rattle.wb_base.proofs.PartLemmas.{Ok-injective}
use Rattle.ld_term.specs.Terms.{Term}
use Rattle.ld_term.specs.StrictTexts.{strict_text}
use Rattle.trace_format.specs.declared.verdict.Verdict.{Verdict}
use Rattle.trace_format.specs.declared.line.StepLine.{StepLine}
use Rattle.trace_format.specs.Said.{Said}
use Rattle.trace_format.specs.Said as said
use Rattle.braid_word.specs.Notation.{word_field}
use Rattle.trace_format.specs.TraceText.{Header, words, terms, Trace, step_line, verdict_word, head_text, tail_text, trace_text, term_trace_text}
use Rattle.trace_format.specs.TraceLines.{line_of, line_text, IsStepLine, IsLine, IsHeader, IsTrace}
use Rattle.trace_format.proofs.LineLaws.{line_of-line_text, line_text-no_lf}

-- ---- The lines of a trace ----

-- The lines behind the steps.
abbrev pub tail_lines : Verdict → List Letter → List Said
tail_lines verdict witness = said.verdict verdict ∷ said.witness witness ∷ said.finish ∷ []

-- The lines of the steps, and those behind them.
abbrev pub step_lines : List StepLine → List Said → List Said
step_lines steps tail = map said.step steps ++ tail

-- The left and the right line.
abbrev pub left_line : Header → Said
left_line (words u v) = said.left u
left_line (terms t u) = said.left_term t

abbrev pub right_line : Header → Said
right_line (words u v) = said.right v
right_line (terms t u) = said.right_term u

-- The lines of a trace, from the first to the last.
abbrev pub trace_lines : Trace → List Said
trace_lines t =
    said.start ∷ left_line t.header ∷ right_line t.header
    ∷ step_lines t.steps (tail_lines t.verdict t.witness)

-- The texts of some lines, each with its LF.
abbrev pub lines_text : List Said → List ℕ
lines_text all = flat_map line (map line_text all)

-- the text of steps and of the lines behind them
lines_text-step_lines
    : (steps : List StepLine) (tail : List Said)
    → lines_text (step_lines steps tail) ≡ flat_map step_line steps ++ lines_text tail
lines_text-step_lines [] tail = refl
lines_text-step_lines (step ∷ steps) tail =
    ap (λ more. step_line step ++ more) (lines_text-step_lines steps tail)
    ∙ sym (append_assoc (step_line step) (flat_map step_line steps) (lines_text tail))

-- three texts and what follows them
append_assoc-three
    : (a b c rest : List ℕ)
    → ((a ++ b) ++ c) ++ rest ≡ a ++ (b ++ (c ++ rest))
append_assoc-three a b c rest =
    append_assoc (a ++ b) c rest ∙ append_assoc a b (c ++ rest)

-- the text of the lines behind the steps
lines_text-tail_lines
    : (verdict : Verdict) (witness : List Letter)
    → lines_text (tail_lines verdict witness) ≡ tail_text verdict witness
lines_text-tail_lines verdict witness =
    let shown = line (codes "verdict " ++ verdict_word verdict) in
    let seen = line (codes "witness" ++ word_field witness) in
    sym (append_assoc-three shown seen (line (codes "end")) [])
    ∙ append-nil (tail_text verdict witness)

-- the text of the lines before the steps
pub head_text-lines
    : (h : Header)
    → head_text h
    ≡ line (codes "braid-trace 1") ++ line (line_text (left_line h)) ++ line (line_text (right_line h))
head_text-lines (words u v) = refl
head_text-lines (terms t u) = refl

-- the text of a trace is that of its lines
pub trace_text-lines : (t : Trace) → trace_text t ≡ flat_map line (map line_text (trace_lines t))
unfolding trace_text
trace_text-lines t =
    let start = line (codes "braid-trace 1") in
    let left = line (line_text (left_line t.header)) in
    let right = line (line_text (right_line t.header)) in
    let steps = flat_map step_line t.steps in
    let tail = tail_text t.verdict t.witness in
    let rest : steps ++ tail ≡ lines_text (step_lines t.steps (tail_lines t.verdict t.witness))
    = ap (λ more. steps ++ more) (sym (lines_text-tail_lines t.verdict t.witness))
    ∙ sym (lines_text-step_lines t.steps (tail_lines t.verdict t.witness)) in
    append_assoc (head_text t.header) steps tail
    ∙ ap (λ head. head ++ (steps ++ tail)) (head_text-lines t.header)
    ∙ append_assoc-three start left right (steps ++ tail)
    ∙ ap (λ more. start ++ (left ++ (right ++ more))) rest

-- what is written of two terms by their strict texts is the text of their trace
pub term_trace_text-strict_text
    : (t u : Term) (steps : List StepLine) (verdict : Verdict) (witness : List Letter)
    → term_trace_text (record {
      left = strict_text t;
      right = strict_text u;
      steps = steps;
      verdict = verdict;
      witness = witness;
    })
    ≡ trace_text (record { header = terms t u; steps = steps; verdict = verdict; witness = witness })
unfolding trace_text term_trace_text
term_trace_text-strict_text t u steps verdict witness = refl

-- ---- The text is cut into its lines ----

-- steps and lines behind them can be said
IsLine-step_lines
    : (steps : List StepLine) (tail : List Said)
    → AllByRecursion IsStepLine steps
    → AllByRecursion IsLine tail
    → AllByRecursion IsLine (step_lines steps tail)
IsLine-step_lines [] tail is rest = rest
IsLine-step_lines (step ∷ steps) tail is rest = (is.0, IsLine-step_lines steps tail is.1 rest)

-- so can the left and the right line
pub IsLine-left_line : (h : Header) → IsHeader h → IsLine (left_line h)
IsLine-left_line (words u v) is = is.0
IsLine-left_line (terms t u) is = is.0

pub IsLine-right_line : (h : Header) → IsHeader h → IsLine (right_line h)
IsLine-right_line (words u v) is = is.1
IsLine-right_line (terms t u) is = is.1

-- the lines of a trace can be said
IsLine-trace_lines : (t : Trace) → IsTrace t → AllByRecursion IsLine (trace_lines t)
IsLine-trace_lines t is =
    let last = tail_lines t.verdict t.witness in
    let tail : AllByRecursion IsLine last = (tt, (is.witness, (tt, tt))) in (
      tt,
      (
        IsLine-left_line t.header is.header,
        (IsLine-right_line t.header is.header, IsLine-step_lines t.steps last is.steps tail),
      ),
    )

-- no text of lines has an LF
HasNoLf-line_text
    : (all : List Said)
    → AllByRecursion IsLine all
    → AllByRecursion HasNoLf (map line_text all)
HasNoLf-line_text [] is = tt
HasNoLf-line_text (l ∷ all) is = (line_text-no_lf l is.0, HasNoLf-line_text all is.1)

-- the lines of the text of a trace are the texts of its lines
pub lines_of-trace_text
    : (t : Trace)
    → IsTrace t
    → lines_of (trace_text t) ≡ map line_text (trace_lines t)
lines_of-trace_text t is =
    ap lines_of (trace_text-lines t)
    ∙ lines_of-flat_map (map line_text (trace_lines t))
    (HasNoLf-line_text (trace_lines t) (IsLine-trace_lines t is))

-- ---- Different traces have different texts ----

-- a line is known by its text
line_text-injective
    : (l m : Said)
    → IsLine l
    → IsLine m
    → line_text l ≡ line_text m
    → l ≡ m
line_text-injective l m first second same =
    Ok-injective l m
    (sym (line_of-line_text l first) ∙ ap line_of same ∙ line_of-line_text m second)

-- so are several
map-line_text-injective
    : (all others : List Said)
    → AllByRecursion IsLine all
    → AllByRecursion IsLine others
    → map line_text all ≡ map line_text others
    → all ≡ others
map-line_text-injective [] [] first second same = refl
map-line_text-injective [] (m ∷ others) first second same = absurd (cc)
map-line_text-injective (l ∷ all) [] first second same = absurd (cc)
map-line_text-injective (l ∷ all) (m ∷ others) first second same =
    let head : line_text l ≡ line_text m = cc in
    let rest : map line_text all ≡ map line_text others = cc in
    ap₂ (λ l all. l ∷ all) (line_text-injective l m first.0 second.0 head)
    (map-line_text-injective all others first.1 second.1 rest)

-- What two traces have in common where the lines from their steps on do.
record AreAlike (a b : List StepLine) (v w : Verdict) (x y : List Letter) : Type 0 where
  steps : a ≡ b
  verdict : v ≡ w
  witness : x ≡ y

-- they have steps, verdict and witness in common
step_lines-injective
    : (a b : List StepLine) (v w : Verdict) (x y : List Letter)
    → step_lines a (tail_lines v x) ≡ step_lines b (tail_lines w y)
    → AreAlike a b v w x y
step_lines-injective [] [] v w x y same = record { steps = refl; verdict = cc; witness = cc }
step_lines-injective [] (t ∷ b) v w x y same = absurd (cc)
step_lines-injective (s ∷ a) [] v w x y same = absurd (cc)
step_lines-injective (s ∷ a) (t ∷ b) v w x y same =
    let rest = step_lines-injective a b v w x y (cc) in
    record {
      steps = ap₂ (λ s a. s ∷ a) (cc) rest.steps;
      verdict = rest.verdict;
      witness = rest.witness;
    }

-- The trace of these parts.
abbrev trace_of : Header → List StepLine → Verdict → List Letter → Trace
trace_of header steps verdict witness = record {
  header = header;
  steps = steps;
  verdict = verdict;
  witness = witness;
}

-- what is compared is known by its two lines
header-injective : (g h : Header) → left_line g ≡ left_line h → right_line g ≡ right_line h → g ≡ h
header-injective (words a b) (words u v) left right =
    let first : a ≡ u = cc in
    let second : b ≡ v = cc in
    ap₂ (λ a b. words a b) first second
header-injective (words a b) (terms t u) left right = absurd (cc)
header-injective (terms a b) (words u v) left right = absurd (cc)
header-injective (terms a b) (terms t u) left right =
    let first : a ≡ t = cc in
    let second : b ≡ u = cc in
    ap₂ (λ a b. terms a b) first second

-- a trace is known by its lines
trace_lines-injective : (s t : Trace) → trace_lines s ≡ trace_lines t → s ≡ t
trace_lines-injective s t same =
    let left : left_line s.header ≡ left_line t.header = cc in
    let right : right_line s.header ≡ right_line t.header = cc in
    let rest = step_lines-injective s.steps t.steps s.verdict t.verdict s.witness t.witness (cc) in
    ap (λ h. trace_of h s.steps s.verdict s.witness) (header-injective s.header t.header left right)
    ∙ ap₂ (λ a v. trace_of t.header a v s.witness) rest.steps rest.verdict
    ∙ ap (λ x. trace_of t.header t.steps t.verdict x) rest.witness

-- two different traces have different texts
pub trace_text-injective
    : (s t : Trace)
    → IsTrace s
    → IsTrace t
    → trace_text s ≡ trace_text t
    → s ≡ t
trace_text-injective s t first second same =
    let texts : map line_text (trace_lines s) ≡ map line_text (trace_lines t)
    = sym (lines_of-trace_text s first) ∙ ap lines_of same ∙ lines_of-trace_text t second in
    trace_lines-injective s t
    (map-line_text-injective (trace_lines s) (trace_lines t) (IsLine-trace_lines s first)
    (IsLine-trace_lines t second) texts)
