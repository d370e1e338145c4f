-- The length of the lines of a trace file: none is longer than a line may be.
use Rattle.std.proofs.Common.{ℕ, ◌+◌, ◌*◌, ◌<◌, ◌≤◌, Bool, true, false, List, [], ◌∷◌, ◌++◌, length, length-append, codes, decimal, flat_map, subst, sym, arith}
use Rattle.std.proofs.lemmas.Fmt.{length-decimal-le_wide}
use Rattle.wb_base.specs.Numbers.{sign_text}
use Rattle.braid_word.specs.Words.{Letter, IsOn}
use Rattle.braid_word.specs.Notation.{next_text, IsReadable, word_field}
use Rattle.braid_word.specs.declared.TheConstants.{MAX_INDEX}
use Rattle.trace_format.specs.Said.{Said}
use Rattle.trace_format.specs.Said as said
use Rattle.ld_term.specs.Terms.{Term}
use Rattle.ld_term.specs.StrictTexts.{strict_text}
use Rattle.ld_term.proofs.StrictLemmas.{length-strict_text}
use Rattle.trace_format.specs.declared.line.StepLine.TheVariants.{Handle, Commute, Swap, Delete, Insert}
use Rattle.trace_format.specs.declared.verdict.Verdict.TheVariants.{Less, Equal, Greater}
use Rattle.wb_base.specs.Fields.{IsPlace}
use Rattle.trace_format.specs.TraceLines.{line_text, IsShortTerm, IsLine}
use Rattle.braid_word.proofs.FieldLemmas.{word_field-flat_map}
use Rattle.trace_check.specs.declared.TheConstants.{MAX_LINE}

-- a letter behind a space has at most five bytes
length-next_text : (x : Letter) → x.index < MAX_INDEX + 1 → length (next_text x) ≤ 5
length-next_text x high =
    let digits : length (decimal x.index) ≤ 3
    = length-decimal-le_wide 3 x.index (omega arith) (omega arith) (omega arith) in
    let whole = length-append (sign_text x.negative) (decimal x.index) in
    let sign : length (sign_text x.negative) ≤ 1 = length-sign_text x.negative in
    omega (arith, digits, whole, sign)
  where
    length-sign_text : (negative : Bool) → length (sign_text negative) ≤ 1
    length-sign_text true = omega arith
    length-sign_text false = omega arith

-- so many letters have five times that
length-flat_map_next_text
    : (w : List Letter)
    → IsOn (MAX_INDEX + 1) w
    → length (flat_map next_text w) ≤ 5 * length w
length-flat_map_next_text [] on = omega arith
length-flat_map_next_text (x ∷ w) on =
    let first = length-next_text x on.0.1 in
    let rest = length-flat_map_next_text w on.1 in
    omega (arith, first, rest, length-append (next_text x) (flat_map next_text w))

-- a word behind a keyword
length-word_field : (w : List Letter) → IsReadable w → length (word_field w) ≤ 500000
length-word_field w readable =
    let all = length-flat_map_next_text w readable.on in
    subst (λ (text : List ℕ). length text ≤ 500000) (sym (word_field-flat_map w))
    (omega (arith, all, readable.short))

-- a keyword and a word
length-keyword_word
    : (keyword : List ℕ) (w : List Letter)
    → length keyword ≤ 20
    → IsReadable w
    → length (keyword ++ word_field w) ≤ MAX_LINE
length-keyword_word keyword w short readable =
    omega (arith, short, length-word_field w readable, length-append keyword (word_field w))

-- a keyword and a term
length-keyword_term
    : (keyword : List ℕ) (t : Term)
    → length keyword ≤ 20
    → IsShortTerm t
    → length (keyword ++ strict_text t) ≤ MAX_LINE
length-keyword_term keyword t short small =
    omega (arith, short, small.few, length-strict_text t, length-append keyword (strict_text t))

-- a place
pub length-place : (p : ℕ) → IsPlace p → length (decimal p) ≤ 10
length-place p place = length-decimal-le_wide 10 p (omega arith) (omega arith) (omega arith)

-- no line of a trace is too long
pub length-line_text : (l : Said) → IsLine l → length (line_text l) ≤ MAX_LINE
length-line_text said.start is = omega arith
length-line_text (said.left w) is = length-keyword_word (codes "left") w (omega arith) is
length-line_text (said.right w) is = length-keyword_word (codes "right") w (omega arith) is
length-line_text (said.left_term t) is = length-keyword_term (codes "left-term ") t (omega arith) is
length-line_text (said.right_term t) is = length-keyword_term (codes "right-term ") t (omega arith) is
length-line_text (said.step (Handle p q)) is =
    omega (
      arith,
      length-place p is.0,
      length-place q is.1,
      length-append (decimal p) (32 ∷ decimal q),
    )
length-line_text (said.step (Commute p)) is = omega (arith, length-place p is)
length-line_text (said.step (Swap p)) is = omega (arith, length-place p is)
length-line_text (said.step (Delete p)) is = omega (arith, length-place p is)
length-line_text (said.step (Insert p x)) is =
    omega (
      arith,
      length-place p is.0,
      length-next_text x is.1.0.1,
      length-append (decimal p) (next_text x),
    )
length-line_text (said.verdict Less) is = omega arith
length-line_text (said.verdict Equal) is = omega arith
length-line_text (said.verdict Greater) is = omega arith
length-line_text (said.witness w) is = length-keyword_word (codes "witness") w (omega arith) is
length-line_text said.finish is = omega arith
