-- The lines of a trace file, each by itself.
--
-- A line's keyword, its first word, says of which kind the line is, and the rest of the line has the grammar of
-- that kind.
-- Source: this project's own.
--
--   keyword_by word      the keyword that this is, if it is one
--   kind_of line         the kind of line that it names
--   line_of line         what the line says, or why it says nothing
--   line_text l          the text of what a line says
--   IsShortTerm t        t may stand in a trace file, as far as its size goes
--   IsLine l             l can be said by a line
--   IsTrace t            t can be written and read: each of its lines can be said
--   Gives result read    what a reader answered is what is read, unless memory ran out
--   Reads result read    the same of what a line says
use Rattle.std.specs.Prelude.{ℕ, ◌+◌, ◌≤◌, ◌||◌, ◌==◌, nat_lt, if◌then◌else◌, List, [], ◌∷◌, ◌++◌, length, codes, Option, Some, None, Result, Ok, Err}
use Rattle.std.specs.List.{AllByRecursion}
use Rattle.std.specs.Str.{bytes_eq}
use Rattle.wb_base.specs.Memory.{UnlessMemory}
use Rattle.wb_base.specs.Fields.{keyword_of, behind_keyword, place_at, IsPlace}
use Rattle.braid_word.specs.Words.{Letter, IsOn}
use Rattle.braid_word.specs.Notation.{strict_word_of, IsReadable, field_word, word_field}
use Rattle.braid_word.specs.declared.TheConstants.{MAX_INDEX}
use Rattle.braid_word.specs.declared.reader.WordErr.{WordErr}
use Rattle.braid_word.specs.declared.reader.WordErr.TheVariants as word_errors
use Rattle.ld_term.specs.Terms.{Term, height, leaf_count}
use Rattle.ld_term.specs.StrictTexts.{as_term, strict_text, strict_term_of}
use Rattle.ld_term.specs.TreeTexts.{written}
use Rattle.ld_term.specs.declared.tree.Tree.{Tree}
use Rattle.ld_term.specs.declared.TheConstants.{MAX_PRODUCTS}
use Rattle.trace_format.specs.declared.verdict.Verdict.{Verdict}
use Rattle.trace_format.specs.declared.verdict.Verdict.TheVariants as verdicts
use Rattle.trace_format.specs.declared.line.Keyword.{Keyword}
use Rattle.trace_format.specs.declared.line.Keyword.TheVariants as words
use Rattle.trace_format.specs.declared.line.Kind.{Kind}
use Rattle.trace_format.specs.declared.line.Kind.TheVariants as kinds
use Rattle.trace_format.specs.declared.line.StepLine.{StepLine}
use Rattle.trace_format.specs.declared.line.StepLine.TheVariants.{Handle, Commute, Swap, Delete, Insert}
use Rattle.trace_format.specs.declared.line.Line.{Line}
use Rattle.trace_format.specs.declared.line.LineErr.{LineErr}
use Rattle.trace_format.specs.declared.line.LineErr.TheVariants.{Unknown, Form, Long, Memory}
use Rattle.trace_format.specs.Said.{Said, said_by}
use Rattle.trace_format.specs.Said as said
use Rattle.trace_format.specs.TraceText.{Header, words as two_words, terms as two_terms, Trace, step_text, verdict_word}

-- ---- Keywords ----

-- The keyword that a first word is. Each kind of step has its own.
abbrev pub keyword_by : List ℕ → Option Keyword
keyword_by word =
    if bytes_eq word (codes "h") then Some words.Handle
    else (if bytes_eq word (codes "c") then Some words.Commute
    else (if bytes_eq word (codes "s") then Some words.Swap
    else (if bytes_eq word (codes "d") then Some words.Delete
    else (if bytes_eq word (codes "i") then Some words.Insert
    else (if bytes_eq word (codes "braid-trace") then Some words.Start
    else (if bytes_eq word (codes "left") then Some words.Left
    else (if bytes_eq word (codes "right") then Some words.Right
    else (if bytes_eq word (codes "left-term") then Some words.LeftTerm
    else (if bytes_eq word (codes "right-term") then Some words.RightTerm
    else (if bytes_eq word (codes "verdict") then Some words.Verdict
    else (if bytes_eq word (codes "witness") then Some words.Witness
    else (if bytes_eq word (codes "end") then Some words.Finish else None))))))))))))

-- The kind of line that a keyword names.
abbrev pub kind_named : Keyword → Kind
kind_named words.Handle = kinds.Step
kind_named words.Commute = kinds.Step
kind_named words.Swap = kinds.Step
kind_named words.Delete = kinds.Step
kind_named words.Insert = kinds.Step
kind_named words.Start = kinds.Start
kind_named words.Left = kinds.Left
kind_named words.Right = kinds.Right
kind_named words.LeftTerm = kinds.LeftTerm
kind_named words.RightTerm = kinds.RightTerm
kind_named words.Verdict = kinds.Verdict
kind_named words.Witness = kinds.Witness
kind_named words.Finish = kinds.Finish

-- The kind of line that is named, if there is a keyword.
abbrev pub kind_by : Option Keyword → Option Kind
kind_by None = None
kind_by (Some word) = Some (kind_named word)

-- The kind of a line, by its keyword.
abbrev pub kind_of : List ℕ → Option Kind
kind_of line = kind_by (keyword_by (keyword_of line))

-- ---- The rest of a line ----

-- A word behind its keyword. A word of too many letters is long; any other fault is one of form. Want of
-- memory has a line here for completeness: a definition never answers it.
abbrev pub strict_result : Result (List Letter) WordErr → Result (List Letter) LineErr
strict_result (Ok w) = Ok w
strict_result (Err (word_errors.TooLong count)) = Err Long
strict_result (Err (word_errors.BadLetter place)) = Err Form
strict_result (Err (word_errors.BadIndex place)) = Err Form
strict_result (Err word_errors.Memory) = Err Form

-- A term that isn't too large for a trace file: each index of its braid word can be read. A term has one leaf
-- more than products.
pub record IsShortTerm (t : Term) : Type 0 where
  pub low : height t ≤ MAX_INDEX
  pub few : leaf_count t ≤ MAX_PRODUCTS + 1

-- A term that was read, where it isn't too large.
abbrev pub short_term : Option Term → Result Term LineErr
short_term None = Err Form
short_term (Some t) =
    if nat_lt MAX_INDEX (height t) || nat_lt (MAX_PRODUCTS + 1) (leaf_count t) then Err Long else Ok t

-- A term behind its keyword: a space, and its strict text.
abbrev pub field_term : List ℕ → Result Term LineErr
field_term [] = Err Form
field_term (space ∷ bytes) = short_term (strict_term_of bytes)

-- What is made of a part that is read.
abbrev pub made_of : {X Y : Type 0} → (X → Y) → Result X LineErr → Result Y LineErr
made_of f (Ok x) = Ok (f x)
made_of f (Err e) = Err e

-- A place, with nothing behind it.
abbrev pub only_place : Option (ℕ × List ℕ) → Result ℕ LineErr
only_place None = Err Form
only_place (Some (p, [])) = Ok p
only_place (Some (p, byte ∷ bytes)) = Err Form

-- Two places behind `h`, with nothing behind them.
abbrev pub two_places : Option (ℕ × List ℕ) → Result StepLine LineErr
two_places None = Err Form
two_places (Some (p, bytes)) = made_of (Handle p) (only_place (place_at bytes))

-- The letter of a word of one letter.
abbrev pub letter_alone : Result (List Letter) WordErr → Result Letter LineErr
letter_alone (Ok (x ∷ [])) = Ok x
letter_alone (Ok w) = Err Form
letter_alone (Err e) = Err Form

-- A space and then a letter in its strict spelling, with nothing behind it.
abbrev pub only_letter : List ℕ → Result Letter LineErr
only_letter [] = Err Form
only_letter (byte ∷ bytes) = if byte == 32 then letter_alone (strict_word_of bytes) else Err Form

-- A place and a letter behind `i`, with nothing behind them.
abbrev pub place_and_letter : Option (ℕ × List ℕ) → Result StepLine LineErr
place_and_letter None = Err Form
place_and_letter (Some (p, bytes)) = made_of (Insert p) (only_letter bytes)

-- The verdict behind its keyword.
abbrev pub verdict_by : List ℕ → Result Verdict LineErr
verdict_by rest =
    if bytes_eq rest (codes " less") then Ok verdicts.Less
    else (if bytes_eq rest (codes " equal") then Ok verdicts.Equal
    else (if bytes_eq rest (codes " greater") then Ok verdicts.Greater else Err Form))

-- A line with this keyword and this rest.
abbrev pub line_by : Option Keyword → List ℕ → Result Said LineErr
line_by None rest = Err Unknown
line_by (Some words.Start) rest = if bytes_eq rest (codes " 1") then Ok said.start else Err Form
line_by (Some words.Left) rest = made_of said.left (strict_result (field_word rest))
line_by (Some words.Right) rest = made_of said.right (strict_result (field_word rest))
line_by (Some words.LeftTerm) rest = made_of said.left_term (field_term rest)
line_by (Some words.RightTerm) rest = made_of said.right_term (field_term rest)
line_by (Some words.Handle) rest = made_of said.step (two_places (place_at rest))
line_by (Some words.Commute) rest = made_of (λ p. said.step (Commute p)) (only_place (place_at rest))
line_by (Some words.Swap) rest = made_of (λ p. said.step (Swap p)) (only_place (place_at rest))
line_by (Some words.Delete) rest = made_of (λ p. said.step (Delete p)) (only_place (place_at rest))
line_by (Some words.Insert) rest = made_of said.step (place_and_letter (place_at rest))
line_by (Some words.Verdict) rest = made_of said.verdict (verdict_by rest)
line_by (Some words.Witness) rest = made_of said.witness (strict_result (field_word rest))
line_by (Some words.Finish) rest = if length rest == 0 then Ok said.finish else Err Form

-- What a line says, without its LF.
unfoldable pub line_of : List ℕ → Result Said LineErr
line_of line = line_by (keyword_by (keyword_of line)) (behind_keyword line)

-- The fault of the line that an error tells, if it tells one.
abbrev pub fault_in : LineErr → Option LineErr
fault_in Memory = None
fault_in Unknown = Some Unknown
fault_in Form = Some Form
fault_in Long = Some Long

-- What a reader answered is what is read, unless memory ran out. No public clause cites it.
abbrev pub Gives : {X : Type 0} → Result X LineErr → Result X LineErr → Type 0
Gives {X} result read = UnlessMemory (λ (x : X). x) fault_in result read

-- The same of a term, which a reader gives as a tree. No public clause cites it.
abbrev pub ReadsTerm : Result Tree LineErr → Result Term LineErr → Type 0
ReadsTerm result read = UnlessMemory (λ (tree : Tree). as_term (written tree)) fault_in result read

-- The same of what a line says.
abbrev pub Reads : Result Line LineErr → Result Said LineErr → Type 0
Reads result read = UnlessMemory said_by fault_in result read

-- ---- The text of a line ----

-- The text of what a line says, without LF.
abbrev pub line_text : Said → List ℕ
line_text said.start = codes "braid-trace 1"
line_text (said.left w) = codes "left" ++ word_field w
line_text (said.right w) = codes "right" ++ word_field w
line_text (said.left_term t) = codes "left-term " ++ strict_text t
line_text (said.right_term t) = codes "right-term " ++ strict_text t
line_text (said.step s) = step_text s
line_text (said.verdict v) = codes "verdict " ++ verdict_word v
line_text (said.witness w) = codes "witness" ++ word_field w
line_text said.finish = codes "end"

-- Each place of a step is one, and its letter can be read.
abbrev pub IsStepLine : StepLine → Type 0
IsStepLine (Handle p q) = IsPlace p × IsPlace q
IsStepLine (Commute p) = IsPlace p
IsStepLine (Swap p) = IsPlace p
IsStepLine (Delete p) = IsPlace p
IsStepLine (Insert p x) = IsPlace p × IsOn (MAX_INDEX + 1) (x ∷ [])

-- What a line can say: its words can be read, its term isn't too large, and its places are from 1 to the
-- greatest of 32 bits.
abbrev pub IsLine : Said → Type 0
IsLine said.start = Unit {0}
IsLine (said.left w) = IsReadable w
IsLine (said.right w) = IsReadable w
IsLine (said.left_term t) = IsShortTerm t
IsLine (said.right_term t) = IsShortTerm t
IsLine (said.step s) = IsStepLine s
IsLine (said.verdict v) = Unit {0}
IsLine (said.witness w) = IsReadable w
IsLine said.finish = Unit {0}

-- What is compared can be read.
abbrev pub IsHeader : Header → Type 0
IsHeader (two_words u v) = IsReadable u × IsReadable v
IsHeader (two_terms t u) = IsShortTerm t × IsShortTerm u

-- The words of a trace can be read, its terms aren't too large, and the places of its steps are places.
pub record IsTrace (t : Trace) : Type 0 where
  pub header : IsHeader t.header
  pub steps : AllByRecursion IsStepLine t.steps
  pub witness : IsReadable t.witness
