-- The lines of a session, and the commands that they are.
--
-- Fields are the runs of bytes that aren't spaces, byte 32. A line that opens a job has two bars, byte
-- 124: between them, and behind the second, stand the words of the job, in either notation. Any other line
-- has no bar. A line of no such form is no command.
-- Source: this project's own.
--
--   fields_of text        the fields of a text
--   small_number field    the number that a field is, up to 100,000
--   command_of line       the command that a line is
--   HasSmallNumbers c     the numbers of a command are up to 100,000
--   Gives result read     what a reader answered is what is read, unless memory ran out
use Rattle.std.specs.Prelude.{◌≡◌, ℕ, ◌≤◌, ◌==◌, not, if◌then◌else◌, List, [], ◌∷◌, length, filter, codes, Option, Some, None, Result, Ok, Err}
use Rattle.std.specs.List.{slice_split}
use Rattle.std.specs.Str.{bytes_eq}
use Rattle.wb_base.specs.Names.{is_name}
use Rattle.wb_base.specs.Numbers.{number_within}
use Rattle.braid_word.specs.Words.{Letter}
use Rattle.braid_word.specs.Notation.{word_of}
use Rattle.braid_word.specs.declared.reader.WordErr.{WordErr}
use Rattle.handle_reduce.specs.declared.TheConstants.{MAX_BOUND}
use Rattle.session_run.specs.declared.command.Command.{Command}
use Rattle.session_run.specs.declared.command.Command.TheVariants.{Begin, Turn, Show, Take, Close, List as ListJobs}
use Rattle.session_run.specs.declared.command.CommandErr.{CommandErr}
use Rattle.session_run.specs.declared.command.CommandErr.TheVariants.{Bad, Memory}

-- ---- Fields ----

-- The fields of a text: of ` turn  a 1` they are `turn`, `a` and `1`.
abbrev pub fields_of : List ℕ → List (List ℕ)
fields_of text = filter (λ (part : List ℕ). not (length part == 0)) (slice_split (λ byte. byte == 32) text)

-- The name that a field is.
abbrev pub name_of : List ℕ → Option (List ℕ)
name_of field = if is_name field then Some field else None

-- The number that a field is, up to 100,000.
abbrev pub small_number : List ℕ → Option ℕ
small_number field = number_within 0 MAX_BOUND field

-- ---- Lines without a bar ----

abbrev pub turn_by : Option (List ℕ) → Option ℕ → Option Command
turn_by (Some name) (Some count) = Some (Turn name count)
turn_by (Some name) None = None
turn_by None count = None

-- The fields behind `turn`: a name and a number.
abbrev pub turn_of : List (List ℕ) → Option Command
turn_of [] = None
turn_of (name ∷ []) = None
turn_of (name ∷ (count ∷ [])) = turn_by (name_of name) (small_number count)
turn_of (name ∷ (count ∷ (other ∷ fields))) = None

-- The fields behind `list`: none.
abbrev pub list_of : List (List ℕ) → Option Command
list_of [] = Some ListJobs
list_of (field ∷ fields) = None

-- The name that is the one field.
abbrev pub only_name : List (List ℕ) → Option (List ℕ)
only_name [] = None
only_name (name ∷ []) = name_of name
only_name (name ∷ (other ∷ fields)) = None

-- The command of this word on a name.
abbrev pub named_by : List ℕ → Option (List ℕ) → Option Command
named_by word None = None
named_by word (Some name) =
    if bytes_eq word (codes "show") then Some (Show name)
    else (if bytes_eq word (codes "take") then Some (Take name)
    else (if bytes_eq word (codes "close") then Some (Close name) else None))

-- The command of a line without a bar, by its fields.
abbrev pub plain_of : List (List ℕ) → Option Command
plain_of [] = None
plain_of (word ∷ fields) =
    if bytes_eq word (codes "turn") then turn_of fields
    else (if bytes_eq word (codes "list") then list_of fields else named_by word (only_name fields))

-- ---- Lines with two bars ----

-- What stands before the first bar: a name, and the limits on reductions and on letters.
abbrev pub Head : Type 0
Head = List ℕ × ℕ × ℕ

abbrev pub head_by : Option (List ℕ) → Option ℕ → Option ℕ → Option Head
head_by None handles limit = None
head_by (Some name) None limit = None
head_by (Some name) (Some handles) None = None
head_by (Some name) (Some handles) (Some limit) = Some (name, handles, limit)

-- The fields behind `open`.
abbrev pub opened_by : List (List ℕ) → Option Head
opened_by [] = None
opened_by (name ∷ []) = None
opened_by (name ∷ (handles ∷ [])) = None
opened_by (name ∷ (handles ∷ (limit ∷ []))) =
    head_by (name_of name) (small_number handles) (small_number limit)
opened_by (name ∷ (handles ∷ (limit ∷ (other ∷ fields)))) = None

-- The fields before the first bar.
abbrev pub head_of : List (List ℕ) → Option Head
head_of [] = None
head_of (word ∷ fields) = if bytes_eq word (codes "open") then opened_by fields else None

-- The command that opens a job, where all its parts can be read.
abbrev pub begin_by : Option Head → Result (List Letter) WordErr → Result (List Letter) WordErr
    → Option Command
begin_by (Some head) (Ok left) (Ok right) = Some (Begin head.0 head.1 head.2 left right)
begin_by (Some head) (Ok left) (Err e) = None
begin_by (Some head) (Err e) right = None
begin_by None left right = None

-- ---- Lines ----

-- The command by the parts between bars.
abbrev pub command_by : List (List ℕ) → Option Command
command_by [] = None
command_by (text ∷ []) = plain_of (fields_of text)
command_by (head ∷ (left ∷ [])) = None
command_by (head ∷ (left ∷ (right ∷ []))) = begin_by (head_of (fields_of head)) (word_of left) (word_of right)
command_by (head ∷ (left ∷ (right ∷ (other ∷ parts)))) = None

-- The command that a line is, if it is one.
unfoldable pub command_of : List ℕ → Option Command
command_of line = command_by (slice_split (λ byte. byte == 124) line)

-- The numbers are up to 100,000.
abbrev pub HasSmallNumbers : Command → Type 0
HasSmallNumbers (Begin name handles limit left right) = (handles ≤ MAX_BOUND) × (limit ≤ MAX_BOUND)
HasSmallNumbers (Turn name count) = count ≤ MAX_BOUND
HasSmallNumbers (Show name) = Unit {0}
HasSmallNumbers (Take name) = Unit {0}
HasSmallNumbers (Close name) = Unit {0}
HasSmallNumbers ListJobs = Unit {0}

-- Want of memory is free; a line that is bad is no command.
abbrev pub Fails : CommandErr → Option Command → Type 0
Fails Memory read = Unit {0}
Fails Bad read = read ≡ None

-- What a reader answered is what is read, unless memory ran out.
abbrev pub Gives : Result Command CommandErr → Option Command → Type 0
Gives (Ok command) read = read ≡ Some command
Gives (Err e) read = Fails e read
