-- The lines of a reverse file, each by itself.
--
-- A line has a keyword, and what stands behind it has the grammar that goes with that.
-- Source: this project's own.
--
--   word_behind rest     the word that stands behind a keyword, or why none does
--   place_behind rest    the place that stands behind a keyword
--   Said                 what a line says
--   line_text s          its text
--   IsLine s             it can be said by a line
--   IsReversal r         r can be written and read: each of its lines can be said
use Rattle.std.specs.Prelude.{ℕ, List, [], ◌∷◌, ◌++◌, codes, decimal, Option, Some, None, Result, Ok, Err}
use Rattle.std.specs.List.{AllByRecursion}
use Rattle.wb_base.specs.Fields.{place_at, IsPlace}
use Rattle.braid_word.specs.Words.{Letter}
use Rattle.braid_word.specs.Notation.{IsReadable, word_field, field_word}
use Rattle.braid_word.specs.declared.reader.WordErr.{WordErr}
use Rattle.braid_word.specs.declared.reader.WordErr.TheVariants as word_errors
use Rattle.word_reverse.specs.ReverseText.{Reversal}
use Rattle.word_reverse.specs.declared.fraction.ReverseWhy.{ReverseWhy}
use Rattle.word_reverse.specs.declared.fraction.ReverseWhy.TheVariants.{Form, Long}

-- ---- What stands behind a keyword ----

-- A word of too many letters is long; any other fault is one of form. Want of memory has a line here for
-- completeness: a definition never answers it.
abbrev pub strict_result : Result (List Letter) WordErr → Result (List Letter) ReverseWhy
strict_result (Ok w) = Ok w
strict_result (Err (word_errors.TooLong count)) = Err Long
strict_result (Err (word_errors.BadLetter place)) = Err Form
strict_result (Err (word_errors.BadIndex place)) = Err Form
strict_result (Err word_errors.Memory) = Err Form

-- The word there.
abbrev pub word_behind : List ℕ → Result (List Letter) ReverseWhy
word_behind rest = strict_result (field_word rest)

-- A place, with nothing behind it.
abbrev pub only_place : Option (ℕ × List ℕ) → Option ℕ
only_place None = None
only_place (Some (p, [])) = Some p
only_place (Some (p, byte ∷ bytes)) = None

-- The place there, and nothing else.
abbrev pub place_behind : List ℕ → Option ℕ
place_behind rest = only_place (place_at rest)

-- ---- What a line says ----

-- The start, the word, a step that turns the corner at a place, the two words of the fraction, or the end.
pub data Said : Type 0 where
  start : Said
  word : (w : List Letter) → Said
  step : (p : ℕ) → Said
  left : (u : List Letter) → Said
  right : (v : List Letter) → Said
  finish : Said

-- Its text, without LF.
abbrev pub line_text : Said → List ℕ
line_text start = codes "reverse-trace 1"
line_text (word w) = codes "word" ++ word_field w
line_text (step p) = codes "r " ++ decimal p
line_text (left u) = codes "left" ++ word_field u
line_text (right v) = codes "right" ++ word_field v
line_text finish = codes "end"

-- A word can be read, and a place is one.
abbrev pub IsLine : Said → Type 0
IsLine start = Unit {0}
IsLine (word w) = IsReadable w
IsLine (step p) = IsPlace p
IsLine (left u) = IsReadable u
IsLine (right v) = IsReadable v
IsLine finish = Unit {0}

-- The words can be read, and the places are places.
pub record IsReversal (r : Reversal) : Type 0 where
  pub word : IsReadable r.word
  pub places : AllByRecursion IsPlace r.places
  pub left : IsReadable r.left
  pub right : IsReadable r.right
