-- The lines of a text.
--
-- The lines are the pieces between bytes LF, without a last piece that is empty. So an empty text has no
-- line, and one LF is one empty line.
--
-- Source: this project's own.
--
--   lines_of bytes      all lines
--   cut bytes           the lines that an LF ends, and what stands behind the last LF
--   whole_lines bytes   the first of these two alone
--   line text           a text, as a line
--   HasNoLf text        no byte of it is an LF
use Rattle.std.specs.Prelude.{◌≢◌, ◌<◌, ℕ, ◌==◌, if◌then◌else◌, List, [], ◌∷◌, ◌++◌, length, get_or}
use Rattle.std.specs.List.{onto_first}

-- The lines, without their LF: of `a LF LF b` they are `a`, an empty one and `b`.
abbrev pub lines_of : List ℕ → List (List ℕ)
lines_of [] = []
lines_of (byte ∷ bytes) = if byte == 10 then [] ∷ lines_of bytes else onto_first byte (lines_of bytes)

-- A byte in front of the first whole line, or of the rest where there is no line.
abbrev pub onto_line : ℕ → List (List ℕ) × List ℕ → List (List ℕ) × List ℕ
onto_line byte ([], rest) = ([], byte ∷ rest)
onto_line byte (text ∷ texts, rest) = ((byte ∷ text) ∷ texts, rest)

-- The lines that an LF ends, without it, and what stands behind the last LF: of `a LF b` they are `a`, and
-- `b`.
abbrev pub cut : List ℕ → List (List ℕ) × List ℕ
cut [] = ([], [])
cut (byte ∷ bytes) = if byte == 10 then ([] ∷ (cut bytes).0, (cut bytes).1) else onto_line byte (cut bytes)

-- The lines that an LF ends, without it: of `a LF b` it is `a` alone.
abbrev pub whole_lines : List ℕ → List (List ℕ)
whole_lines bytes = (cut bytes).0

-- A text, as a line with its LF.
abbrev pub line : List ℕ → List ℕ
line text = text ++ 10 ∷ []

-- No byte of a text is an LF.
abbrev pub HasNoLf : List ℕ → Type 0
HasNoLf text = (k : ℕ) → k < length text → get_or text k 0 ≢ 10
