-- The fields of a line: its keyword, and places of letters.
--
-- A line's keyword is what stands before its first space, or the whole line. Fields are parted by one space,
-- which is the byte 32.
-- Source: this project's own.
--
--   keyword_of line      its first word
--   behind_keyword line  what stands behind that
--   IsBehind bytes       they can stand behind a keyword
--   place_at bytes       the place that stands in front behind a space, and what follows it
--   IsPlace p            p is a place
--
-- The laws stand in `proofs/FieldLemmas.antt`.
use Rattle.std.specs.Prelude.{◌≡◌, ℕ, ◌<◌, ◌&&◌, ◌==◌, nat_lt, if◌then◌else◌, List, [], ◌∷◌, length, drop, Option, Some, None}
use Rattle.std.specs.List.{before_first}
use Rattle.wb_base.specs.Numbers.{number_at}

-- ---- Keywords ----

-- What stands before the first space, or all: of `h 2 4` it is `h`.
abbrev pub keyword_of : List ℕ → List ℕ
keyword_of line = before_first (λ byte. byte == 32) line

-- What stands behind the keyword: nothing, or a space and what follows it.
abbrev pub behind_keyword : List ℕ → List ℕ
behind_keyword line = drop (length (keyword_of line)) line

-- What can stand behind a keyword: nothing, or a space and more.
abbrev pub IsBehind : List ℕ → Type 0
IsBehind [] = Unit {0}
IsBehind (byte ∷ bytes) = byte ≡ 32

-- ---- Places ----

-- A number in front from 1 to the greatest of 32 bits, and what follows it.
abbrev pub placed_by : List ℕ → Option (ℕ × ℕ) → Option (ℕ × List ℕ)
placed_by bytes None = None
placed_by bytes (Some (value, digits)) =
    if nat_lt 0 value && nat_lt value 4294967296 then Some (value, drop digits bytes) else None

-- A space and then a place, and what follows it: of ` 2 4` they are 2 and ` 4`.
abbrev pub place_at : List ℕ → Option (ℕ × List ℕ)
place_at [] = None
place_at (byte ∷ bytes) = if byte == 32 then placed_by bytes (number_at bytes) else None

-- A place of a letter, counted from 1.
abbrev pub IsPlace : ℕ → Type 0
IsPlace p = (0 < p) × (p < 4294967296)
