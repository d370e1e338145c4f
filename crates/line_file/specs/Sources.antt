-- Checks of what a source gives.
--
-- Source: this project's own.
--
--   Checks f limit old new result   what a check of all bytes that a source had left answers, and what it has
--                                   taken of them; a file has at most `limit` bytes
--   EndsSource result ended         the same of what is held at the end
use Rattle.std.specs.Prelude.{◌≡◌, ℕ, ◌+◌, ◌≤◌, List, length, Option, Some, None, Result, Ok, Err}
use Rattle.wb_base.specs.Streams.{ReadsAll, Skips}
use Rattle.line_file.specs.Formats.{Format, checked_of}
use Rattle.line_file.specs.declared.source.SourceErr.{SourceErr}
use Rattle.line_file.specs.declared.source.SourceErr.TheVariants.{Refused, TooLarge, Fault, Memory}

-- A claim and a refusal are those of all bytes. At most one byte past the limit was taken, and exactly that
-- where there are too many, whatever the lines before it are.
abbrev pub Checks
    : {D W C : Type 0}
    → Format D W C
    → ℕ
    → Option (List ℕ)
    → Option (List ℕ)
    → Result C (SourceErr W)
    → Type 0
Checks f limit old new (Ok claim) =
    (bytes : List ℕ) × (length bytes ≤ limit) × ReadsAll old new bytes × (checked_of f bytes ≡ Ok claim)
Checks f limit old new (Err (Refused line why)) =
    (bytes : List ℕ)
    × (length bytes ≤ limit)
    × ReadsAll old new bytes
    × (checked_of f bytes ≡ Err (line, why))
Checks f limit old new (Err TooLarge) = Skips old new (limit + 1)
Checks f limit old new (Err Fault) = (n : ℕ) × (n ≤ limit) × Skips old new n
Checks f limit old new (Err Memory) = (n : ℕ) × (n ≤ limit + 1) × Skips old new n

-- What is answered at the end; want of memory only where it ran out before. No public clause cites it.
abbrev pub EndsSource : {C W : Type 0} → Result C (SourceErr W) → Option (Result C (ℕ × W)) → Type 0
EndsSource (Ok claim) ended = ended ≡ Some (Ok claim)
EndsSource (Err (Refused line why)) ended = ended ≡ Some (Err (line, why))
EndsSource (Err TooLarge) ended = ⊥
EndsSource (Err Fault) ended = ⊥
EndsSource (Err Memory) ended = ended ≡ None
