-- What the functions answer that keep lines and check files.
--
-- Source: this project's own.
--
--   Keeps result kept    what was answered is what is due, unless memory ran out
--   Gives result file    the same of what a file claims
--   told held            what a checker answers that holds this: no error while it is reading
--   Ends result ended    what it answers at the end: what the file is, and want of memory where it ran out
use Rattle.std.specs.Prelude.{◌≡◌, ℕ, Option, Some, None, Result, Ok, Err}
use Rattle.wb_base.specs.Memory.{UnlessMemory}
use Rattle.line_file.specs.declared.format.Stop.{Stop}
use Rattle.line_file.specs.declared.format.Stop.TheVariants as stops
use Rattle.line_file.specs.declared.format.FileErr.{FileErr}
use Rattle.line_file.specs.declared.format.FileErr.TheVariants as errors
use Rattle.line_file.specs.Pieces.{Held, is_reading, was_refused, ran_out}

-- The cause that an error tells, if it tells one.
abbrev pub why_of : {W : Type 0} → Stop W → Option W
why_of stops.Memory = None
why_of (stops.Refused why) = Some why

abbrev pub Keeps : {D W : Type 0} → Result D (Stop W) → Result D W → Type 0
Keeps {D} result kept = UnlessMemory (λ (now : D). now) why_of result kept

-- The refusal that an error tells, if it tells one.
abbrev pub refusal_in : {W : Type 0} → FileErr W → Option (ℕ × W)
refusal_in errors.Memory = None
refusal_in (errors.Refused line why) = Some (line, why)

abbrev pub Gives : {C W : Type 0} → Result C (FileErr W) → Result C (ℕ × W) → Type 0
Gives {C} result file = UnlessMemory (λ (claim : C). claim) refusal_in result file

-- What a checker answers to a piece, by what it then holds.
abbrev pub told : {D W : Type 0} → Held D W → Result Unit (FileErr W)
told (is_reading k now rest) = Ok tt
told (was_refused k why) = Err (errors.Refused k why)
told ran_out = Err errors.Memory

-- At the end want of memory is answered only where it ran out before.
abbrev pub Ends : {C W : Type 0} → Result C (FileErr W) → Option (Result C (ℕ × W)) → Type 0
Ends (Ok claim) ended = ended ≡ Some (Ok claim)
Ends (Err errors.Memory) ended = ended ≡ None
Ends (Err (errors.Refused line why)) ended = ended ≡ Some (Err (line, why))
