-- What a call answered, where it may lack memory instead.
--
-- A call answers what a definition says, but for want of memory, which is free at any time: nothing is known
-- of what the definition says there.
-- Source: this project's own.
--
--   FailsAs fault read                   the definition says this fault, or memory ran out
--   UnlessMemory seen fault result read  a call answered what the definition says, unless memory ran out
use Rattle.std.specs.Prelude.{◌≡◌, Option, Some, None, Result, Ok, Err}

-- No fault is want of memory.
abbrev pub FailsAs : {Y F : Type 0} → Option F → Result Y F → Type 0
FailsAs None read = Unit {0}
FailsAs (Some f) read = read ≡ Err f

-- `seen` is what the definition says of a value of the code, and `fault` what it says of an error, if it says
-- anything of that.
abbrev pub UnlessMemory : {X Y E F : Type 0} → (X → Y) → (E → Option F) → Result X E → Result Y F → Type 0
UnlessMemory seen fault (Ok x) read = read ≡ Ok (seen x)
UnlessMemory seen fault (Err e) read = FailsAs (fault e) read
