-- The limits of this crate, as numbers: its definitions cite them by name.
use Rattle.std.proofs.Common.{◌≡◌, refl}
use Rattle.wb_command.specs.declared.TheConstants.{MAX_INPUT, MAX_STRANDS}

-- an input that is read whole has at most 8,388,608 bytes
input_row : MAX_INPUT ≡ 8388608
input_row = refl

-- there are at most 64 strands
strands_row : MAX_STRANDS ≡ 64
strands_row = refl
