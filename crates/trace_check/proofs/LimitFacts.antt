-- The limits of this crate, as numbers: its definitions cite them by name.
use Rattle.std.proofs.Common.{◌≡◌, refl}
use Rattle.trace_check.specs.declared.TheConstants.{MAX_LINE}

-- a line of a trace file has at most 524,288 bytes
line_row : MAX_LINE ≡ 524288
line_row = refl
