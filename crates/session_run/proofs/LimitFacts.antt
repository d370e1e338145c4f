-- The limits of this crate, as numbers: its definitions cite them by name.
use Rattle.std.proofs.Common.{◌≡◌, refl}
use Rattle.session_run.specs.declared.TheConstants.{MAX_JOBS, MAX_INPUT, MAX_PIECE}

-- at most 64 jobs are open
jobs_row : MAX_JOBS ≡ 64
jobs_row = refl

-- a session reads at most 8,388,608 bytes
input_row : MAX_INPUT ≡ 8388608
input_row = refl

-- a piece has at most 4,096 bytes
piece_row : MAX_PIECE ≡ 4096
piece_row = refl
