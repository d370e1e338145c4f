-- The limits of this crate, as numbers: its definitions cite them by name.
use Rattle.std.proofs.Common.{◌≡◌, refl}
use Rattle.wb_base.specs.declared.TheConstants.{MAX_WHOLE}

-- at most 67,108,864 bytes are read whole
whole_row : MAX_WHOLE ≡ 67108864
whole_row = refl
