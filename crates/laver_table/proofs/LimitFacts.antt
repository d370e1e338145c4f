-- The limits of this crate, as numbers: its definitions cite them by name.
use Rattle.std.proofs.Common.{◌≡◌, refl}
use Rattle.laver_table.specs.declared.TheConstants.{MAX_EXPONENT}

-- a table has a size of at most 2^14
exponent_row : MAX_EXPONENT ≡ 14
exponent_row = refl
