-- The limit of this crate, as a number: its definitions cite it by name.
use Rattle.std.proofs.Common.{◌≡◌, refl}
use Rattle.wb_terms.specs.declared.TheConstants.{MAX_PRINTED}

-- a table of a size of at most 2^8 is written
printed_row : MAX_PRINTED ≡ 8
printed_row = refl
