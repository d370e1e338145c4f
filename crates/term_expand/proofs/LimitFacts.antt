-- The limits of this crate, as numbers: its definitions cite them by name.
use Rattle.std.proofs.Common.{◌≡◌, refl}
use Rattle.term_expand.specs.declared.TheConstants.{MAX_ADDRESS}

-- an address has at most 1,000 bytes
address_row : MAX_ADDRESS ≡ 1000
address_row = refl
