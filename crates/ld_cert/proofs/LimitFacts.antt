-- The limits of this crate, as numbers: its definitions cite them by name.
use Rattle.std.proofs.Common.{◌≡◌, refl}
use Rattle.ld_cert.specs.declared.TheConstants.{MAX_LINE, MAX_DERIVED_LEAVES}

-- a line of a certificate file has at most 524,288 bytes
line_row : MAX_LINE ≡ 524288
line_row = refl

-- a derived term of which a certificate is written has at most 300 leaves
leaves_row : MAX_DERIVED_LEAVES ≡ 300
leaves_row = refl
