-- The limits of this crate, as numbers: its definitions and contracts cite them by name.
use Rattle.std.proofs.Common.{◌≡◌, refl}
use Rattle.braid_gcd.specs.declared.TheConstants.{MAX_DIVIDED, MAX_STRANDS}

-- words of at most 2,000 letters are divided
divided_row : MAX_DIVIDED ≡ 2000
divided_row = refl

-- on at most 64 strands
strands_row : MAX_STRANDS ≡ 64
strands_row = refl
