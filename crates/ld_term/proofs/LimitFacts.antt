-- The limits of this crate, as numbers: its definitions cite them by name.
use Rattle.std.proofs.Common.{◌≡◌, refl}
use Rattle.ld_term.specs.declared.TheConstants.{MAX_HEIGHT, MAX_PRODUCTS}

-- a term is at most 1,000 high
height_row : MAX_HEIGHT ≡ 1000
height_row = refl

-- a line has at most 100,000 products
products_row : MAX_PRODUCTS ≡ 100000
products_row = refl
