-- The limits of this crate, as numbers: its definitions cite them by name.
use Rattle.std.proofs.Common.{◌≡◌, refl}
use Rattle.wb_words.specs.declared.TheConstants.{MAX_IMAGE, MAX_SIZE, MAX_COUNT}

-- an image has at most 100,000 generators
image_row : MAX_IMAGE ≡ 100000
image_row = refl

-- a pseudorandom word has at most 1,000 letters
size_row : MAX_SIZE ≡ 1000
size_row = refl

-- at most 1,000 pairs are counted
count_row : MAX_COUNT ≡ 1000
count_row = refl
