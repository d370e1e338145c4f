-- The limits of this crate, as numbers: its definitions cite them by name.
use Rattle.std.proofs.Common.{◌≡◌, refl}
use Rattle.braid_word.specs.declared.TheConstants.{MAX_INDEX, MAX_LETTERS}

-- an index is at most 255
index_row : MAX_INDEX ≡ 255
index_row = refl

-- a line has at most 100,000 letters
letters_row : MAX_LETTERS ≡ 100000
letters_row = refl
