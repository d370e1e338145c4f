-- The limit of this crate, as a number: its definitions cite it by name.
use Rattle.std.proofs.Common.{◌≡◌, refl}
use Rattle.gap_word.specs.declared.TheConstants.{MAX_ROOM}

-- a buffer has room for at most a million items
room_row : MAX_ROOM ≡ 1000000
room_row = refl
