-- Letters as numbers: the pieces of a line, and the letter that each is.
--
-- Places count the bytes of a line from 1, and a space is the byte 32. The pieces of a line in number
-- notation are its longest runs of bytes that aren't spaces; spaces may stand before, between and after
-- them. In the strict spelling each part between single spaces is one.
-- Source: the usual notation for braid words.
--
--   parts_of line       the parts between single spaces, each with the place of its first byte
--   pieces_of line      those of them that aren't empty
--   letter_of piece     the letter that a piece is, or its fault
use Rattle.std.specs.Prelude.{ℕ, ◌+◌, ◌&&◌, ◌==◌, nat_lt, Bool, false, not, if◌then◌else◌, List, [], ◌∷◌, length, drop, filter, Result, Ok, Err}
use Rattle.std.specs.List.{slice_split, list_all}
use Rattle.std.specs.Char.{is_ascii_digit}
use Rattle.std.specs.Str.Parse.{digits_value}
use Rattle.wb_base.specs.Numbers.{is_canonical}
use Rattle.braid_word.specs.Words.{Letter, letter}
use Rattle.braid_word.specs.declared.TheConstants.{MAX_INDEX}
use Rattle.braid_word.specs.declared.reader.WordErr.{WordErr}
use Rattle.braid_word.specs.declared.reader.WordErr.TheVariants.{BadLetter, BadIndex}

-- ---- Pieces ----

-- A part of a line, and the place of its first byte.
pub record Piece : Type 0 where
  pub place : ℕ
  pub bytes : List ℕ

-- Parts of which the first begins at this place, with one byte between neighbours.
abbrev pub placed_from : ℕ → List (List ℕ) → List Piece
placed_from place [] = []
placed_from place (part ∷ parts) =
    record { place = place; bytes = part } ∷ placed_from (place + length part + 1) parts

-- The parts between single spaces: of `1  -2` they are `1` at 1, an empty one at 3 and `-2` at 4.
abbrev pub parts_of : List ℕ → List Piece
parts_of line = placed_from 1 (slice_split (λ byte. byte == 32) line)

-- The parts that aren't empty.
abbrev pub pieces_of : List ℕ → List Piece
pieces_of line = filter (λ (piece : Piece). not (length piece.bytes == 0)) (parts_of line)

-- ---- Letters ----

-- Whether a minus sign stands in front.
abbrev pub has_minus : List ℕ → Bool
has_minus [] = false
has_minus (byte ∷ bytes) = byte == 45

-- What stands behind a minus sign, or the whole.
abbrev pub without_minus : List ℕ → List ℕ
without_minus bytes = if has_minus bytes then drop 1 bytes else bytes

-- Digits, of which the first is 0 only where it is the only one.
abbrev pub is_numeral : List ℕ → Bool
is_numeral digits = list_all is_ascii_digit digits && is_canonical digits

-- The letter of this index, if it is one: an index of 0 or above 255 is a fault.
abbrev pub with_index : ℕ → ℕ → Bool → Result Letter WordErr
with_index place index negative =
    if nat_lt 0 index && nat_lt index (MAX_INDEX + 1) then Ok (letter index negative)
    else Err (BadIndex place)

-- The letter that a piece is: `-2` is the inverse of generator 2. `02` is no letter, and `0` no index.
abbrev pub letter_of : Piece → Result Letter WordErr
letter_of piece =
    if is_numeral (without_minus piece.bytes)
    then with_index piece.place (digits_value 10 (without_minus piece.bytes)) (has_minus piece.bytes)
    else Err (BadLetter piece.place)
