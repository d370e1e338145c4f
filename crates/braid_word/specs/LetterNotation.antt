-- Letters as bytes: lines that begin with a letter of the alphabet, and the letter that each byte is.
--
-- Where the first byte behind the leading spaces is in the alphabet, large or small, the line is in letter
-- notation, and each of its bytes but the spaces is a piece. Places count the bytes of a line from 1, and a
-- space is the byte 32.
-- Source: the usual notation of small letters for the first generators, and capitals for their inverses.
--
--   first_byte line            the first byte that isn't a space
--   is_lettered line           whether a line is in letter notation
--   letter_of_byte place byte  the letter that a byte at this place is, or its fault
use Rattle.std.specs.Prelude.{ℕ, ◌-◌, ◌==◌, Bool, true, false, not, if◌then◌else◌, List, Option, Some, None, Result, Ok, Err}
use Rattle.std.specs.Int.{is_in_range}
use Rattle.std.specs.Char.{is_ascii_alphabetic}
use Rattle.std.specs.List.{find}
use Rattle.braid_word.specs.Words.{Letter, letter}
use Rattle.braid_word.specs.declared.reader.WordErr.{WordErr}
use Rattle.braid_word.specs.declared.reader.WordErr.TheVariants.{BadLetter}

-- The first byte that isn't a space: of `  aB` it is `a`.
abbrev pub first_byte : List ℕ → Option ℕ
first_byte line = find (λ byte. not (byte == 32)) line

-- Whether a byte is one of `A` to `Z` or `a` to `z`.
abbrev pub is_alphabetic : Option ℕ → Bool
is_alphabetic None = false
is_alphabetic (Some byte) = is_ascii_alphabetic byte

-- Whether a line is in letter notation. A line of spaces isn't.
abbrev pub is_lettered : List ℕ → Bool
is_lettered line = is_alphabetic (first_byte line)

-- The letter that a byte is: `a` to `y` are the generators 1 to 25, and `A` to `Y` their inverses.
abbrev pub letter_of_byte : ℕ → ℕ → Result Letter WordErr
letter_of_byte place byte =
    if is_in_range 97 121 byte then Ok (letter (byte - 96) false)
    else (if is_in_range 65 89 byte then Ok (letter (byte - 64) true) else Err (BadLetter place))
