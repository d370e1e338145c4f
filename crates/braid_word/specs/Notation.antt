-- How words are written: in numbers or in letters of the alphabet.
--
-- Both `1 -2` and `aB` are the generator 1, and then the inverse of generator 2; the first byte that isn't
-- a space tells the notations apart. Words are always printed in the strict spelling: numbers, with one
-- space between letters and none elsewhere. Places count the bytes of a line from 1, and a space is the
-- byte 32.
-- Source: both notations are the usual ones for braid words; the order of refusals is this project's.
--
--   letters_of pieces       the letters of all pieces, or the fault of the first that has one
--   letters_from place line the letters of all bytes but the spaces, or the first fault
--   number_word_of line     the word that a line in number notation is, or its fault
--   letters_word_of line    the word that a line in letter notation is, or its fault
--   word_of line            the word that a line in either notation is, or its fault
--   strict_word_of line     the word that a line in the strict spelling is, or its fault
--   IsReadable w            w can be read
--   word_text w             the strict spelling of w
--   word_field w            what stands of w behind a keyword
--   field_word behind       the word that stands behind a keyword, or its fault
--   Gives result read       what a reader answered is what is read, unless memory ran out
use Rattle.std.specs.Prelude.{ℕ, ◌+◌, ◌≤◌, ◌||◌, ◌==◌, nat_lt, Bool, not, if◌then◌else◌, List, [], ◌∷◌, length, map, filter, Option, Some, None, Result, Ok, Err}
use Rattle.std.specs.List.{join_with_byte}
use Rattle.wb_base.specs.Memory.{UnlessMemory}
use Rattle.wb_base.specs.Numbers.{signed_text}
use Rattle.braid_word.specs.Words.{Letter, IsOn}
use Rattle.braid_word.specs.NumberNotation.{Piece, parts_of, pieces_of, letter_of}
use Rattle.braid_word.specs.LetterNotation.{is_lettered, letter_of_byte}
use Rattle.braid_word.specs.declared.TheConstants.{MAX_INDEX, MAX_LETTERS}
use Rattle.braid_word.specs.declared.reader.WordErr.{WordErr}
use Rattle.braid_word.specs.declared.reader.WordErr.TheVariants.{BadLetter, BadIndex, TooLong, Memory}

-- ---- Words ----

-- A letter and then the letters of a word; the first fault stays.
abbrev pub in_front : Result Letter WordErr → Result (List Letter) WordErr → Result (List Letter) WordErr
in_front (Ok x) (Ok w) = Ok (x ∷ w)
in_front (Ok x) (Err e) = Err e
in_front (Err e) rest = Err e

-- All pieces as letters. The first bad piece decides.
abbrev pub letters_of : List Piece → Result (List Letter) WordErr
letters_of [] = Ok []
letters_of (piece ∷ pieces) = in_front (letter_of piece) (letters_of pieces)

-- The bytes as letters, but for the spaces, where the first stands at this place. The first bad one decides.
abbrev pub letters_from : ℕ → List ℕ → Result (List Letter) WordErr
letters_from place [] = Ok []
letters_from place (byte ∷ bytes) =
    if byte == 32 then letters_from (place + 1) bytes
    else in_front (letter_of_byte place byte) (letters_from (place + 1) bytes)

-- A word of more than 100,000 letters is a fault.
abbrev pub not_too_long : Result (List Letter) WordErr → Result (List Letter) WordErr
not_too_long (Ok w) = if nat_lt MAX_LETTERS (length w) then Err (TooLong (length w)) else Ok w
not_too_long (Err e) = Err e

-- The word of a line in number notation.
unfoldable pub number_word_of : List ℕ → Result (List Letter) WordErr
number_word_of line = not_too_long (letters_of (pieces_of line))

-- The word of a line in letter notation.
unfoldable pub letters_word_of : List ℕ → Result (List Letter) WordErr
letters_word_of line = not_too_long (letters_from 1 line)

-- The word of a line in either notation. A line of spaces is the empty word.
unfoldable pub word_of : List ℕ → Result (List Letter) WordErr
word_of line = if is_lettered line then letters_word_of line else number_word_of line

-- The word of a line in the strict spelling, in which each single space is a cut. No bytes are the empty
-- word, and an empty part of others is a fault.
unfoldable pub strict_word_of : List ℕ → Result (List Letter) WordErr
strict_word_of [] = Ok []
strict_word_of (byte ∷ bytes) = not_too_long (letters_of (parts_of (byte ∷ bytes)))

-- The word that stands behind a keyword: nothing is the empty word, and a space is followed by another word in
-- the strict spelling. Behind a space alone a letter is missed.
abbrev pub field_word : List ℕ → Result (List Letter) WordErr
field_word [] = Ok []
field_word (space ∷ []) = Err (BadLetter 1)
field_word (space ∷ (byte ∷ bytes)) = strict_word_of (byte ∷ bytes)

-- Whether a part is to be a letter: each in the strict spelling, else one that isn't empty. Both readings
-- are one, but for this.
abbrev pub is_piece : Bool → List ℕ → Bool
is_piece strict part = strict || not (length part == 0)

-- The word whose letters are those parts. No public clause cites it.
unfoldable pub word_by : Bool → List ℕ → Result (List Letter) WordErr
word_by strict line =
    not_too_long (letters_of (filter (λ (piece : Piece). is_piece strict piece.bytes) (parts_of line)))

-- A word that can be read: it has no more than 100,000 letters, and their indices are from 1 to 255.
pub record IsReadable (w : List Letter) : Type 0 where
  pub short : length w ≤ MAX_LETTERS
  pub on : IsOn (MAX_INDEX + 1) w

-- The fault of the line that an error tells, if it tells one.
abbrev pub fault_in : WordErr → Option WordErr
fault_in Memory = None
fault_in (BadLetter place) = Some (BadLetter place)
fault_in (BadIndex place) = Some (BadIndex place)
fault_in (TooLong count) = Some (TooLong count)

-- What a reader answered is what is read, unless memory ran out.
abbrev pub Gives : Result (List Letter) WordErr → Result (List Letter) WordErr → Type 0
Gives result read = UnlessMemory (λ (w : List Letter). w) fault_in result read

-- ---- Spelling ----

-- The text of a letter: its index, behind a minus sign for an inverse.
abbrev pub letter_text : Letter → List ℕ
letter_text x = signed_text x.negative x.index

-- A letter behind a space.
abbrev pub next_text : Letter → List ℕ
next_text x = 32 ∷ letter_text x

-- The strict spelling. The empty word has no bytes.
unfoldable pub word_text : List Letter → List ℕ
word_text w = join_with_byte 32 (map letter_text w)

-- A word behind its keyword: nothing for the empty word, else a space and the strict spelling.
abbrev pub word_field : List Letter → List ℕ
word_field [] = []
word_field (x ∷ w) = 32 ∷ word_text (x ∷ w)
