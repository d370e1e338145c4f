-- Laws of words that are read in either notation.
--
-- A word that is read has no more letters than may be read, and no index above the greatest
-- (`IsReadable-word_of`). A word that can be read is read from its strict spelling
-- (`word_of-word_text`). What that makes of a reader's answer stands at the end (`IfOk-readable`,
-- `IfOk-strict`).
use Rattle.std.proofs.Common.{◌≡◌, ℕ, ◌+◌, ◌-◌, ◌<◌, ◌≤◌, Bool, true, false, cond, eqb, inl, inr, List, [], ◌∷◌, length, map, filter, not, refl, ap, ◌∙◌, subst, arith, leb, Result, Ok, Err, IfOk}
use Rattle.std.specs.Int.{is_in_range}
use Rattle.std.specs.Char.{is_ascii_alphabetic}
use Rattle.std.proofs.lemmas.Bool.{cases_Bool, and_parts, ne_eqb, leb-true, lt-leb}
use Rattle.std.proofs.lemmas.List.Elements.{All-head, All-tail}
use Rattle.braid_word.specs.Words.{Letter, letter, IsOn}
use Rattle.braid_word.specs.NumberNotation.{Piece, placed_from, pieces_of}
use Rattle.braid_word.specs.LetterNotation.{is_lettered, letter_of_byte}
use Rattle.braid_word.specs.Notation.{letters_of, letters_from, in_front, not_too_long, number_word_of, letters_word_of, word_of, strict_word_of, letter_text, word_text, IsReadable, Gives}
use Rattle.braid_word.specs.declared.TheConstants.{MAX_INDEX}
use Rattle.braid_word.specs.declared.reader.WordErr.{WordErr}
use Rattle.braid_word.specs.declared.reader.WordErr.TheVariants.{BadLetter}
use Rattle.wb_base.proofs.PartLemmas.{Ok-injective}
use Rattle.braid_word.proofs.SpellingLemmas.{in_front-is, letters_of-is, not_too_long-is, not_too_long-short, letters_of-letter_text, length-letter_text, split-word_text, AllWithin, word_text-within, strict_word_of-is}

-- ---- What is read can be read ----

-- The index of a letter is from 1 to the greatest.
abbrev HasIndex : Letter → Type 0
HasIndex x = (1 ≤ x.index) × (x.index < MAX_INDEX + 1)

-- a byte that is a letter has such an index
letter_of_byte-index
    : (place byte : ℕ) (x : Letter)
    → letter_of_byte place byte ≡ Ok x
    → HasIndex x
letter_of_byte-index place byte x read =
    go (is_in_range 97 121 byte) (is_in_range 65 89 byte) refl refl read
  where
    go
        : (small capital : Bool)
        → is_in_range 97 121 byte ≡ small
        → is_in_range 65 89 byte ≡ capital
        → cond small (Ok (letter (byte - 96) false))
        (cond capital (Ok (letter (byte - 64) true)) (Err (BadLetter place)))
        ≡ Ok x
        → HasIndex x
    go true capital test other is =
        let (low, high) = and_parts (leb 97 byte) (leb byte 121) test in
        let above : 97 ≤ byte = leb-true 97 byte low in
        let below : byte ≤ 121 = leb-true byte 121 high in
        subst HasIndex (Ok-injective _ _ is) (omega arith, omega arith)
    go false true test other is =
        let (low, high) = and_parts (leb 65 byte) (leb byte 89) other in
        let above : 65 ≤ byte = leb-true 65 byte low in
        let below : byte ≤ 89 = leb-true byte 89 high in
        subst HasIndex (Ok-injective _ _ is) (omega arith, omega arith)
    go false false test other is = absurd (cc)

-- so has a letter in front of such letters
in_front-on
    : (r : Result Letter WordErr) (s : Result (List Letter) WordErr) (w : List Letter)
    → ((x : Letter) → r ≡ Ok x → HasIndex x)
    → ((v : List Letter) → s ≡ Ok v → IsOn (MAX_INDEX + 1) v)
    → in_front r s ≡ Ok w
    → IsOn (MAX_INDEX + 1) w
in_front-on r s w first rest is =
    let (x, v, one, more, same) = in_front-is r s w is in
    subst (IsOn (MAX_INDEX + 1)) same (first x one, rest v more)

-- so have the letters of a line
letters_from-on
    : (place : ℕ) (line : List ℕ) (w : List Letter)
    → letters_from place line ≡ Ok w
    → IsOn (MAX_INDEX + 1) w
letters_from-on place [] w read = subst (IsOn (MAX_INDEX + 1)) (Ok-injective _ _ read) tt
letters_from-on place (byte ∷ bytes) w read =
    go (eqb byte 32) (letters_from-on (place + 1) bytes) read
  where
    go
        : (space : Bool)
        → ((v : List Letter) → letters_from (place + 1) bytes ≡ Ok v → IsOn (MAX_INDEX + 1) v)
        → cond space (letters_from (place + 1) bytes)
        (in_front (letter_of_byte place byte) (letters_from (place + 1) bytes))
        ≡ Ok w
        → IsOn (MAX_INDEX + 1) w
    go true rest more = rest w more
    go false rest more = in_front-on _ _ w (letter_of_byte-index place byte) rest more

-- a word that is read in number notation can be read
IsReadable-number_word_of
    : (line : List ℕ) (w : List Letter)
    → number_word_of line ≡ Ok w
    → IsReadable w
unfolding number_word_of
IsReadable-number_word_of line w read =
    let (letters, short) = not_too_long-is _ w read in
    record { short = short; on = (letters_of-is (pieces_of line) w letters).on }

-- so can one that is read in letter notation
IsReadable-letters_word_of
    : (line : List ℕ) (w : List Letter)
    → letters_word_of line ≡ Ok w
    → IsReadable w
unfolding letters_word_of
IsReadable-letters_word_of line w read =
    let (letters, short) = not_too_long-is _ w read in
    record { short = short; on = letters_from-on 1 line w letters }

-- a word that is read can be read
pub IsReadable-word_of
    : (line : List ℕ) (w : List Letter)
    → word_of line ≡ Ok w
    → IsReadable w
unfolding word_of
IsReadable-word_of line w read = go (is_lettered line) read
  where
    go
        : (lettered : Bool)
        → cond lettered (letters_word_of line) (number_word_of line) ≡ Ok w
        → IsReadable w
    go true is = IsReadable-letters_word_of line w is
    go false is = IsReadable-number_word_of line w is

-- ---- What can be read is read ----

-- a byte below all letters of the alphabet is none
is_ascii_alphabetic-none : (b : ℕ) → b < 65 → is_ascii_alphabetic b ≡ false
is_ascii_alphabetic-none b below =
    let capital : leb 65 b ≡ false = lt-leb 65 b below in
    let small : leb 97 b ≡ false = lt-leb 97 b (omega arith) in rw (capital, small) refl

-- a line of such bytes is in number notation
is_lettered-none : (line : List ℕ) → AllWithin 31 58 line → is_lettered line ≡ false
is_lettered-none [] within = refl
is_lettered-none (b ∷ line) within =
    let first = All-head (λ b. (31 < b) × (b < 58)) b line within in
    let rest = All-tail (λ b. (31 < b) × (b < 58)) b line within in
    elim (cases_Bool (eqb b 32)) [
      | inl space ↦ rw space (is_lettered-none line rest)
      | inr other ↦ rw other (is_ascii_alphabetic-none b (omega arith))
    ]

-- each piece that is the text of a letter has a byte
filter-letter_text
    : (place : ℕ) (w : List Letter)
    → IsOn (MAX_INDEX + 1) w
    → filter (λ (piece : Piece). not (eqb (length piece.bytes) 0)) (placed_from place (map letter_text w))
    ≡ placed_from place (map letter_text w)
filter-letter_text place [] on = refl
filter-letter_text place (x ∷ w) on =
    let some : 0 < length (letter_text x) = length-letter_text x on.0.1 in
    let none : eqb (length (letter_text x)) 0 ≡ false = ne_eqb _ 0 (λ e. omega arith) in
    rw none (ap (λ pieces. record { place = place; bytes = letter_text x } ∷ pieces)
    (filter-letter_text (place + length (letter_text x) + 1) w on.1))

-- a word that can be read is read from its spelling in number notation
number_word_of-word_text
    : (w : List Letter)
    → IsReadable w
    → number_word_of (word_text w) ≡ Ok w
unfolding number_word_of word_text
number_word_of-word_text [] readable = refl
number_word_of-word_text (x ∷ w) readable =
    let on = readable.on in
    ap (λ parts. not_too_long (letters_of
    (filter (λ (piece : Piece). not (eqb (length piece.bytes) 0)) (placed_from 1 parts))))
    (split-word_text x w on)
    ∙ ap (λ pieces. not_too_long (letters_of pieces)) (filter-letter_text 1 (x ∷ w) on)
    ∙ ap not_too_long (letters_of-letter_text 1 (x ∷ w) on)
    ∙ not_too_long-short (x ∷ w) readable.short

-- a word that can be read is read from its spelling
pub word_of-word_text : (w : List Letter) → IsReadable w → word_of (word_text w) ≡ Ok w
unfolding word_of
word_of-word_text w readable =
    let numbers = is_lettered-none (word_text w) (word_text-within w readable.on) in
    rw numbers (number_word_of-word_text w readable)

-- ---- What a reader answers ----

-- what a reader answers can be read
pub IfOk-readable
    : (line : List ℕ) (result : Result (List Letter) WordErr)
    → Gives result (word_of line)
    → IfOk result IsReadable
IfOk-readable line (Ok w) read = IsReadable-word_of line w read
IfOk-readable line (Err e) read = tt

-- what a strict reader answers is spelled so
pub IfOk-strict
    : (line : List ℕ) (result : Result (List Letter) WordErr)
    → Gives result (strict_word_of line)
    → IfOk result (λ w. (line ≡ word_text w) × IsReadable w)
IfOk-strict line (Ok w) read = let is = strict_word_of-is line w read in (is.text, is.readable)
IfOk-strict line (Err e) read = tt
