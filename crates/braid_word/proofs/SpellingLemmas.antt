-- The strict spelling of words, and how it is read.
--
-- What is read in the strict spelling is the spelling of the word, each byte of it
-- (`strict_word_of-is`). A word that can be read is read from its spelling
-- (`strict_word_of-word_text`).
use Rattle.std.proofs.Common.{◌≡◌, ℕ, ◌+◌, ◌^◌, ◌<◌, ◌≤◌, Bool, true, false, cond, eqb, ltb, inl, inr, List, [], ◌∷◌, ◌++◌, length, length-append, get_or, map, decimal, Result, Ok, Err, refl, ap, ap₂, sym, ◌∙◌, subst, arith}
use Rattle.std.specs.List.{All, join_with_byte}
use Rattle.std.specs.Str.Parse.{digits_value}
use Rattle.std.proofs.lemmas.Bool.{cases_Bool, and_parts, and_from, eqb-true, ne_eqb, lt-ltb, le-ltb, ltb-true, ltb-false}
use Rattle.std.proofs.lemmas.Fmt.{first_decimal, decimal_nonempty}
use Rattle.std.proofs.lemmas.List.Elements.{All-nil, All-cons, All-append, All-weaker, All-from_get_or}
use Rattle.std.proofs.lemmas.List.Splits.{slice_split_none, slice_split_at, join_with_byte-slice_split}
use Rattle.std.proofs.lemmas.Str.Parse.{digit_at}
use Rattle.wb_base.proofs.NumberLemmas.{decimal-canonical, is_canonical-decimal, AllDigits-decimal, digits_value-of_decimal, AllDigits-list_all, list_all-AllDigits}
use Rattle.wb_base.specs.Numbers.{sign_text}
use Rattle.braid_word.specs.Words.{Letter, letter, IsOn}
use Rattle.braid_word.specs.NumberNotation.{Piece, placed_from, has_minus, without_minus, is_numeral, with_index, letter_of}
use Rattle.braid_word.specs.Notation.{letters_of, in_front, not_too_long, strict_word_of, IsReadable, letter_text, word_text}
use Rattle.braid_word.specs.declared.TheConstants.{MAX_INDEX, MAX_LETTERS}
use Rattle.braid_word.specs.declared.reader.WordErr.{WordErr}
use Rattle.braid_word.specs.declared.reader.WordErr.TheVariants.{BadLetter, TooLong}
use Rattle.braid_word.proofs.PieceLemmas.{split, letter_at, strict_word_of-parts}
use Rattle.wb_base.proofs.PartLemmas.{Ok-cond, Ok-injective}

-- ---- Letters ----

-- a piece is its sign and what stands behind it
append-without_minus : (part : List ℕ) → sign_text (has_minus part) ++ without_minus part ≡ part
append-without_minus [] = refl
append-without_minus (b ∷ part) =
    elim (cases_Bool (eqb b 45)) [
      | inl minus ↦ rw minus (ap (λ c. c ∷ part) (sym (eqb-true b 45 minus)))
      | inr none ↦ rw none refl
    ]

-- A piece is the text of a letter that can be read.
record IsSpelled (part : List ℕ) (x : Letter) : Type 0 where
  text : part ≡ letter_text x
  low : 1 ≤ x.index
  high : x.index < MAX_INDEX + 1

-- a letter that is read is spelled so
letter_of-is : (piece : Piece) (x : Letter) → letter_of piece ≡ Ok x → IsSpelled piece.bytes x
letter_of-is piece x read =
    let part = piece.bytes in
    let digits = without_minus part in
    let (numeral, indexed) = Ok-cond _ _ _ _ read in
    let (within, is) = Ok-cond _ _ _ _ indexed in
    let (all, canonical) = and_parts _ _ numeral in
    let (some, below) = and_parts _ _ within in
    let index = digits_value 10 digits in
    let low : 0 < index = ltb-true 0 index some in
    let high : index < MAX_INDEX + 1 = ltb-true index (MAX_INDEX + 1) below in
    let text = decimal-canonical digits (AllDigits-list_all digits all) canonical (omega arith) in
    subst (IsSpelled part) (Ok-injective _ _ is) (record {
      text = sym (ap (λ ds. sign_text (has_minus part) ++ ds) text ∙ append-without_minus part);
      low = low;
      high = high;
    })

-- The letter of a sign and digits.
abbrev letter_by : ℕ → Bool → List ℕ → Result Letter WordErr
letter_by place negative digits =
    cond (is_numeral digits) (with_index place (digits_value 10 digits) negative)
    (Err (BadLetter place))

-- the text of an index in range, behind a sign, is that letter
letter_by-decimal
    : (place : ℕ) (negative : Bool) (n : ℕ)
    → 1 ≤ n
    → n < MAX_INDEX + 1
    → letter_by place negative (decimal n) ≡ Ok (letter n negative)
letter_by-decimal place negative n low high =
    let fits : n < 2 ^ 64 = omega arith in
    let digits = list_all-AllDigits (decimal n) (AllDigits-decimal n fits) in
    let numeral = and_from _ _ digits (is_canonical-decimal n fits) in
    let within = and_from _ _ (lt-ltb 0 n low) (lt-ltb n (MAX_INDEX + 1) high) in
    rw (numeral, digits_value-of_decimal n fits, within) refl

-- a first byte above the digit 0 is no minus sign
has_minus-none : (ds : List ℕ) → 48 < get_or ds 0 0 → has_minus ds ≡ false
has_minus-none [] first = refl
has_minus-none (d ∷ ds) first = ne_eqb d 45 (λ e. omega arith)

-- without one the whole is left
without_minus-none : (ds : List ℕ) → has_minus ds ≡ false → without_minus ds ≡ ds
without_minus-none ds none = rw none refl

-- a letter that can be read is read from its text
letter_of-letter_text
    : (place : ℕ) (x : Letter)
    → 1 ≤ x.index
    → x.index < MAX_INDEX + 1
    → letter_at place (letter_text x) ≡ Ok x
letter_of-letter_text place x low high = go x.negative
  where
    go
        : (negative : Bool)
        → letter_at place (letter_text (letter x.index negative)) ≡ Ok (letter x.index negative)
    go true = letter_by-decimal place true x.index low high
    go false =
        let none = has_minus-none (decimal x.index) (first_decimal x.index low (omega arith)) in
        ap₂ (letter_by place) none (without_minus-none (decimal x.index) none)
        ∙ letter_by-decimal place false x.index low high

-- Each byte is above this one.
abbrev pub AllAbove : ℕ → List ℕ → Type 0
AllAbove n bytes = All (λ b. n < b) bytes

-- Each byte is above the first of these, and below the second.
abbrev pub AllWithin : ℕ → ℕ → List ℕ → Type 0
AllWithin m n bytes = All (λ b. (m < b) × (b < n)) bytes

-- what is within is above
AllAbove-within : (m n : ℕ) (bytes : List ℕ) → AllWithin m n bytes → AllAbove m bytes
AllAbove-within m n bytes within =
    All-weaker (λ b. (m < b) × (b < n)) (λ b. m < b) (λ b both. both.0) bytes within

-- a minus sign is above the space, and no digit is above 9
sign_text-within : (negative : Bool) → AllWithin 32 58 (sign_text negative)
sign_text-within true =
    All-cons (λ b. (32 < b) × (b < 58)) 45 [] (omega arith, omega arith)
    (All-nil (λ b. (32 < b) × (b < 58)))
sign_text-within false = All-nil (λ b. (32 < b) × (b < 58))

-- so are digits
decimal-within : (n : ℕ) → n < 2 ^ 64 → AllWithin 32 58 (decimal n)
decimal-within n fits =
    All-from_get_or (λ b. (32 < b) × (b < 58)) (decimal n) 0
    (λ i within.
    let digit = digit_at (decimal n) i (AllDigits-decimal n fits) within in
    (omega (arith, digit), omega (arith, digit)))

-- which are above the space
pub decimal-above : (n : ℕ) → n < 2 ^ 64 → AllAbove 32 (decimal n)
decimal-above n fits = AllAbove-within 32 58 (decimal n) (decimal-within n fits)

-- so are the bytes of a letter
letter_text-within : (x : Letter) → x.index < MAX_INDEX + 1 → AllWithin 32 58 (letter_text x)
letter_text-within x high =
    All-append (λ b. (32 < b) × (b < 58)) (sign_text x.negative) (decimal x.index)
    (sign_text-within x.negative) (decimal-within x.index (omega arith))

-- which are above the space
letter_text-above : (x : Letter) → x.index < MAX_INDEX + 1 → AllAbove 32 (letter_text x)
letter_text-above x high = AllAbove-within 32 58 (letter_text x) (letter_text-within x high)

-- and are no spaces
no_space : (bytes : List ℕ) → AllAbove 32 bytes → All (λ b. eqb b 32 ≡ false) bytes
no_space bytes above =
    All-weaker (λ b. 32 < b) (λ b. eqb b 32 ≡ false) (λ b more. ne_eqb b 32 (λ e. omega arith))
    bytes above

-- ---- Words ----

-- what a letter in front of a word comes from
pub in_front-is
    : (r : Result Letter WordErr) (s : Result (List Letter) WordErr) (w : List Letter)
    → in_front r s ≡ Ok w
    → (x : Letter) × (v : List Letter) × (r ≡ Ok x) × (s ≡ Ok v) × (x ∷ v ≡ w)
in_front-is (Ok x) (Ok v) w is = (x, v, refl, refl, Ok-injective _ _ is)
in_front-is (Ok x) (Err e) w is = absurd (cc)
in_front-is (Err e) s w is = absurd (cc)

-- The bytes of some pieces.
abbrev bytes_of : List Piece → List (List ℕ)
bytes_of pieces = map (λ (piece : Piece). piece.bytes) pieces

-- Some pieces are the texts of the letters of a word, each of which can be read.
pub record AreSpelled (pieces : List Piece) (w : List Letter) : Type 0 where
  pub texts : bytes_of pieces ≡ map letter_text w
  pub on : IsOn (MAX_INDEX + 1) w

-- letters that are read are spelled so
pub letters_of-is
    : (pieces : List Piece) (w : List Letter)
    → letters_of pieces ≡ Ok w
    → AreSpelled pieces w
letters_of-is [] w read =
    subst (AreSpelled []) (Ok-injective _ _ read) (record { texts = refl; on = tt })
letters_of-is (piece ∷ pieces) w read =
    let (x, v, first, rest, is) = in_front-is _ _ w read in
    let one = letter_of-is piece x first in
    let more = letters_of-is pieces v rest in
    subst (AreSpelled (piece ∷ pieces)) is (record {
      texts = ap₂ (λ (text : List ℕ) texts. text ∷ texts) one.text more.texts;
      on = ((one.low, one.high), more.on);
    })

-- the bytes of the pieces that some parts are
bytes_of-placed_from
    : (place : ℕ) (parts : List (List ℕ))
    → bytes_of (placed_from place parts) ≡ parts
bytes_of-placed_from place [] = refl
bytes_of-placed_from place (part ∷ parts) =
    ap (λ more. part ∷ more) (bytes_of-placed_from (place + length part + 1) parts)

-- letters that can be read are read from their texts
pub letters_of-letter_text
    : (place : ℕ) (w : List Letter)
    → IsOn (MAX_INDEX + 1) w
    → letters_of (placed_from place (map letter_text w)) ≡ Ok w
letters_of-letter_text place [] on = refl
letters_of-letter_text place (x ∷ w) on =
    ap₂ in_front (letter_of-letter_text place x on.0.0 on.0.1)
    (letters_of-letter_text (place + length (letter_text x) + 1) w on.1)

-- the parts of the spelling of a word are the texts of its letters
pub split-word_text
    : (x : Letter) (w : List Letter)
    → IsOn (MAX_INDEX + 1) (x ∷ w)
    → split (word_text (x ∷ w)) ≡ map letter_text (x ∷ w)
unfolding word_text
split-word_text x [] on =
    slice_split_none (λ b. eqb b 32) (letter_text x)
    (no_space (letter_text x) (letter_text-above x on.0.1))
split-word_text x (y ∷ w) on =
    slice_split_at (λ b. eqb b 32) (letter_text x) 32 (word_text (y ∷ w))
    (no_space (letter_text x) (letter_text-above x on.0.1)) refl
    ∙ ap (λ texts. letter_text x ∷ texts) (split-word_text y w on.1)

-- a word that isn't too long stays
pub not_too_long-short
    : (w : List Letter)
    → length w ≤ MAX_LETTERS
    → not_too_long (Ok w) ≡ Ok w
not_too_long-short w short = rw (le-ltb MAX_LETTERS (length w) short) refl

-- a word that stays isn't too long
pub not_too_long-is
    : (r : Result (List Letter) WordErr) (w : List Letter)
    → not_too_long r ≡ Ok w
    → (r ≡ Ok w) × (length w ≤ MAX_LETTERS)
not_too_long-is (Ok v) w is = go (ltb MAX_LETTERS (length v)) refl is
  where
    go
        : (long : Bool)
        → ltb MAX_LETTERS (length v) ≡ long
        → cond long (Err (TooLong (length v))) (Ok v) ≡ Ok w
        → (◌≡◌ {A = Result (List Letter) WordErr} (Ok v) (Ok w)) × (length w ≤ MAX_LETTERS)
    go true test same = absurd (cc)
    go false test same =
        (same, omega (arith, ltb-false _ _ test, ap length (Ok-injective v w same)))
not_too_long-is (Err e) w is = absurd (cc)

-- What some bytes are where a word was read in the strict spelling: its spelling.
pub record IsSpelling (bytes : List ℕ) (w : List Letter) : Type 0 where
  pub text : bytes ≡ word_text w
  pub readable : IsReadable w

-- what is read in the strict spelling is the spelling of the word
pub strict_word_of-is
    : (bytes : List ℕ) (w : List Letter)
    → strict_word_of bytes ≡ Ok w
    → IsSpelling bytes w
unfolding strict_word_of word_text
strict_word_of-is [] w read =
    subst (IsSpelling []) (Ok-injective _ _ read) (record {
      text = refl;
      readable = record { short = omega arith; on = tt };
    })
strict_word_of-is (b ∷ bytes) w read =
    let (letters, short) = not_too_long-is _ w read in
    let parts = split (b ∷ bytes) in
    let spelled = letters_of-is (placed_from 1 parts) w letters in
    let texts = sym (bytes_of-placed_from 1 parts) ∙ spelled.texts in
    record {
      text = sym (join_with_byte-slice_split 32 (b ∷ bytes)) ∙ ap (join_with_byte 32) texts;
      readable = record { short = short; on = spelled.on };
    }

-- the text of a letter has a byte
pub length-letter_text : (x : Letter) → x.index < MAX_INDEX + 1 → 0 < length (letter_text x)
length-letter_text x high =
    let digits : 0 < length (decimal x.index) = decimal_nonempty x.index (omega arith) in
    omega (arith, length-append (sign_text x.negative) (decimal x.index))

-- so has the spelling of a word that has a letter
pub length-word_text
    : (x : Letter) (w : List Letter)
    → IsOn (MAX_INDEX + 1) (x ∷ w)
    → 0 < length (word_text (x ∷ w))
unfolding word_text
length-word_text x [] on = length-letter_text x on.0.1
length-word_text x (y ∷ w) on =
    let first : 0 < length (letter_text x) = length-letter_text x on.0.1 in
    omega (arith, length-append (letter_text x) (32 ∷ word_text (y ∷ w)))

-- a word that can be read is read from its spelling
pub strict_word_of-word_text
    : (w : List Letter)
    → IsReadable w
    → strict_word_of (word_text w) ≡ Ok w
unfolding strict_word_of word_text
strict_word_of-word_text [] readable = refl
strict_word_of-word_text (x ∷ w) readable =
    let on = readable.on in
    let some : 0 < length (word_text (x ∷ w)) = length-word_text x w on in
    strict_word_of-parts (word_text (x ∷ w)) (ne_eqb _ 0 (λ none. omega arith))
    ∙ ap (λ parts. not_too_long (letters_of (placed_from 1 parts))) (split-word_text x w on)
    ∙ ap not_too_long (letters_of-letter_text 1 (x ∷ w) on)
    ∙ not_too_long-short (x ∷ w) readable.short

-- ---- Bytes ----

-- what is above a byte is above a lower one
pub AllAbove-lower : (m n : ℕ) (bytes : List ℕ) → m ≤ n → AllAbove n bytes → AllAbove m bytes
AllAbove-lower m n bytes lower above =
    All-weaker (λ b. n < b) (λ b. m < b) (λ b more. omega arith) bytes above

-- the bytes of a letter, as those of a whole spelling
next-within : (x : Letter) → x.index < MAX_INDEX + 1 → AllWithin 31 58 (letter_text x)
next-within x high =
    All-weaker (λ b. (32 < b) × (b < 58)) (λ b. (31 < b) × (b < 58))
    (λ b both. (omega (arith, both.0), both.1)) (letter_text x) (letter_text-within x high)

-- each byte of a word's spelling is a space, a minus sign or a digit, or between them
pub word_text-within
    : (w : List Letter)
    → IsOn (MAX_INDEX + 1) w
    → AllWithin 31 58 (word_text w)
unfolding word_text
word_text-within [] on = All-nil (λ b. (31 < b) × (b < 58))
word_text-within (x ∷ []) on = next-within x on.0.1
word_text-within (x ∷ (y ∷ w)) on =
    All-append (λ b. (31 < b) × (b < 58)) (letter_text x) (32 ∷ word_text (y ∷ w))
    (next-within x on.0.1)
    (All-cons (λ b. (31 < b) × (b < 58)) 32 (word_text (y ∷ w)) (omega arith, omega arith)
    (word_text-within (y ∷ w) on.1))

-- none is below the space
pub word_text-above : (w : List Letter) → IsOn (MAX_INDEX + 1) w → AllAbove 31 (word_text w)
word_text-above w on = AllAbove-within 31 58 (word_text w) (word_text-within w on)
