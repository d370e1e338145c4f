-- Laws of lines in letter notation, whose bytes are letters.
--
-- A line is read byte by byte. `IsReadTo` says what is known between two bytes: it holds at the
-- start, and each byte keeps it. From it come the fault of a byte (`Fails-byte`), and behind the
-- last byte the word of the line (`Gives-bytes`).
use Rattle.std.proofs.Common.{◌≡◌, ◌≢◌, ℕ, ◌+◌, ◌<◌, ◌≤◌, List, [], ◌∷◌, ◌++◌, take, drop, get_or, length, refl, ap, ◌∙◌, arith, Result, Ok, Err}
use Rattle.std.proofs.lemmas.Bool.{ne_eqb}
use Rattle.std.proofs.lemmas.List.{drop_more, drop_all}
use Rattle.wb_base.specs.Memory.{FailsAs}
use Rattle.braid_word.specs.Words.{Letter, letter}
use Rattle.braid_word.specs.LetterNotation.{letter_of_byte}
use Rattle.braid_word.specs.Notation.{letters_from, letters_word_of, in_front, not_too_long, fault_in, Gives}
use Rattle.braid_word.specs.declared.TheConstants.{MAX_LETTERS}
use Rattle.braid_word.specs.declared.reader.WordErr.{WordErr}
use Rattle.braid_word.proofs.KeptLemmas.{IsKept, IsKept-none, IsKept-on, IsKept-letter, Fails-kept, Gives-kept}

-- ---- Reading on ----

-- a space has no letter
letters_from-space
    : (place byte : ℕ) (bytes : List ℕ)
    → byte ≡ 32
    → letters_from place (byte ∷ bytes) ≡ letters_from (place + 1) bytes
letters_from-space place byte bytes space = rw space refl

-- another byte is a letter, in front of what is read from the rest
letters_from-letter
    : (place byte : ℕ) (bytes : List ℕ)
    → byte ≢ 32
    → letters_from place (byte ∷ bytes)
    ≡ in_front (letter_of_byte place byte) (letters_from (place + 1) bytes)
letters_from-letter place byte bytes other = rw (ne_eqb byte 32 other) refl

-- ---- What is known between two bytes ----

-- What is known of a line when some of its bytes were read: the place of the last, and the letters.
pub record IsReadTo (line : List ℕ) (bytes place count : ℕ) (kept : List Letter) : Type 0 where
  pub placed : place ≡ bytes
  pub few : count ≤ bytes
  pub so_far
      : IsKept (letters_from 1 line) (letters_from (place + 1) (drop bytes line)) count kept

-- The next byte.
abbrev pub next : List ℕ → ℕ → ℕ
next line bytes = get_or line bytes 0

-- before the first byte
pub IsReadTo-none : (line : List ℕ) → IsReadTo line 0 0 0 []
IsReadTo-none line =
    record {
      placed = refl;
      few = omega arith;
      so_far = IsKept-none (letters_from 1 line);
    }

-- behind a space
pub IsReadTo-space
    : {line kept : _} {bytes place count : ℕ}
    → IsReadTo line bytes place count kept
    → bytes < length line
    → next line bytes ≡ 32
    → IsReadTo line (bytes + 1) (place + 1) count kept
IsReadTo-space {line} {kept} {bytes} {place} is within space =
    record {
      placed = omega (arith, is.placed);
      few = omega (arith, is.few);
      so_far = IsKept-on is.so_far
          (ap (letters_from (place + 1)) (drop_more line bytes 0 within)
          ∙ letters_from-space (place + 1) (next line bytes) (drop (bytes + 1) line) space);
    }

-- what is read at a byte that is no space
so_far-byte
    : {line kept : _} {bytes place count : ℕ} {letter : Result Letter WordErr}
    → IsReadTo line bytes place count kept
    → bytes < length line
    → next line bytes ≢ 32
    → letter_of_byte (place + 1) (next line bytes) ≡ letter
    → IsKept (letters_from 1 line)
    (in_front letter (letters_from (place + 1 + 1) (drop (bytes + 1) line))) count kept
so_far-byte {line} {kept} {bytes} {place} is within other is_letter =
    let left = drop (bytes + 1) line in
    IsKept-on is.so_far
    (ap (letters_from (place + 1)) (drop_more line bytes 0 within)
    ∙ letters_from-letter (place + 1) (next line bytes) left other
    ∙ ap (λ letter. in_front letter (letters_from (place + 1 + 1) left)) is_letter)

-- behind a byte that is a letter
pub IsReadTo-letter
    : {line kept more : _} {bytes place count : ℕ} {x : Letter}
    → IsReadTo line bytes place count kept
    → bytes < length line
    → next line bytes ≢ 32
    → letter_of_byte (place + 1) (next line bytes) ≡ Ok x
    → ((w : List Letter) → kept ≡ take MAX_LETTERS w → more ≡ take MAX_LETTERS (w ++ x ∷ []))
    → IsReadTo line (bytes + 1) (place + 1) (count + 1) more
IsReadTo-letter is within other letter keeps =
    record {
      placed = omega (arith, is.placed);
      few = omega (arith, is.few);
      so_far = IsKept-letter (so_far-byte is within other letter) keeps;
    }

-- ---- The word ----

-- the fault of a byte is the answer
pub Fails-byte
    : {line kept : _} {bytes place count : ℕ} {e : WordErr}
    → IsReadTo line bytes place count kept
    → bytes < length line
    → next line bytes ≢ 32
    → letter_of_byte (place + 1) (next line bytes) ≡ Err e
    → FailsAs (fault_in e) (letters_word_of line)
unfolding letters_word_of
Fails-byte is within other fault = Fails-kept (so_far-byte is within other fault)

-- behind the last byte the answer is that of all letters
pub Gives-bytes
    : {line kept : _} {bytes place count : ℕ}
    → (result : Result (List Letter) WordErr)
    → IsReadTo line bytes place count kept
    → length line ≤ bytes
    → ((w : List Letter)
    → kept ≡ take MAX_LETTERS w
    → count ≡ length w
    → Gives result (not_too_long (Ok w)))
    → Gives result (letters_word_of line)
unfolding letters_word_of
Gives-bytes {line} {kept} {bytes} {place} result is all gives =
    Gives-kept result
    (IsKept-on is.so_far (ap (letters_from (place + 1)) (drop_all bytes line all))) gives
