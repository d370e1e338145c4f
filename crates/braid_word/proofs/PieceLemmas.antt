-- Laws of the parts of a line, and of the letters that they are.
--
-- A line is read part by part. `IsRead` says what is known between two parts: it holds at the
-- start, and each part keeps it. From it come the fault of a part (`Fails-part`), and behind the
-- last part the word of the line (`Gives-parts`).
--
--   split line             the parts of a line between single spaces
--   size parts             how many bytes some parts have, with one more for each
--   read_from place parts  the letters of some parts, of which the first begins at this place
--   rest parts line        the parts of a line that are left behind so many
use Rattle.std.proofs.Common.{◌≡◌, ℕ, ◌+◌, ◌<◌, ◌≤◌, Bool, true, false, List, [], ◌∷◌, ◌++◌, take, drop, get_or, length, filter, eqb, refl, ap, sym, ◌∙◌, if◌then◌else◌, arith, Result, Ok, Err}
use Rattle.std.specs.List.{slice_split, onto_first}
use Rattle.std.specs.Str.Parse.{AllDigits}
use Rattle.std.proofs.lemmas.Bool.{and_parts, eqb-true}
use Rattle.std.proofs.lemmas.List.{drop_more, drop_all}
use Rattle.wb_base.proofs.NumberLemmas.{AllDigits-list_all}
use Rattle.wb_base.specs.Memory.{FailsAs}
use Rattle.braid_word.specs.Words.{Letter}
use Rattle.braid_word.specs.NumberNotation.{Piece, placed_from, parts_of, is_numeral, letter_of}
use Rattle.braid_word.specs.Notation.{is_piece, letters_of, in_front, not_too_long, word_by, strict_word_of, fault_in, Gives}
use Rattle.braid_word.specs.declared.TheConstants.{MAX_LETTERS}
use Rattle.braid_word.specs.declared.reader.WordErr.{WordErr}
use Rattle.braid_word.proofs.KeptLemmas.{IsKept, IsKept-none, IsKept-on, IsKept-letter, Fails-kept, Gives-kept}

-- ---- Digits ----

-- a numeral has digits alone
pub AllDigits-is_numeral : (bytes : List ℕ) → is_numeral bytes ≡ true → AllDigits 10 bytes
AllDigits-is_numeral bytes numeral = AllDigits-list_all bytes (and_parts _ _ numeral).0

-- ---- Parts ----

-- The parts of a line between single spaces.
abbrev pub split : List ℕ → List (List ℕ)
split line = slice_split (λ byte. eqb byte 32) line

-- How many bytes some parts have, with one more for each.
abbrev pub size : List (List ℕ) → ℕ
size [] = 0
size (part ∷ parts) = length part + 1 + size parts

-- one element more in the first part
size-onto_first
    : (x : ℕ) (parts : List (List ℕ)) (n : ℕ)
    → size parts ≡ n + 1
    → size (onto_first x parts) ≡ n + 2
size-onto_first x [] n is = absurd (omega arith)
size-onto_first x (part ∷ parts) n is = omega arith

-- the parts have all bytes but the spaces, of which there is one less than parts
size-split : (line : List ℕ) → size (split line) ≡ length line + 1
size-split [] = refl
size-split (b ∷ line) = go (eqb b 32) (size-split line)
  where
    go
        : (space : Bool)
        → size (split line) ≡ length line + 1
        → size (if space then [] ∷ split line else onto_first b (split line))
        ≡ length (b ∷ line) + 1
    go true is = omega arith
    go false is = omega (arith, size-onto_first b (split line) (length line) is)

-- ---- Reading on ----

-- The letter that a part is, which begins at this place.
abbrev pub letter_at : ℕ → List ℕ → Result Letter WordErr
letter_at place part = letter_of (record { place = place; bytes = part })

-- The letters of some parts, of which the first begins at this place.
abbrev pub read_from : Bool → ℕ → List (List ℕ) → Result (List Letter) WordErr
read_from strict place parts =
    letters_of
    (filter (λ (piece : Piece). is_piece strict piece.bytes) (placed_from place parts))

-- a part that is no piece has no letter
read_from-empty
    : (strict : Bool) (place : ℕ) (part : List ℕ) (parts : List (List ℕ))
    → is_piece strict part ≡ false
    → read_from strict place (part ∷ parts) ≡ read_from strict (place + (length part + 1)) parts
read_from-empty strict place part parts none =
    let next : place + length part + 1 ≡ place + (length part + 1) = omega arith in
    rw none (ap (λ n. read_from strict n parts) next)

-- another part is a letter, in front of what is read from the rest
read_from-piece
    : (strict : Bool) (place : ℕ) (part : List ℕ) (parts : List (List ℕ))
    → is_piece strict part ≡ true
    → read_from strict place (part ∷ parts)
    ≡ in_front (letter_at place part) (read_from strict (place + (length part + 1)) parts)
read_from-piece strict place part parts some =
    let next : place + length part + 1 ≡ place + (length part + 1) = omega arith in
    rw some (ap (λ n. in_front (letter_at place part) (read_from strict n parts)) next)

-- ---- What is known between two parts ----

-- The parts that are left behind the first ones.
abbrev pub rest : ℕ → List ℕ → List (List ℕ)
rest parts line = drop parts (split line)

-- What is known of a line when some of its parts were read: the place of the next, and the letters.
pub record IsRead
    (strict : Bool) (line : List ℕ) (parts place count : ℕ) (kept : List Letter) : Type 0 where
  pub few : count < place
  pub left : place + size (rest parts line) ≡ length line + 2
  pub so_far
      : IsKept (read_from strict 1 (split line)) (read_from strict place (rest parts line)) count
      kept

-- The next part, where some were read.
pub record IsNext (line : List ℕ) (parts : ℕ) (part : List ℕ) : Type 0 where
  pub within : parts < length (split line)
  pub is : part ≡ get_or (split line) parts part

-- before the first part
pub IsRead-none : (strict : Bool) (line : List ℕ) → IsRead strict line 0 1 0 []
IsRead-none strict line =
    record {
      few = omega arith;
      left = omega (arith, size-split line);
      so_far = IsKept-none (read_from strict 1 (split line));
    }

-- what is left is the next part and what stands behind it
rest-next
    : {line part : List ℕ} {parts : ℕ}
    → IsNext line parts part
    → rest parts line ≡ part ∷ rest (parts + 1) line
rest-next {line} {part} {parts} next =
    drop_more (split line) parts part next.within
    ∙ ap (λ p. p ∷ rest (parts + 1) line) (sym next.is)

-- the sizes of both
size-rest
    : {line part : List ℕ} {parts : ℕ}
    → IsNext line parts part
    → size (rest parts line) ≡ length part + 1 + size (rest (parts + 1) line)
size-rest next = ap size (rest-next next)

-- the place behind a part is at most 2 above the length of the line
pub place-le
    : {strict : Bool} {line part kept : _} {parts place count : ℕ}
    → IsRead strict line parts place count kept
    → IsNext line parts part
    → place + (length part + 1) ≤ length line + 2
place-le is next = omega (arith, size-rest next)

-- behind an empty part
pub IsRead-empty
    : {strict : Bool} {line part kept : _} {parts place count : ℕ}
    → IsRead strict line parts place count kept
    → IsNext line parts part
    → is_piece strict part ≡ false
    → IsRead strict line (parts + 1) (place + (length part + 1)) count kept
IsRead-empty {strict} {line} {part} {kept} {parts} {place} is next none =
    let left = rest (parts + 1) line in
    record {
      few = omega arith;
      left = omega (arith, size-rest next);
      so_far = IsKept-on is.so_far
          (ap (read_from strict place) (rest-next next)
          ∙ read_from-empty strict place part left none);
    }

-- what is read at a part that isn't empty
so_far-next
    : {strict : Bool} {line part kept : _} {parts place count : ℕ} {letter : Result Letter WordErr}
    → IsRead strict line parts place count kept
    → IsNext line parts part
    → is_piece strict part ≡ true
    → letter_at place part ≡ letter
    → IsKept (read_from strict 1 (split line))
    (in_front letter (read_from strict (place + (length part + 1)) (rest (parts + 1) line)))
    count kept
so_far-next {strict} {line} {part} {kept} {parts} {place} is next some is_letter =
    let left = rest (parts + 1) line in
    IsKept-on is.so_far
    (ap (read_from strict place) (rest-next next)
    ∙ read_from-piece strict place part left some
    ∙ ap (λ letter. in_front letter (read_from strict (place + (length part + 1)) left)) is_letter)

-- behind a part that is a letter
pub IsRead-letter
    : {strict : Bool} {line part kept more : _} {parts place count : ℕ} {x : Letter}
    → IsRead strict line parts place count kept
    → IsNext line parts part
    → is_piece strict part ≡ true
    → letter_at place part ≡ Ok x
    → ((w : List Letter) → kept ≡ take MAX_LETTERS w → more ≡ take MAX_LETTERS (w ++ x ∷ []))
    → IsRead strict line (parts + 1) (place + (length part + 1)) (count + 1) more
IsRead-letter is next some letter keeps =
    record {
      few = omega arith;
      left = omega (arith, size-rest next);
      so_far = IsKept-letter (so_far-next is next some letter) keeps;
    }

-- ---- The word ----

-- the fault of a part is the answer
pub Fails-part
    : {strict : Bool} {line part kept : _} {parts place count : ℕ} {e : WordErr}
    → IsRead strict line parts place count kept
    → IsNext line parts part
    → is_piece strict part ≡ true
    → letter_at place part ≡ Err e
    → FailsAs (fault_in e) (word_by strict line)
unfolding word_by
Fails-part is next some fault = Fails-kept (so_far-next is next some fault)

-- behind the last part the answer is that of all letters
pub Gives-parts
    : {strict : Bool} {line kept : _} {parts place count : ℕ}
    → (result : Result (List Letter) WordErr)
    → IsRead strict line parts place count kept
    → length (split line) ≤ parts
    → ((w : List Letter)
    → kept ≡ take MAX_LETTERS w
    → count ≡ length w
    → Gives result (not_too_long (Ok w)))
    → Gives result (word_by strict line)
unfolding word_by
Gives-parts {strict} {line} {kept} {parts} {place} result is all gives =
    Gives-kept result
    (IsKept-on is.so_far (ap (read_from strict place) (drop_all parts (split line) all))) gives

-- a filter that keeps all
filter-true : {X : Type 0} (xs : List X) → filter (λ x. true) xs ≡ xs
filter-true [] = refl
filter-true (x ∷ xs) = ap (λ ys. x ∷ ys) (filter-true xs)

-- in a strict reading each part is to be a letter
word_by-strict : (line : List ℕ) → word_by true line ≡ not_too_long (letters_of (parts_of line))
unfolding word_by
word_by-strict line = ap (λ pieces. not_too_long (letters_of pieces)) (filter-true (parts_of line))

-- each part of some bytes is a letter of their word
pub strict_word_of-parts
    : (line : List ℕ)
    → eqb (length line) 0 ≡ false
    → strict_word_of line ≡ not_too_long (letters_of (parts_of line))
unfolding strict_word_of
strict_word_of-parts [] some = cc
strict_word_of-parts (b ∷ line) some = refl

-- so some bytes are read strictly
pub strict_word_of-some
    : (line : List ℕ)
    → eqb (length line) 0 ≡ false
    → strict_word_of line ≡ word_by true line
strict_word_of-some line some = strict_word_of-parts line some ∙ sym (word_by-strict line)

-- no bytes are the empty word
pub strict_word_of-none
    : (line : List ℕ)
    → eqb (length line) 0 ≡ true
    → strict_word_of line ≡ Ok []
unfolding strict_word_of
strict_word_of-none [] none = refl
strict_word_of-none (b ∷ line) none = absurd (omega (arith, eqb-true _ _ none))
