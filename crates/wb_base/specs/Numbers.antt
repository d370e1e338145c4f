-- Decimal numbers as text.
--
-- A number is written in one way: its digits, without a leading zero.
--
-- Source: this project's own.
--
--   digits_in_front bytes         the longest run of digits that the bytes begin with
--   is_canonical run              whether a run of digits is the text of a number
--   number_at bytes               the number that the bytes begin with, and the length of its text
--   number_within low high text   the number that a whole text is, within these bounds
--   spaced_number n               the text of n, behind a space
--   signed_text negative n        the text of n, behind a minus sign where it is negative
use Rattle.std.specs.Prelude.{ℕ, ◌^◌, ◌&&◌, ◌==◌, Bool, true, false, not, nat_lt, if◌then◌else◌, List, [], ◌∷◌, ◌++◌, length, decimal, take_while, Option, Some, None}
use Rattle.std.specs.Char.{is_ascii_digit}
use Rattle.std.specs.Str.Parse.{digits_value}

-- The longest run of digits in front: of `102 7` it is `102`.
abbrev pub digits_in_front : List ℕ → List ℕ
digits_in_front bytes = take_while is_ascii_digit bytes

-- Some digits, the first of which is 0 only where it is the only one.
abbrev pub is_canonical : List ℕ → Bool
is_canonical [] = false
is_canonical (d ∷ []) = true
is_canonical (d ∷ (e ∷ ds)) = not (d == 48)

-- The number that a run of digits writes, below 2^64, and the length of the run.
abbrev pub number_of : List ℕ → Option (ℕ × ℕ)
number_of run =
    if is_canonical run && nat_lt (digits_value 10 run) (2 ^ 64) then Some (digits_value 10 run, length run)
    else None

-- A number behind a space.
abbrev pub spaced_number : ℕ → List ℕ
spaced_number n = 32 ∷ decimal n

-- The number in front and how many digits it has: of `102 7` they are 102 and 3, and `01` has none.
abbrev pub number_at : List ℕ → Option (ℕ × ℕ)
number_at bytes = number_of (digits_in_front bytes)

-- A number that takes all bytes of a text, and is within these bounds.
abbrev pub whole_number : ℕ → ℕ → ℕ → Option (ℕ × ℕ) → Option ℕ
whole_number low high size None = None
whole_number low high size (Some (value, digits)) =
    if (digits == size) && not (nat_lt value low) && not (nat_lt high value) then Some value else None

-- The number that a text is: from 1 to 64 it is one for `64`, and none for `01`, `0`, `65` and `1x`.
abbrev pub number_within : ℕ → ℕ → List ℕ → Option ℕ
number_within low high text = whole_number low high (length text) (number_at text)

-- A minus sign, for a negative number.
abbrev pub sign_text : Bool → List ℕ
sign_text negative = if negative then 45 ∷ [] else []

-- A number behind its sign: `2` or `-2`.
abbrev pub signed_text : Bool → ℕ → List ℕ
signed_text negative n = sign_text negative ++ decimal n
