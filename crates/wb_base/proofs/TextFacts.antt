-- Worked rows of numbers, lines, names and counts of faults.
use Rattle.std.proofs.Common.{◌≡◌, ◌-◌, ◌^◌, true, false, [], ◌∷◌, replicate, Some, None, codes, refl}
use Rattle.wb_base.specs.Lines.{lines_of, cut, whole_lines, line}
use Rattle.wb_base.specs.Names.{is_name}
use Rattle.wb_base.specs.Numbers.{number_at, number_within}
use Rattle.wb_base.specs.Streams.{one_more}

-- `102 7` begins with 102, which has 3 digits
number_row : number_at (codes "102 7") ≡ Some (102, 3)
number_row = refl

-- the greatest u64 is a number
greatest_number_row : number_at (codes "18446744073709551615") ≡ Some (18446744073709551615, 20)
greatest_number_row = refl

-- one more isn't
past_number_row : number_at (codes "18446744073709551616") ≡ None
past_number_row = refl

-- nothing begins with no number
no_number_row : number_at [] ≡ None
no_number_row = refl

-- a number is within its bounds, has no leading zero, and is the whole text
within_row
    : number_within 1 64 (codes "64") ∷
    (number_within 1 64 (codes "65") ∷
    (number_within 0 64 (codes "01") ∷ (number_within 0 64 (codes "1x") ∷ [])))
    ≡ Some 64 ∷ (None ∷ (None ∷ (None ∷ [])))
within_row = refl

-- `a LF LF b` is three lines, of which the second is empty
lines_row : lines_of (97 ∷ 10 ∷ 10 ∷ 98 ∷ []) ≡ (97 ∷ []) ∷ ([] ∷ ((98 ∷ []) ∷ []))
lines_row = refl

-- an empty line is one line
empty_line_row : lines_of (line []) ≡ [] ∷ []
empty_line_row = refl

-- of `a LF b` the line `a` is whole, and `b` stands behind the last LF
cut_row : cut (97 ∷ 10 ∷ 98 ∷ []) ≡ ((97 ∷ []) ∷ [], 98 ∷ [])
cut_row = refl

-- of `a LF LF` both lines are whole
whole_lines_row : whole_lines (97 ∷ 10 ∷ 10 ∷ []) ≡ (97 ∷ []) ∷ ([] ∷ [])
whole_lines_row = refl

-- 32 bytes may be a name
longest_name_row : is_name (replicate 32 97) ≡ true
longest_name_row = refl

-- 33 aren't one
long_name_row : is_name (replicate 33 97) ≡ false
long_name_row = refl

-- a count stays at the greatest u64
last_count_row : one_more (2 ^ 64 - 1) ≡ 2 ^ 64 - 1
last_count_row = refl
