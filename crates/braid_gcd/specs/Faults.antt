-- Why two words are refused: for the first of them that has the fault, with its place or its length.
--
-- Source: this project's own.
--
--   fault_in first second  which of two words has a letter, whose places are counted from 0, and where it is,
--                          counted from 1
--   outside_fault n u v    the first letter that isn't on n strands, of u, or else of v
--   negative_fault u v     the first inverse letter, of u, or else of v
--   length_fault u v       the length of u, or else of v, if it has more than MAX_DIVIDED letters
use Rattle.std.specs.Prelude.{ℕ, ◌+◌, Bool, true, false, nat_lt, if◌then◌else◌, List, length, Option, Some, None}
use Rattle.braid_word.specs.Words.{Letter, first_outside, first_negative}
use Rattle.braid_gcd.specs.declared.TheConstants.{MAX_DIVIDED}

-- Whether it is the second word, and the place, counted from 1: the first word comes first.
abbrev pub fault_in : Option ℕ → Option ℕ → Option (Bool × ℕ)
fault_in (Some k) second = Some (false, k + 1)
fault_in None (Some k) = Some (true, k + 1)
fault_in None None = None

-- Of letters that aren't on n strands.
abbrev pub outside_fault : ℕ → List Letter → List Letter → Option (Bool × ℕ)
outside_fault n u v = fault_in (first_outside n u) (first_outside n v)

-- Of inverse letters.
abbrev pub negative_fault : List Letter → List Letter → Option (Bool × ℕ)
negative_fault u v = fault_in (first_negative u) (first_negative v)

-- Of words of more than MAX_DIVIDED letters, with the number of letters.
abbrev pub length_fault : List Letter → List Letter → Option (Bool × ℕ)
length_fault u v =
    if nat_lt MAX_DIVIDED (length u) then Some (false, length u)
    else (if nat_lt MAX_DIVIDED (length v) then Some (true, length v) else None)
