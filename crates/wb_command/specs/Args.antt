-- The words of a command line after the command's name, read one after the other.
--
-- Source: this project's own.
--
--   then_read first next       what `next` makes of the value that was read first, if there is one
--   last_read words x          x, if no word is left
--   first_word words           the first word
--   first_number low high ws   the number from low to high that the first word is
--   rest_of words              the words after the first one
use Rattle.std.specs.Prelude.{ℕ, List, [], ◌∷◌, Option, Some, None}
use Rattle.wb_base.specs.Numbers.{number_within}

-- Of `Some 3` and a `next` it is `next 3`; where nothing was read there is nothing.
abbrev pub then_read : {A X : Type 0} → Option A → (A → Option X) → Option X
then_read None next = None
then_read (Some a) next = next a

abbrev pub last_read : {X : Type 0} → List (List ℕ) → X → Option X
last_read [] x = Some x
last_read (word ∷ rest) x = None

abbrev pub first_word : List (List ℕ) → Option (List ℕ)
first_word [] = None
first_word (word ∷ rest) = Some word

-- Of the words `12`, `x` and the bounds 1 and 64 it is 12.
abbrev pub first_number : ℕ → ℕ → List (List ℕ) → Option ℕ
first_number low high [] = None
first_number low high (word ∷ rest) = number_within low high word

abbrev pub rest_of : List (List ℕ) → List (List ℕ)
rest_of [] = []
rest_of (word ∷ rest) = rest
