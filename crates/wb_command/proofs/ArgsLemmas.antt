-- Laws of the words of a command line.
use Rattle.std.proofs.Common.{◌≡◌, ℕ, List, [], ◌∷◌, Some, None, refl}
use Rattle.wb_base.specs.Numbers.{number_within}
use Rattle.wb_command.specs.Args.{first_word, first_number}

-- no word is no number
pub first_number-none
    : (low high : ℕ) (words : List (List ℕ))
    → first_word words ≡ None
    → first_number low high words ≡ None
first_number-none low high [] none = refl
first_number-none low high (word ∷ rest) none = absurd cc

-- the number of the first word
pub first_number-some
    : (low high : ℕ) (words : List (List ℕ)) (word : List ℕ)
    → first_word words ≡ Some word
    → first_number low high words ≡ number_within low high word
first_number-some low high [] word some = absurd cc
first_number-some low high (first ∷ rest) word some = let same : first ≡ word = cc in rw same refl
