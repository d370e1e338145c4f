-- The sign of a word, as a value.
--
-- The empty word has the sign `Empty`. The sign of another word is that of its letters of least index,
-- where they agree, and is mixed where they don't.
--
-- Source: P. Dehornoy, Braid groups and left distributive operations, 1994.
--
--   least_index x w    the least index of the word x ∷ w
--   occurs i e w       whether the letter of index i and sign e is in w
--   sign_of w          the sign of w, with its least index
--
-- A sign is positive, negative or mixed at i exactly where the word is what `Order` calls so, and empty
-- exactly where the word is: these are clauses of `sign_of` in `src/sign.rt`.
use Rattle.std.specs.Prelude.{ℕ, Bool, true, false, min, List, [], ◌∷◌, ◌==◌, ◌&&◌, not, if◌then◌else◌}
use Rattle.std.specs.List.{list_any}
use Rattle.braid_word.specs.Words.{Letter}
use Rattle.braid_word.specs.declared.sign.Sign.{Sign}
use Rattle.braid_word.specs.declared.sign.Sign.TheVariants.{Empty, Positive, Negative, Mixed}

-- The least index of a word that begins with x.
abbrev pub least_index : Letter → List Letter → ℕ
least_index x [] = x.index
least_index x (y ∷ w) = min x.index (least_index y w)

-- Whether the generator of index i occurs, or its inverse where `negative` is true.
abbrev pub occurs : ℕ → Bool → List Letter → Bool
occurs i negative w =
    list_any (λ (x : Letter). (x.index == i) && (if negative then x.negative else not x.negative)) w

-- The sign of a word whose least index is i.
abbrev pub sign_at : ℕ → List Letter → Sign
sign_at i w =
    if occurs i true w then (if occurs i false w then Mixed i else Negative i) else Positive i

-- The sign of a word: of `1 2` it is positive at 1, of `-2 3` negative at 2, of `1 2 -1` mixed at 1.
abbrev pub sign_of : List Letter → Sign
sign_of [] = Empty
sign_of (x ∷ w) = sign_at (least_index x w) (x ∷ w)
