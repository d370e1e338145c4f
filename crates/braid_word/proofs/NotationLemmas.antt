-- Laws of the text of words.
use Rattle.std.proofs.Common.{◌≡◌, ◌-◌, ◌<◌, ◌≤◌, List, [], ◌∷◌, ◌++◌, length, take, drop, get_or, refl}
use Rattle.std.specs.List.{flat_map}
use Rattle.wb_base.proofs.JoinLemmas.{join-cons, join-first, join-empty}
use Rattle.braid_word.specs.Words.{Letter}
use Rattle.braid_word.specs.Notation.{letter_text, next_text, word_text}

-- ---- Spelling ----

-- a word is spelled as its first letter and the others, each behind a space
pub word_text-cons
    : (x : Letter) (w : List Letter)
    → word_text (x ∷ w) ≡ letter_text x ++ flat_map next_text w
unfolding word_text
word_text-cons x w = join-cons letter_text x w

-- the empty word has no bytes
pub word_text-nil : word_text [] ≡ []
unfolding word_text
word_text-nil = refl

-- the same for a word with a first letter, by places
pub word_text-first
    : (w : List Letter) (x : Letter)
    → 1 ≤ length w
    → x ≡ get_or w 0 x
    → word_text w ≡ letter_text x ++ flat_map next_text (take (length w - 1) (drop 1 w))
unfolding word_text
word_text-first w x some is = join-first letter_text w x some is

-- a word without a first letter has no bytes
pub word_text-empty : (w : List Letter) → length w < 1 → word_text w ≡ []
unfolding word_text
word_text-empty w none = join-empty letter_text w none
