-- Shifting words: 1 is added to every index.
--
-- Shifting goes through products and inverses, and a shifted word is on one strand more.
-- Words equivalent on n strands are, when shifted, equivalent on n + 1 strands
-- (`EquivalentOn-shift`), since each shifted relation is a relation.
use Rattle.std.proofs.Common.{ℕ, ◌≡◌, ◌+◌, List, [], ◌∷◌, ◌++◌, refl, arith}
use Rattle.std.proofs.lemmas.List.{map-append}
use Rattle.braid_word.specs.Words.{Letter, letter, inverse, shift, EachLetter, IsWord, IsOn}
use Rattle.braid_word.specs.Equivalence.{Relation, commutation, braiding, cancellation, left_side, right_side, DifferByOne, forward, backward, EquivalentOn, stay, move}

-- ---- Words ----

-- shifting a product shifts its two parts
pub shift-append : (u v : List Letter) → shift (u ++ v) ≡ shift u ++ shift v
shift-append = map-append _

-- shifting an inverse inverts the shifted word
pub shift-inverse : (u : List Letter) → shift (inverse u) ≡ inverse (shift u)
shift-inverse [] = refl
shift-inverse (x ∷ u) = rw (shift-append, shift-inverse u)

-- what holds of the shifted letters holds of the letters of the shifted word
pub each_shift
    : (P Q : Letter → Type 0)
    → ((x : Letter) → P x → Q (letter (x.index + 1) x.negative))
    → (u : List Letter)
    → EachLetter P u
    → EachLetter Q (shift u)
each_shift P Q f [] p = tt
each_shift P Q f (x ∷ u) p = (f x p.0, each_shift P Q f u p.1)

-- a shifted word is a word
pub word_shift : (u : List Letter) → IsWord u → IsWord (shift u)
word_shift = each_shift _ _ (λ x p. omega arith)

-- a word on n strands, shifted, is on one strand more
pub on_shift : (n : ℕ) (u : List Letter) → IsOn n u → IsOn (n + 1) (shift u)
on_shift n = each_shift _ _ (λ x p. omega arith)

-- ---- Equivalence ----

-- The relation between the shifted words.
abbrev raised : Relation → Relation
raised (commutation i j apart) = commutation (i + 1) (j + 1) (omega arith)
raised (braiding i) = braiding (i + 1)
raised (cancellation i negative) = cancellation (i + 1) negative

-- its left side is the shifted left side
left_side-raised : (r : Relation) → left_side (raised r) ≡ shift (left_side r)
left_side-raised (commutation i j apart) = refl
left_side-raised (braiding i) = refl
left_side-raised (cancellation i negative) = refl

-- its right side is the shifted right side
right_side-raised : (r : Relation) → right_side (raised r) ≡ shift (right_side r)
right_side-raised (commutation i j apart) = refl
right_side-raised (braiding i) = refl
right_side-raised (cancellation i negative) = refl

-- a step between shifted words
pub DifferByOne-shift : {u v : List Letter} → DifferByOne u v → DifferByOne (shift u) (shift v)
DifferByOne-shift (forward before after r first last) =
    forward (shift before) (shift after) (raised r)
    (rw (first, left_side-raised) (simp shift-append))
    (rw (last, right_side-raised) (simp shift-append))
DifferByOne-shift (backward before after r first last) =
    backward (shift before) (shift after) (raised r)
    (rw (first, right_side-raised) (simp shift-append))
    (rw (last, left_side-raised) (simp shift-append))

-- equivalent words, shifted, are equivalent on one strand more
pub EquivalentOn-shift
    : {n : ℕ} {u v : List Letter}
    → EquivalentOn n u v
    → EquivalentOn (n + 1) (shift u) (shift v)
EquivalentOn-shift {n} (stay {u} on) = stay (on_shift n u on)
EquivalentOn-shift {n} (move {u} on step chain) =
    move (on_shift n u on) (DifferByOne-shift step) (EquivalentOn-shift chain)
