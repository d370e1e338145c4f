-- Laws of braid words: facts about each and some letter, inverses, words on n strands, and the first letter
-- that isn't on them.
--
-- A fact about the letters of a word is taken apart and put together at `++` and at `inverse`. The
-- inverse of a product is the product of the inverses, the other way round (`inverse-append`), and
-- inverting twice changes nothing (`inverse-inverse`).
use Rattle.std.proofs.Common.{ℕ, zero, suc, ◌≡◌, Bool, true, false, not, ltb, ◌⊎◌, inl, inr, ◌+◌, ◌<◌, ◌≤◌, List, [], ◌∷◌, ◌++◌, Some, None, refl, sym, ap, subst, append_assoc, append-nil, length, length-append, take, get_or, map, reverse, arith}
use Rattle.std.specs.List.{position_or_len}
use Rattle.std.proofs.lemmas.Bool.{lt-ltb, le-ltb, ltb-true}
use Rattle.std.proofs.lemmas.List.{map-append, reverse-append}
use Rattle.std.proofs.Math.Bool.{not-not}
use mathlib.Core.Path.{◌≡⟨◌⟩◌, ◌∎}
use Rattle.braid_word.specs.Words.{Letter, letter, opposite, inverse, quotient, EachLetter, SomeLetter, IsWord, IsOn, first_outside}
use Rattle.wb_base.proofs.PartLemmas.{position-None}

-- ---- Each letter ----

-- what holds of the letters of u and of v holds of those of u ++ v
pub each_append
    : (P : Letter → Type 0) (u v : List Letter)
    → EachLetter P u
    → EachLetter P v
    → EachLetter P (u ++ v)
each_append P [] v p q = q
each_append P (x ∷ u) v p q = (p.0, each_append P u v p.1 q)

-- what holds of the letters of u ++ v holds of those of u
pub each_left : (P : Letter → Type 0) (u v : List Letter) → EachLetter P (u ++ v) → EachLetter P u
each_left P [] v p = tt
each_left P (x ∷ u) v p = (p.0, each_left P u v p.1)

-- what holds of the letters of u ++ v holds of those of v
pub each_right : (P : Letter → Type 0) (u v : List Letter) → EachLetter P (u ++ v) → EachLetter P v
each_right P [] v p = p
each_right P (x ∷ u) v p = each_right P u v p.1

-- what follows from a fact about each letter holds of each letter
pub each_weaker
    : (P Q : Letter → Type 0)
    → ((x : Letter) → P x → Q x)
    → (u : List Letter)
    → EachLetter P u
    → EachLetter Q u
each_weaker P Q f [] p = tt
each_weaker P Q f (x ∷ u) p = (f x p.0, each_weaker P Q f u p.1)

-- two facts about each letter hold together
pub each_both
    : (P Q : Letter → Type 0) (u : List Letter)
    → EachLetter P u
    → EachLetter Q u
    → EachLetter (λ x. P x × Q x) u
each_both P Q [] p q = tt
each_both P Q (x ∷ u) p q = ((p.0, q.0), each_both P Q u p.1 q.1)

-- what holds of the inverses of the letters holds of the letters of the inverse
pub each_inverse
    : (P Q : Letter → Type 0)
    → ((x : Letter) → P x → Q (opposite x))
    → (u : List Letter)
    → EachLetter P u
    → EachLetter Q (inverse u)
each_inverse P Q f [] p = tt
each_inverse P Q f (x ∷ u) p =
    each_append Q (inverse u) (opposite x ∷ []) (each_inverse P Q f u p.1) (f x p.0, tt)

-- ---- Some letter ----

-- what holds of some letter of u holds of some letter of u ++ v
pub some_left : (P : Letter → Type 0) (u v : List Letter) → SomeLetter P u → SomeLetter P (u ++ v)
some_left P [] v s = absurd s
some_left P (x ∷ u) v (inl p) = inl p
some_left P (x ∷ u) v (inr s) = inr (some_left P u v s)

-- what holds of some letter of v holds of some letter of u ++ v
pub some_right : (P : Letter → Type 0) (u v : List Letter) → SomeLetter P v → SomeLetter P (u ++ v)
some_right P [] v s = s
some_right P (x ∷ u) v s = inr (some_right P u v s)

-- what holds of the inverse of some letter holds of some letter of the inverse
pub some_inverse
    : (P Q : Letter → Type 0)
    → ((x : Letter) → P x → Q (opposite x))
    → (u : List Letter)
    → SomeLetter P u
    → SomeLetter Q (inverse u)
some_inverse P Q f [] s = absurd s
some_inverse P Q f (x ∷ u) (inl p) = some_right Q (inverse u) (opposite x ∷ []) (inl (f x p))
some_inverse P Q f (x ∷ u) (inr s) =
    some_left Q (inverse u) (opposite x ∷ []) (some_inverse P Q f u s)

-- ---- Inverses ----

-- a sign is this one or the other
pub same_or_opposite : (a b : Bool) → (a ≡ b) ⊎ (a ≡ not b)
same_or_opposite true true = inl refl
same_or_opposite true false = inr refl
same_or_opposite false true = inr refl
same_or_opposite false false = inl refl

-- a letter is the inverse of its inverse
pub opposite-opposite : (x : Letter) → opposite (opposite x) ≡ x
opposite-opposite x = ap (letter x.index) (not-not x.negative)

-- the inverse of a product is the product of the inverses, the other way round
pub inverse-append : (u v : List Letter) → inverse (u ++ v) ≡ inverse v ++ inverse u
inverse-append [] v = sym (append-nil (inverse v))
inverse-append (x ∷ u) v =
    inverse (u ++ v) ++ opposite x ∷ []
    ≡⟨ ap (λ w. w ++ opposite x ∷ []) (inverse-append u v) ⟩
    (inverse v ++ inverse u) ++ opposite x ∷ []
    ≡⟨ append_assoc (inverse v) (inverse u) (opposite x ∷ []) ⟩
    inverse v ++ (inverse u ++ opposite x ∷ [])
    ∎

-- inverting a word twice changes nothing
pub inverse-inverse : (u : List Letter) → inverse (inverse u) ≡ u
inverse-inverse [] = refl
inverse-inverse (x ∷ u) =
    inverse (inverse u ++ opposite x ∷ [])
    ≡⟨ inverse-append (inverse u) (opposite x ∷ []) ⟩
    opposite (opposite x) ∷ inverse (inverse u)
    ≡⟨ ap (λ y. y ∷ inverse (inverse u)) (opposite-opposite x) ⟩
    x ∷ inverse (inverse u)
    ≡⟨ ap (λ w. x ∷ w) (inverse-inverse u) ⟩
    x ∷ u
    ∎

-- the inverse is the word backwards, with each letter turned
pub inverse-reverse : (u : List Letter) → inverse u ≡ map opposite (reverse u)
inverse-reverse [] = refl
inverse-reverse (x ∷ u) =
    rw (reverse-append (x ∷ []) u, map-append) (ap (λ w. w ++ opposite x ∷ []) (inverse-reverse u))

-- the inverse of a word is as long
pub length-inverse : (u : List Letter) → length (inverse u) ≡ length u
length-inverse [] = refl
length-inverse (x ∷ u) = rw (length-append) (omega (arith, length-inverse u))

-- so a quotient is as long as its words together
pub length-quotient : (u v : List Letter) → length (quotient u v) ≡ length u + length v
length-quotient u v = omega (arith, length-append (inverse u) v, length-inverse u)

-- ---- Words ----

-- the product of two words is a word
pub word_append : (u v : List Letter) → IsWord u → IsWord v → IsWord (u ++ v)
word_append = each_append _

-- the inverse of a word is a word
pub word_inverse : (u : List Letter) → IsWord u → IsWord (inverse u)
word_inverse = each_inverse _ _ (λ x p. p)

-- ---- Words on n strands ----

-- the product of two words on n strands is on n strands
pub on_append : (n : ℕ) (u v : List Letter) → IsOn n u → IsOn n v → IsOn n (u ++ v)
on_append n = each_append _

-- the first part of a word on n strands is on n strands
pub on_left : (n : ℕ) (u v : List Letter) → IsOn n (u ++ v) → IsOn n u
on_left n = each_left _

-- the last part of a word on n strands is on n strands
pub on_right : (n : ℕ) (u v : List Letter) → IsOn n (u ++ v) → IsOn n v
on_right n = each_right _

-- the inverse of a word on n strands is on n strands
pub on_inverse : (n : ℕ) (u : List Letter) → IsOn n u → IsOn n (inverse u)
on_inverse n = each_inverse _ _ (λ x p. p)

-- a word is on n strands where its inverse is
pub on_uninverted : (n : ℕ) (u : List Letter) → IsOn n (inverse u) → IsOn n u
on_uninverted n u on = rw inverse-inverse at (on_inverse n (inverse u) on)

-- the quotient of two words on n strands is on n strands
pub on_quotient : (n : ℕ) (u v : List Letter) → IsOn n u → IsOn n v → IsOn n (quotient u v)
on_quotient n u v p q = on_append n (inverse u) v (on_inverse n u p) q

-- a word on n strands is on more strands too
pub on_more : (n m : ℕ) → n ≤ m → (u : List Letter) → IsOn n u → IsOn m u
on_more n m more = each_weaker _ _ (λ x p. omega arith)

-- a word on n strands is a word
pub on_word : (n : ℕ) (u : List Letter) → IsOn n u → IsWord u
on_word n = each_weaker _ _ (λ x p. p.0)

-- a word is on some number of strands
pub on_some : (u : List Letter) → IsWord u → (n : ℕ) × IsOn n u
on_some [] p = (0, tt)
on_some (x ∷ u) p = on_some_cons x u p.0 (on_some u p.1)
  where
    on_some_cons : (x : Letter) (u : List Letter) → 1 ≤ x.index → ((n : ℕ) × IsOn n u)
        → (n : ℕ) × IsOn n (x ∷ u)
    on_some_cons x u low (n, on) =
        (n + x.index + 1, ((low, omega arith), on_more n (n + x.index + 1) (omega arith) u on))

-- ---- The first letter that isn't on so many strands ----

-- the test for such a letter
abbrev is_outside : ℕ → Letter → Bool
is_outside n x = not (ltb x.index n)

-- where all are on so many strands, there is none
position-on : (n : ℕ) (w : List Letter) → IsOn n w → position_or_len (is_outside n) w ≡ length w
position-on n [] on = refl
position-on n (x ∷ w) on = rw (lt-ltb x.index n on.0.1) (let rest = position-on n w on.1 in omega arith)

pub first_outside-on : (n : ℕ) (w : List Letter) → IsOn n w → first_outside n w ≡ None
first_outside-on n w on = rw (position-on n w on, le-ltb (length w) (length w) (omega arith)) refl

-- one whose index is n or more, where those before it are on n strands
position-here
    : (n k : ℕ) (w : List Letter) (d : Letter)
    → k < length w
    → IsOn n (take k w)
    → n ≤ (get_or w k d).index
    → position_or_len (is_outside n) w ≡ k
position-here n k [] d within on high = absurd (omega (arith, within))
position-here n zero (x ∷ w) d within on high = rw (le-ltb x.index n high) refl
position-here n (suc k) (x ∷ w) d within on high =
    rw (lt-ltb x.index n on.0.1)
    (let rest = position-here n k w d (omega (arith, within)) on.1 high in omega arith)

pub first_outside-here
    : (n k : ℕ) (w : List Letter) (x d : Letter)
    → k < length w
    → x ≡ get_or w k d
    → IsOn n (take k w)
    → n ≤ x.index
    → first_outside n w ≡ Some k
first_outside-here n k w x d within is on high =
    rw (position-here n k w d within on (subst (λ z. n ≤ z.index) is high), lt-ltb k (length w) within) refl

-- letters that are on some strands, and of which none is outside of n, are on n
on-position
    : (n more : ℕ) (w : List Letter)
    → IsOn more w
    → length w ≤ position_or_len (is_outside n) w
    → IsOn n w
on-position n more [] on past = tt
on-position n more (x ∷ w) on past = go (ltb x.index n) refl (on-position n more w on.1)
  where
    go
        : (low : Bool)
        → ltb x.index n ≡ low
        → (length w ≤ position_or_len (is_outside n) w → IsOn n w)
        → IsOn n (x ∷ w)
    go true low rest = ((on.0.0, ltb-true x.index n low), rest (let more = rw low at past in omega arith))
    go false high rest = absurd (let more = rw high at past in omega arith)

-- where no letter is outside, the word is on these strands
pub on-first_outside : (n more : ℕ) (w : List Letter) → IsOn more w → first_outside n w ≡ None → IsOn n w
on-first_outside n more w on none =
    on-position n more w on (position-None (is_outside n) w none)
