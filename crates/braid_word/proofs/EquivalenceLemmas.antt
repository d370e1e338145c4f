-- Laws of equivalence: it is a congruence, and words up to it are a group.
--
-- Chains of steps are put one after another, turned round, put between two words and read on more
-- strands. Then a word beside its inverse is equivalent to the empty word, and inverses of
-- equivalent words are equivalent (`EquivalentOn-inverse`). The same is said of `Equivalent`, where
-- no number of strands is given: two chains are put on as many strands as both have together. Last,
-- two words are equal in the order exactly if they are equivalent.
use Rattle.std.proofs.Common.{ℕ, ◌+◌, ◌≤◌, List, [], ◌∷◌, ◌++◌, sym, append_assoc, append-nil, arith}
use Rattle.braid_word.specs.Words.{Letter, opposite, inverse, quotient, IsWord, IsOn}
use Rattle.braid_word.specs.Equivalence.{Relation, left_side, right_side, cancellation, DifferByOne, forward, backward, EquivalentOn, stay, move, Equivalent}
use Rattle.braid_word.specs.Order.{IsEqual}
use Rattle.braid_word.proofs.WordLemmas.{inverse-inverse, on_append, on_left, on_right, on_inverse, on_more, on_word, on_some}

-- ---- Steps ----

-- a step is turned round
pub DifferByOne-sym : {u v : List Letter} → DifferByOne u v → DifferByOne v u
DifferByOne-sym (forward before after r first last) = backward before after r last first
DifferByOne-sym (backward before after r first last) = forward before after r last first

-- a step between two words
pub DifferByOne-between
    : {u v : List Letter} (a c : List Letter)
    → DifferByOne u v
    → DifferByOne (a ++ (u ++ c)) (a ++ (v ++ c))
DifferByOne-between a c (forward before after r first last) =
    forward (a ++ before) (after ++ c) r (rw first (simp append_assoc))
    (rw last (simp append_assoc))
DifferByOne-between a c (backward before after r first last) =
    backward (a ++ before) (after ++ c) r (rw first (simp append_assoc))
    (rw last (simp append_assoc))

-- ---- Chains on n strands ----

-- the first word of a chain is on n strands
pub on_first : {n : ℕ} {u v : List Letter} → EquivalentOn n u v → IsOn n u
on_first (stay on) = on
on_first (move on step chain) = on

-- the last word of a chain is on n strands
pub on_last : {n : ℕ} {u v : List Letter} → EquivalentOn n u v → IsOn n v
on_last (stay on) = on
on_last (move on step chain) = on_last chain

-- a chain of one step
pub EquivalentOn-step
    : {n : ℕ} {u v : List Letter}
    → IsOn n u
    → IsOn n v
    → DifferByOne u v
    → EquivalentOn n u v
EquivalentOn-step on_u on_v step = move on_u step (stay on_v)

-- the two sides of a relation are equivalent
pub EquivalentOn-relation
    : (n : ℕ) (r : Relation)
    → IsOn n (left_side r)
    → IsOn n (right_side r)
    → EquivalentOn n (left_side r) (right_side r)
EquivalentOn-relation n r on_left on_right =
    EquivalentOn-step on_left on_right
    (forward [] [] r (sym (append-nil (left_side r))) (sym (append-nil (right_side r))))

-- two chains, one after the other
pub EquivalentOn-trans
    : {n : ℕ} {u v w : List Letter}
    → EquivalentOn n u v
    → EquivalentOn n v w
    → EquivalentOn n u w
EquivalentOn-trans (stay on) second = second
EquivalentOn-trans (move on step first) second = move on step (EquivalentOn-trans first second)

-- a chain is turned round
pub EquivalentOn-sym : {n : ℕ} {u v : List Letter} → EquivalentOn n u v → EquivalentOn n v u
EquivalentOn-sym (stay on) = stay on
EquivalentOn-sym (move on step chain) =
    EquivalentOn-trans (EquivalentOn-sym chain)
    (EquivalentOn-step (on_first chain) on (DifferByOne-sym step))

-- a chain on n strands is one on more strands
pub EquivalentOn-more
    : {n : ℕ} {u v : List Letter} (m : ℕ)
    → n ≤ m
    → EquivalentOn n u v
    → EquivalentOn m u v
EquivalentOn-more m more (stay on) = stay (on_more _ m more _ on)
EquivalentOn-more m more (move on step chain) =
    move (on_more _ m more _ on) step (EquivalentOn-more m more chain)

-- equivalent words between two words
pub EquivalentOn-between
    : {n : ℕ} {u v : List Letter} (a c : List Letter)
    → IsOn n a
    → IsOn n c
    → EquivalentOn n u v
    → EquivalentOn n (a ++ (u ++ c)) (a ++ (v ++ c))
EquivalentOn-between {n} a c on_a on_c (stay {u} on) =
    stay (on_append n a (u ++ c) on_a (on_append n u c on on_c))
EquivalentOn-between {n} a c on_a on_c (move {u} on step chain) =
    move (on_append n a (u ++ c) on_a (on_append n u c on on_c)) (DifferByOne-between a c step)
    (EquivalentOn-between a c on_a on_c chain)

-- equivalent words before one word
pub EquivalentOn-before
    : {n : ℕ} {u v : List Letter} (c : List Letter)
    → IsOn n c
    → EquivalentOn n u v
    → EquivalentOn n (u ++ c) (v ++ c)
EquivalentOn-before c on chain = EquivalentOn-between [] c tt on chain

-- equivalent words after one word
pub EquivalentOn-after
    : {n : ℕ} {u v : List Letter} (a : List Letter)
    → IsOn n a
    → EquivalentOn n u v
    → EquivalentOn n (a ++ u) (a ++ v)
EquivalentOn-after a on chain = simp append-nil at (EquivalentOn-between a [] on tt chain)

-- products of equivalent words are equivalent
pub EquivalentOn-append
    : {n : ℕ} {u v a b : List Letter}
    → EquivalentOn n u v
    → EquivalentOn n a b
    → EquivalentOn n (u ++ a) (v ++ b)
EquivalentOn-append first second =
    EquivalentOn-trans (EquivalentOn-before _ (on_first second) first)
    (EquivalentOn-after _ (on_last first) second)

-- ---- The group on n strands ----

-- a letter and its inverse are equivalent to nothing
pub EquivalentOn-opposite
    : (n : ℕ) (x : Letter)
    → IsOn n (x ∷ [])
    → EquivalentOn n (x ∷ opposite x ∷ []) []
EquivalentOn-opposite n x on =
    EquivalentOn-relation n (cancellation x.index x.negative) (on.0, (on.0, tt)) tt

-- a word and its inverse are equivalent to nothing
pub EquivalentOn-append_inverse
    : (n : ℕ) (u : List Letter)
    → IsOn n u
    → EquivalentOn n (u ++ inverse u) []
EquivalentOn-append_inverse n [] on = stay tt
EquivalentOn-append_inverse n (x ∷ u) on =
    rw (← append_assoc u (inverse u) (opposite x ∷ []))
    (EquivalentOn-trans
    (EquivalentOn-between (x ∷ []) (opposite x ∷ []) (on.0, tt) (on.0, tt)
    (EquivalentOn-append_inverse n u on.1)) (EquivalentOn-opposite n x (on.0, tt)))

-- the inverse of a word and the word are equivalent to nothing
pub EquivalentOn-inverse_append
    : (n : ℕ) (u : List Letter)
    → IsOn n u
    → EquivalentOn n (inverse u ++ u) []
EquivalentOn-inverse_append n u on =
    rw (inverse-inverse u) at (EquivalentOn-append_inverse n (inverse u) (on_inverse n u on))

-- u u^-1 before c is equivalent to c
pub EquivalentOn-drop_right
    : (n : ℕ) (u c : List Letter)
    → IsOn n u
    → IsOn n c
    → EquivalentOn n (u ++ (inverse u ++ c)) c
EquivalentOn-drop_right n u c on_u on_c =
    rw append_assoc at (EquivalentOn-before c on_c (EquivalentOn-append_inverse n u on_u))

-- u^-1 u before c is equivalent to c
pub EquivalentOn-drop_left
    : (n : ℕ) (u c : List Letter)
    → IsOn n u
    → IsOn n c
    → EquivalentOn n (inverse u ++ (u ++ c)) c
EquivalentOn-drop_left n u c on_u on_c =
    rw append_assoc at (EquivalentOn-before c on_c (EquivalentOn-inverse_append n u on_u))

-- where a u and v are equivalent, u and a^-1 v are
pub EquivalentOn-solve_left
    : {n : ℕ} (a u : List Letter) {v : List Letter}
    → EquivalentOn n (a ++ u) v
    → EquivalentOn n u (inverse a ++ v)
EquivalentOn-solve_left {n} a u chain =
    let on_a = on_left n a u (on_first chain) in
    let on_u = on_right n a u (on_first chain) in
    EquivalentOn-trans (EquivalentOn-sym (EquivalentOn-drop_left n a u on_a on_u))
    (EquivalentOn-after (inverse a) (on_inverse n a on_a) chain)

-- a word in front of equivalent words is cancelled
pub EquivalentOn-cancel
    : {n : ℕ} (a u v : List Letter)
    → EquivalentOn n (a ++ u) (a ++ v)
    → EquivalentOn n u v
EquivalentOn-cancel {n} a u v chain =
    EquivalentOn-trans (EquivalentOn-solve_left a u chain)
    (EquivalentOn-drop_left n a v (on_left n a v (on_last chain)) (on_right n a v (on_last chain)))

-- where u c and v are equivalent, u and v c^-1 are
pub EquivalentOn-solve_right
    : {n : ℕ} (u c : List Letter) {v : List Letter}
    → EquivalentOn n (u ++ c) v
    → EquivalentOn n u (v ++ inverse c)
EquivalentOn-solve_right {n} u c {v} chain =
    let on_u = on_left n u c (on_first chain) in
    let on_c = on_right n u c (on_first chain) in
    let longer : EquivalentOn n u ((u ++ c) ++ inverse c) =
    rw append_assoc (simp append-nil at (EquivalentOn-after u on_u
    (EquivalentOn-sym (EquivalentOn-append_inverse n c on_c)))) in
    EquivalentOn-trans longer (EquivalentOn-before (inverse c) (on_inverse n c on_c) chain)

-- inverses of equivalent words are equivalent: where u and v are, so are v^-1 u and the empty word
pub EquivalentOn-inverse
    : {n : ℕ} {u v : List Letter}
    → EquivalentOn n u v
    → EquivalentOn n (inverse u) (inverse v)
EquivalentOn-inverse {n} {u} {v} chain =
    let on_v = on_inverse n v (on_last chain) in
    let gone : EquivalentOn n (inverse v ++ u) [] =
    EquivalentOn-trans (EquivalentOn-after (inverse v) on_v chain)
    (EquivalentOn-inverse_append n v (on_last chain)) in
    EquivalentOn-sym (EquivalentOn-solve_right (inverse v) u gone)

-- ---- With no number of strands given ----

-- two equivalences on one number of strands
pub Equivalent-together
    : {u v a b : List Letter}
    → Equivalent u v
    → Equivalent a b
    → (n : ℕ) × EquivalentOn n u v × EquivalentOn n a b
Equivalent-together (n, first) (m, second) = (
  n + m,
  EquivalentOn-more (n + m) (omega arith) first,
  EquivalentOn-more (n + m) (omega arith) second,
)

-- what something is equivalent to is a word
pub Equivalent-word_right : {u v : List Letter} → Equivalent u v → IsWord v
Equivalent-word_right (n, chain) = on_word n _ (on_last chain)

-- a word is equivalent to itself
pub Equivalent-refl : (u : List Letter) → IsWord u → Equivalent u u
Equivalent-refl u word = let (n, on) = on_some u word in (n, stay on)

-- equivalence holds both ways
pub Equivalent-sym : {u v : List Letter} → Equivalent u v → Equivalent v u
Equivalent-sym (n, chain) = (n, EquivalentOn-sym chain)

-- equivalence is transitive
pub Equivalent-trans : {u v w : List Letter} → Equivalent u v → Equivalent v w → Equivalent u w
Equivalent-trans first second =
    let (n, one, two) = Equivalent-together first second in (n, EquivalentOn-trans one two)

-- products of equivalent words are equivalent
pub Equivalent-append
    : {u v a b : List Letter}
    → Equivalent u v
    → Equivalent a b
    → Equivalent (u ++ a) (v ++ b)
Equivalent-append first second =
    let (n, one, two) = Equivalent-together first second in (n, EquivalentOn-append one two)

-- inverses of equivalent words are equivalent
pub Equivalent-inverse : {u v : List Letter} → Equivalent u v → Equivalent (inverse u) (inverse v)
Equivalent-inverse (n, chain) = (n, EquivalentOn-inverse chain)

-- a word and its inverse are equivalent to nothing
pub Equivalent-append_inverse : (u : List Letter) → IsWord u → Equivalent (u ++ inverse u) []
Equivalent-append_inverse u word =
    let (n, on) = on_some u word in (n, EquivalentOn-append_inverse n u on)

-- ---- Equality as a verdict ----

-- equivalent words are equal
pub IsEqual-from_equivalent : {u v : List Letter} → Equivalent u v → IsEqual u v
IsEqual-from_equivalent {u} (n, chain) = (
  n,
  EquivalentOn-trans (EquivalentOn-sym (EquivalentOn-inverse_append n u (on_first chain)))
      (EquivalentOn-after (inverse u) (on_inverse n u (on_first chain)) chain),
)

-- words are equivalent on as many strands as nothing and their quotient
pub EquivalentOn-from_quotient
    : {n : ℕ} (u v : List Letter)
    → EquivalentOn n [] (quotient u v)
    → EquivalentOn n u v
EquivalentOn-from_quotient {n} u v chain =
    let solved : EquivalentOn n v (inverse (inverse u) ++ []) =
    EquivalentOn-solve_left (inverse u) v (EquivalentOn-sym chain) in
    EquivalentOn-sym (simp (inverse-inverse, append-nil) at solved)
