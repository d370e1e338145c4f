-- Rewriting by equivalence on n strands, with `grw`.
--
-- A word is equivalent to itself on n strands only if it is on n strands, while `grw` wants a
-- relation that is reflexive and a congruence with no premise. So two words are alike on n strands
-- where they are equivalent as soon as one of them is on n strands. `alike_from` leads from
-- equivalent words to alike ones; `alike_left` and `alike_right` lead back.
--
-- Each rule ends in the rest of the word, so that nothing in a word is bracketed anew. By
-- `grw (swap_far n x y far, alike_laws)` the goal `Alike n (x ∷ y ∷ c) w` becomes
-- `Alike n (y ∷ x ∷ c) w`. Rules are applied to the word on the left, once each, in the order in
-- which they are listed; `← rule` puts the rule's left side for its right side in the word on the
-- right.
--
--   drop_right, drop_left        a word beside its inverse is dropped
--   drop_letter, drop_opposite   a letter beside its inverse is dropped
--   swap_far, pass_far           a letter passes far letters
--   braid                        the braid relation, for letters of one sign
--   turn                         s_i^e s_j^d s_i^-e becomes s_j^-e s_i^d s_j^e
use Rattle.std.proofs.Common.{ℕ, ◌⊎◌, inl, inr, ◌<◌, ◌≤◌, Bool, not, List, [], ◌∷◌, ◌++◌, append_assoc}
use Rattle.braid_word.specs.Words.{Letter, letter, opposite, inverse, EachLetter, IsOn}
use Rattle.braid_word.specs.Equivalence.{EquivalentOn, stay}
use Rattle.braid_word.proofs.WordLemmas.{on_left, on_right, on_inverse, on_uninverted, inverse-inverse}
use Rattle.braid_word.proofs.EquivalenceLemmas.{on_first, on_last, EquivalentOn-sym, EquivalentOn-trans, EquivalentOn-append, EquivalentOn-inverse, EquivalentOn-drop_right}
use Rattle.braid_word.proofs.CommutingLemmas.{AreFar, AreNear, EquivalentOn-swap_far, EquivalentOn-pass_far, EquivalentOn-braid, EquivalentOn-turn}

-- ---- Alike words ----

-- The words are equivalent on n strands if one of them is on n strands.
pub record Alike (n : ℕ) (u v : List Letter) : Type 0 where
  pub join : IsOn n u ⊎ IsOn n v → EquivalentOn n u v

-- equivalent words are alike
pub alike_from : {n : ℕ} {u v : List Letter} → EquivalentOn n u v → Alike n u v
alike_from chain = record { join = λ _. chain }

-- alike words are equivalent where the first is on n strands
pub alike_left : {n : ℕ} {u v : List Letter} → Alike n u v → IsOn n u → EquivalentOn n u v
alike_left alike on = alike.join (inl on)

-- alike words are equivalent where the second is on n strands
pub alike_right : {n : ℕ} {u v : List Letter} → Alike n u v → IsOn n v → EquivalentOn n u v
alike_right alike on = alike.join (inr on)

-- words are alike if they are equivalent where the first is on n strands, and where the second is
pub alike_either
    : {n : ℕ} {u v : List Letter}
    → (IsOn n u → EquivalentOn n u v)
    → (IsOn n v → EquivalentOn n u v)
    → Alike n u v
alike_either first second = record { join = λ on. elim on [ inl l ↦ first l | inr r ↦ second r ] }

-- words are alike if the first is on n strands where the second is, and they are equivalent then
pub alike_both
    : {n : ℕ} {u v : List Letter}
    → (IsOn n v → IsOn n u)
    → (IsOn n u → EquivalentOn n u v)
    → Alike n u v
alike_both back chain = alike_either chain (λ on. chain (back on))

-- a word is alike to itself
pub Alike-refl : {n : ℕ} (u : List Letter) → Alike n u u
Alike-refl u = alike_both (λ on. on) (λ on. stay on)

-- alike words are alike the other way round
pub Alike-sym : {n : ℕ} {u v : List Letter} → Alike n u v → Alike n v u
Alike-sym alike =
    alike_either (λ on. EquivalentOn-sym (alike_right alike on))
    (λ on. EquivalentOn-sym (alike_left alike on))

-- words alike to one word are alike
pub Alike-trans : {n : ℕ} {u v w : List Letter} → Alike n u v → Alike n v w → Alike n u w
Alike-trans one two =
    alike_either
    (λ on. EquivalentOn-trans (alike_left one on) (alike_left two (on_last (alike_left one on))))
    (λ on. EquivalentOn-trans (alike_right one (on_first (alike_right two on)))
    (alike_right two on))

-- products of alike words are alike
pub Alike-append
    : {n : ℕ} {u v a b : List Letter}
    → Alike n u v
    → Alike n a b
    → Alike n (u ++ a) (v ++ b)
Alike-append {n} {u} {v} {a} {b} one two =
    alike_either
    (λ on. EquivalentOn-append (alike_left one (on_left n u a on))
    (alike_left two (on_right n u a on)))
    (λ on. EquivalentOn-append (alike_right one (on_left n v b on))
    (alike_right two (on_right n v b on)))

-- a letter before alike words
pub Alike-cons : {n : ℕ} (x : Letter) {u v : List Letter} → Alike n u v → Alike n (x ∷ u) (x ∷ v)
Alike-cons x alike = Alike-append (Alike-refl (x ∷ [])) alike

-- inverses of alike words are alike
pub Alike-inverse : {n : ℕ} {u v : List Letter} → Alike n u v → Alike n (inverse u) (inverse v)
Alike-inverse {n} {u} {v} alike =
    alike_either (λ on. EquivalentOn-inverse (alike_left alike (on_uninverted n u on)))
    (λ on. EquivalentOn-inverse (alike_right alike (on_uninverted n v on)))

-- what `grw` needs to rewrite in a part of a word
pub ruleset alike_laws = (Alike-trans, Alike-refl, Alike-append, Alike-cons, Alike-inverse)

-- ---- Rules ----

-- a word and its inverse are dropped
pub drop_right
    : (n : ℕ) (u : List Letter)
    → IsOn n u
    → (c : List Letter)
    → Alike n (u ++ (inverse u ++ c)) c
drop_right n u on c =
    alike_either
    (λ all. EquivalentOn-drop_right n u c on
    (on_right n (inverse u) c (on_right n u (inverse u ++ c) all)))
    (λ on_c. EquivalentOn-drop_right n u c on on_c)

-- the inverse of a word and the word are dropped
pub drop_left
    : (n : ℕ) (u : List Letter)
    → IsOn n u
    → (c : List Letter)
    → Alike n (inverse u ++ (u ++ c)) c
drop_left n u on c =
    rw inverse-inverse at (drop_right n (inverse u) (on_inverse n u on) c)

-- a letter and its inverse are dropped
pub drop_letter
    : (n : ℕ) (x : Letter)
    → (1 ≤ x.index) × (x.index < n)
    → (c : List Letter)
    → Alike n (x ∷ opposite x ∷ c) c
drop_letter n x on c = drop_right n (x ∷ []) (on, tt) c

-- the inverse of a letter and the letter are dropped
pub drop_opposite
    : (n : ℕ) (x : Letter)
    → (1 ≤ x.index) × (x.index < n)
    → (c : List Letter)
    → Alike n (opposite x ∷ x ∷ c) c
drop_opposite n x on c = drop_left n (x ∷ []) (on, tt) c

-- equivalent words before the rest of a word
pub alike_before
    : {n : ℕ} (u v : List Letter)
    → (IsOn n v → IsOn n u)
    → (IsOn n u → EquivalentOn n u v)
    → (c : List Letter)
    → Alike n (u ++ c) (v ++ c)
alike_before u v back chain c = Alike-append (alike_both back chain) (Alike-refl c)

-- far letters are exchanged
pub swap_far
    : (n : ℕ) (x y : Letter)
    → AreFar x y
    → (c : List Letter)
    → Alike n (x ∷ y ∷ c) (y ∷ x ∷ c)
swap_far n x y far c =
    alike_before (x ∷ y ∷ []) (y ∷ x ∷ []) (λ on. (on.1.0, (on.0, tt)))
    (EquivalentOn-swap_far n x y far) c

-- a letter passes a word of letters that are far from it
pub pass_far
    : (n : ℕ) (x : Letter) (w : List Letter)
    → EachLetter (AreFar x) w
    → (c : List Letter)
    → Alike n (x ∷ (w ++ c)) (w ++ (x ∷ c))
pass_far n x w far c =
    rw append_assoc at (alike_before (x ∷ w) (w ++ (x ∷ []))
    (λ on. ((on_right n w (x ∷ []) on).0, on_left n w (x ∷ []) on))
    (EquivalentOn-pass_far n x w far) c)

-- the braid relation, for letters of one sign
pub braid
    : (n i j : ℕ)
    → AreNear i j
    → (e : Bool) (c : List Letter)
    → Alike n (letter i e ∷ letter j e ∷ letter i e ∷ c) (letter j e ∷ letter i e ∷ letter j e ∷ c)
braid n i j near e c =
    alike_before (letter i e ∷ letter j e ∷ letter i e ∷ [])
    (letter j e ∷ letter i e ∷ letter j e ∷ []) (λ on. (on.1.0, (on.0, (on.1.0, tt))))
    (λ on. EquivalentOn-braid n i j e near (on.0, (on.1.0, tt))) c

-- s_i^e s_j^d s_i^-e becomes s_j^-e s_i^d s_j^e
pub turn
    : (n i j : ℕ)
    → AreNear i j
    → (e d : Bool) (c : List Letter)
    → Alike n (letter i e ∷ letter j d ∷ letter i (not e) ∷ c)
    (letter j (not e) ∷ letter i d ∷ letter j e ∷ c)
turn n i j near e d c =
    alike_before (letter i e ∷ letter j d ∷ letter i (not e) ∷ [])
    (letter j (not e) ∷ letter i d ∷ letter j e ∷ []) (λ on. (on.1.0, (on.0, (on.1.0, tt))))
    (λ on. EquivalentOn-turn n i j e d near (on.0, (on.1.0, tt))) c
