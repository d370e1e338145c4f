-- Laws of the bracket.
--
-- Equivalent words have equivalent brackets. Up to equivalence the bracket is left-distributive
-- (`Equivalent-distributive`), and a word is less than its bracket with any other (`less-bracket`).
use Rattle.std.proofs.Common.{ℕ, ◌≡◌, ◌≢◌, ◌+◌, ◌<◌, ◌≤◌, true, false, List, [], ◌∷◌, ◌++◌, refl, ap, inl, inr, length, get_or, subst, zero, suc, arith, append_assoc, length-append}
use Rattle.std.proofs.lemmas.Bool.{false≢true}
use Rattle.std.proofs.lemmas.List.{length-map}
use Rattle.braid_word.specs.Words.{Letter, letter, inverse, shift, SomeLetter, EachLetter, IsWord, IsOn}
use Rattle.braid_word.specs.Equivalence.{EquivalentOn, Equivalent, stay}
use Rattle.braid_word.specs.Order.{IsSigmaPositiveAt, IsLess}
use Rattle.braid_word.proofs.WordLemmas.{each_append, each_inverse, each_weaker, some_right, on_left, on_right, on_append, on_inverse, on_more, on_some, on_word, inverse-append, inverse-inverse, word_append, word_inverse, length-inverse}
use Rattle.braid_word.proofs.EquivalenceLemmas.{EquivalentOn-append, EquivalentOn-inverse, EquivalentOn-more, EquivalentOn-drop_left, EquivalentOn-sym, Equivalent-together}
use Rattle.braid_word.proofs.CommutingLemmas.{AreFar}
use Rattle.braid_word.proofs.ShiftLemmas.{shift-append, shift-inverse, each_shift, word_shift, on_shift, EquivalentOn-shift}
use Rattle.braid_word.proofs.RewritingLemmas.{Alike, alike_left, Alike-refl, Alike-sym, alike_laws, drop_left, drop_letter, pass_far, braid}
use Rattle.shift_braid.specs.Bracket.{bracket}

-- ---- Words ----

-- what holds of the letter at a place holds of some letter
pub some_at
    : (P : Letter → Type 0) (w : List Letter) (i : ℕ) (d x : Letter)
    → i < length w
    → x ≡ get_or w i d
    → P x
    → SomeLetter P w
some_at P [] i d x within is holds = absurd (omega arith)
some_at P (y ∷ w) zero d x within is holds = inl (subst P is holds)
some_at P (y ∷ w) (suc i) d x within is holds = inr (some_at P w i d x (omega arith) is holds)

-- the bracket of two words on n strands is on one strand more
pub on_bracket
    : (n : ℕ) (a b : List Letter)
    → 1 ≤ n
    → IsOn n a
    → IsOn n b
    → IsOn (n + 1) (bracket a b)
on_bracket n a b some on_a on_b =
    on_append (n + 1) a _ (on_more n (n + 1) (omega arith) a on_a)
    (on_append (n + 1) (shift b) _ (on_shift n b on_b)
    ((omega arith), on_inverse (n + 1) (shift a) (on_shift n a on_a)))

-- a shifted word is as long as the word
pub length-shift : (u : List Letter) → length (shift u) ≡ length u
length-shift u = length-map u _

-- the letters of a bracket: twice those of a, those of b, and one
pub length-bracket
    : (a b : List Letter)
    → length (bracket a b) ≡ length a + (length b + (length a + 1))
length-bracket a b =
    omega (
      arith,
      length-append a (shift b ++ (letter 1 false ∷ inverse (shift a))),
      length-append (shift b) (letter 1 false ∷ inverse (shift a)),
      length-shift a,
      length-shift b,
      length-inverse (shift a),
    )

-- the bracket of two words is a word
pub word_bracket : (a b : List Letter) → IsWord a → IsWord b → IsWord (bracket a b)
word_bracket a b word_a word_b =
    word_append a _ word_a
    (word_append (shift b) _ (word_shift b word_b)
    ((omega arith), word_inverse (shift a) (word_shift a word_a)))

-- ---- Equivalence ----

-- equivalent words have equivalent brackets
pub EquivalentOn-bracket
    : {n : ℕ} {u v a b : List Letter}
    → 1 ≤ n
    → EquivalentOn n u v
    → EquivalentOn n a b
    → EquivalentOn (n + 1) (bracket u a) (bracket v b)
EquivalentOn-bracket {n} some one two =
    EquivalentOn-append (EquivalentOn-more (n + 1) (omega arith) one)
    (EquivalentOn-append (EquivalentOn-shift two)
    (EquivalentOn-append (stay {u = letter 1 false ∷ []} ((omega arith), tt))
    (EquivalentOn-inverse (EquivalentOn-shift one))))

pub Equivalent-bracket
    : {u v a b : List Letter}
    → Equivalent u v
    → Equivalent a b
    → Equivalent (bracket u a) (bracket v b)
Equivalent-bracket one two =
    let (n, first, second) = Equivalent-together one two in (
      n + 1 + 1,
      EquivalentOn-bracket (omega arith) (EquivalentOn-more (n + 1) (omega arith) first)
          (EquivalentOn-more (n + 1) (omega arith) second),
    )

-- ---- The law ----

-- a shifted word has no index below 2
high_shift : (u : List Letter) → IsWord u → EachLetter (λ x. 2 ≤ x.index) (shift u)
high_shift = each_shift _ _ (λ x p. omega arith)

-- a word that was shifted twice is far from s_1
far_shift : (u : List Letter) → IsWord u → EachLetter (AreFar (letter 1 false)) (shift (shift u))
far_shift u word =
    each_shift (λ x. 2 ≤ x.index) (AreFar (letter 1 false)) (λ x p. inl (omega arith)) (shift u)
    (high_shift u word)

-- and so is the inverse of such a word
far_inverse : (u : List Letter) → IsWord u → EachLetter (AreFar (letter 1 false)) (inverse (shift (shift u)))
far_inverse u word =
    each_inverse (AreFar (letter 1 false)) (AreFar (letter 1 false)) (λ x p. p) (shift (shift u))
    (far_shift u word)

-- the bracket of a with the bracket of b and c, written out
bracket-inner
    : (a b c : List Letter)
    → bracket a (bracket b c)
    ≡ a ++ (shift b ++ (shift (shift c)
    ++ (letter 2 false ∷ (inverse (shift (shift b)) ++ (letter 1 false ∷ inverse (shift a))))))
bracket-inner a b c = simp (shift-append, shift-inverse, append_assoc)

-- the bracket of the brackets of a with b and with c, written out
bracket-outer
    : (a b c : List Letter)
    → bracket (bracket a b) (bracket a c)
    ≡ a ++ (shift b ++ (letter 1 false ∷
    (inverse (shift a)
    ++ (shift a ++ (shift (shift c)
    ++ (letter 2 false ∷
    (inverse (shift (shift a))
    ++ (letter 1 false ∷
    (shift (shift a) ++ (letter 2 true ∷ (inverse (shift (shift b)) ++ inverse (shift a))))))))))))
bracket-outer a b c = simp (shift-append, shift-inverse, inverse-append, inverse-inverse, append_assoc)

-- the bracket of two brackets is alike to the bracket with a bracket
alike-distributive
    : (n : ℕ) (a b c : List Letter)
    → IsOn n a
    → IsOn n b
    → IsOn n c
    → Alike (n + 3) (bracket (bracket a b) (bracket a c)) (bracket a (bracket b c))
alike-distributive n a b c on_a on_b on_c =
    rw (bracket-inner a b c, bracket-outer a b c)
    (grw (
      drop_left (n + 3) (shift a) (on_more (n + 1) (n + 3) (omega arith) (shift a) (on_shift n a on_a)),
      pass_far (n + 3) (letter 1 false) (shift (shift a)) (far_shift a (on_word n a on_a)),
      drop_left (n + 3) (shift (shift a))
          (on_more (n + 1 + 1) (n + 3) (omega arith) (shift (shift a))
          (on_shift (n + 1) (shift a) (on_shift n a on_a))),
      pass_far (n + 3) (letter 1 false) (shift (shift c)) (far_shift c (on_word n c on_c)),
      braid (n + 3) 1 2 (inl refl) false,
      drop_letter (n + 3) (letter 2 false) (omega arith),
      pass_far (n + 3) (letter 1 false) (inverse (shift (shift b))) (far_inverse b (on_word n b on_b)),
      alike_laws,
    ) (Alike-refl _))

-- up to equivalence the bracket is left-distributive
pub Equivalent-distributive
    : (a b c : List Letter)
    → IsWord a
    → IsWord b
    → IsWord c
    → Equivalent (bracket a (bracket b c)) (bracket (bracket a b) (bracket a c))
Equivalent-distributive a b c word_a word_b word_c =
    let (k, on_k) = on_some a word_a in
    let (l, on_l) = on_some b word_b in
    let (m, on_m) = on_some c word_c in
    let n = k + l + m + 1 in
    let on_a : IsOn n a = on_more k n (omega arith) a on_k in
    let on_b : IsOn n b = on_more l n (omega arith) b on_l in
    let on_c : IsOn n c = on_more m n (omega arith) c on_m in
    let on_inner : IsOn (n + 1) (bracket b c) = on_bracket n b c (omega arith) on_b on_c in
    let on_both : IsOn (n + 1 + 1) (bracket a (bracket b c)) =
    on_bracket (n + 1) a (bracket b c) (omega arith) (on_more n (n + 1) (omega arith) a on_a) on_inner in
    let on : IsOn (n + 3) (bracket a (bracket b c)) =
    on_more (n + 1 + 1) (n + 3) (omega arith) (bracket a (bracket b c)) on_both in
    (n + 3, alike_left (Alike-sym (alike-distributive n a b c on_a on_b on_c)) on)

-- ---- Order ----

-- an index above 1 is another letter than s_1^-1
other_letter : (x : Letter) → 2 ≤ x.index → (1 ≤ x.index) × (x ≢ letter 1 true)
other_letter x high =
    ((omega arith), λ e. let i : x.index ≡ 1 = ap (λ (z : Letter). z.index) e in absurd (omega arith))

-- sh(b) s_1 sh(a)^-1 is sigma_1-positive
positive-behind
    : (a b : List Letter)
    → IsWord a
    → IsWord b
    → IsSigmaPositiveAt 1 (shift b ++ (letter 1 false ∷ inverse (shift a)))
positive-behind a b word_a word_b =
    let none : EachLetter (λ x. (1 ≤ x.index) × (x ≢ letter 1 true)) (shift b) =
    each_weaker _ _ other_letter (shift b) (high_shift b word_b) in
    let rest : EachLetter (λ x. (1 ≤ x.index) × (x ≢ letter 1 true)) (inverse (shift a)) =
    each_weaker _ _ other_letter (inverse (shift a))
    (each_inverse (λ x. 2 ≤ x.index) (λ x. 2 ≤ x.index) (λ x p. p) (shift a) (high_shift a word_a)) in (
      some_right _ (shift b) (letter 1 false ∷ inverse (shift a)) (inl refl),
      each_append _ (shift b) (letter 1 false ∷ inverse (shift a)) none
          (((omega arith), λ e. false≢true (ap (λ (z : Letter). z.negative) e)), rest),
    )

-- a word is less than its bracket with any word
pub less-bracket : (a b : List Letter) → IsWord a → IsWord b → IsLess a (bracket a b)
less-bracket a b word_a word_b =
    let behind = shift b ++ (letter 1 false ∷ inverse (shift a)) in
    let (n, on_n) = on_some (a ++ behind) (word_bracket a b word_a word_b) in
    let on_a : IsOn n a = on_left n a behind on_n in
    let on_b : IsOn n behind = on_right n a behind on_n in (
      behind,
      (1, positive-behind a b word_a word_b),
      (n, EquivalentOn-sym (EquivalentOn-drop_left n a behind on_a on_b)),
    )
