-- Laws of the braids of terms.
--
-- A term's braid has as many letters as `braid_length` counts (`length-braid`). Its indices go from 1 to the
-- term's height (`on_braid`), which is one of them where it isn't 0 (`top_braid`). Equivalent terms have
-- equivalent braids (`Equivalent-braid`), and a term's braid is less than that of its product with any term
-- (`less-braid`).
use Rattle.std.proofs.Common.{ℕ, ◌≡◌, ◌+◌, ◌<◌, ◌≤◌, inl, inr, false, List, [], ◌∷◌, ◌++◌, refl, ap, length, max, arith}
use Rattle.std.proofs.Math.Nat.{le-max_left, le-max_right, max-eq_left, max_comm}
use Rattle.std.proofs.lemmas.Bool.{cases_lt}
use Rattle.braid_word.specs.Words.{Letter, letter, inverse, shift, SomeLetter, IsWord, IsOn}
use Rattle.braid_word.specs.Equivalence.{Equivalent}
use Rattle.braid_word.specs.Order.{IsLess}
use Rattle.braid_word.proofs.WordLemmas.{some_left, some_right, some_inverse, on_more, on_word}
use Rattle.braid_word.proofs.EquivalenceLemmas.{Equivalent-refl, Equivalent-sym, Equivalent-trans}
use Rattle.ld_term.specs.Terms.{Term, variable, multiply, height, Expands, here, on_left, on_right, IsEquivalent, stay, forward, backward}
use Rattle.braid_word.specs.declared.TheConstants.{MAX_LETTERS}
use Rattle.term_graph.specs.TermLists.{braid_length, capped}
use Rattle.shift_braid.specs.Bracket.{bracket}
use Rattle.shift_braid.proofs.BracketLemmas.{length-bracket, on_bracket, Equivalent-bracket, Equivalent-distributive, less-bracket}
use Rattle.term_eval.specs.Braids.{braid}

-- ---- Indices ----

-- the indices go from 1 to the height
pub on_braid : (t : Term) → IsOn (height t + 1) (braid t)
on_braid variable = tt
on_braid (multiply t u) =
    let n = max (height t) (height u) + 1 in
    let left = on_more (height t + 1) n (omega (arith, le-max_left (height t) (height u))) (braid t)
    (on_braid t) in
    let right = on_more (height u + 1) n (omega (arith, le-max_right (height t) (height u))) (braid u)
    (on_braid u) in
    on_bracket n (braid t) (braid u) (omega arith) left right

-- a term's braid is a word
pub word_braid : (t : Term) → IsWord (braid t)
word_braid t = on_word (height t + 1) (braid t) (on_braid t)

-- some letter of the shifted word has an index one higher
some_shift : (k : ℕ) (w : List Letter) → SomeLetter (λ x. x.index ≡ k) w
    → SomeLetter (λ x. x.index ≡ k + 1) (shift w)
some_shift k [] s = absurd s
some_shift k (x ∷ w) (inl p) = inl (omega (arith, p))
some_shift k (x ∷ w) (inr s) = inr (some_shift k w s)

-- the bracket has the index 1
one_bracket : (a b : List Letter) → SomeLetter (λ x. x.index ≡ 1) (bracket a b)
one_bracket a b =
    some_right _ a (shift b ++ (letter 1 false ∷ inverse (shift a)))
    (some_right _ (shift b) (letter 1 false ∷ inverse (shift a)) (inl refl))

-- the bracket has each index of its left word one higher
left_bracket
    : (k : ℕ) (a b : List Letter)
    → SomeLetter (λ x. x.index ≡ k) a
    → SomeLetter (λ x. x.index ≡ k + 1) (bracket a b)
left_bracket k a b some =
    some_right _ a (shift b ++ (letter 1 false ∷ inverse (shift a)))
    (some_right _ (shift b) (letter 1 false ∷ inverse (shift a))
    (inr (some_inverse _ _ (λ x p. p) (shift a) (some_shift k a some))))

-- the bracket has each index of its right word one higher
right_bracket
    : (k : ℕ) (a b : List Letter)
    → SomeLetter (λ x. x.index ≡ k) b
    → SomeLetter (λ x. x.index ≡ k + 1) (bracket a b)
right_bracket k a b some =
    some_right _ a (shift b ++ (letter 1 false ∷ inverse (shift a)))
    (some_left _ (shift b) (letter 1 false ∷ inverse (shift a)) (some_shift k b some))

-- a bracket has an index one above the greater of two, where each that isn't 0 is one of its word's
top_bracket
    : (m n : ℕ) (a b : List Letter)
    → (0 < m → SomeLetter (λ x. x.index ≡ m) a)
    → (0 < n → SomeLetter (λ x. x.index ≡ n) b)
    → SomeLetter (λ x. x.index ≡ max m n + 1) (bracket a b)
top_bracket m n a b left right =
    elim (cases_lt m n) [
      | inl below ↦ rw (max_comm m n, max-eq_left {n = n} {m = m} (omega arith))
          (right_bracket n a b (right (omega arith)))
      | inr above ↦ rw (max-eq_left {n = m} {m = n} above) (left_or_one above)
    ]
  where
    left_or_one : n ≤ m → SomeLetter (λ x. x.index ≡ m + 1) (bracket a b)
    left_or_one above =
        elim (cases_lt 0 m) [
          | inl some ↦ left_bracket m a b (left some)
          | inr none ↦ let e : m ≡ 0 = omega (arith, none) in rw e (one_bracket a b)
        ]

-- the height is an index, where it isn't 0
pub top_braid : (t : Term) → 0 < height t → SomeLetter (λ x. x.index ≡ height t) (braid t)
top_braid variable high = absurd (omega arith)
top_braid (multiply t u) high =
    top_bracket (height t) (height u) (braid t) (braid u) (top_braid t) (top_braid u)

-- ---- Length ----

-- the letters are as many as the term's graph counts
pub length-braid : (t : Term) → length (braid t) ≡ braid_length t
length-braid variable = refl
length-braid (multiply t u) =
    omega (arith, length-bracket (braid t) (braid u), length-braid t, length-braid u)

-- ---- Equivalence ----

-- a term has the braid of what it expands to
Equivalent-expands : {t u : Term} → Expands t u → Equivalent (braid t) (braid u)
Equivalent-expands (here t u v) =
    Equivalent-distributive (braid t) (braid u) (braid v) (word_braid t) (word_braid u) (word_braid v)
Equivalent-expands (on_left v step) =
    Equivalent-bracket (Equivalent-expands step) (Equivalent-refl (braid v) (word_braid v))
Equivalent-expands (on_right v step) = Equivalent-bracket (Equivalent-refl (braid v) (word_braid v))
    (Equivalent-expands step)

-- equivalent terms have equivalent braids
pub Equivalent-braid : {t u : Term} → IsEquivalent t u → Equivalent (braid t) (braid u)
Equivalent-braid (stay t) = Equivalent-refl (braid t) (word_braid t)
Equivalent-braid (forward step chain) = Equivalent-trans (Equivalent-expands step) (Equivalent-braid chain)
Equivalent-braid (backward step chain) = Equivalent-trans (Equivalent-sym (Equivalent-expands step))
    (Equivalent-braid chain)

-- ---- Order ----

-- a term's braid is less than that of its product with any term
pub less-braid : (t u : Term) → IsLess (braid t) (braid (multiply t u))
less-braid t u = less-bracket (braid t) (braid u) (word_braid t) (word_braid u)

-- ---- The word that was written ----

-- it is within a limit where the length, as 64 bits hold it, is
pub short-written
    : (t : Term) (w : List Letter) (limit : ℕ)
    → w ≡ braid t
    → limit ≤ MAX_LETTERS
    → capped (braid_length t) ≤ limit
    → length w ≤ limit
short-written t w limit is small short = omega (arith, ap length is, length-braid t)

-- it is on one strand more than a bound on the height
pub on-written : (t : Term) (w : List Letter) (most : ℕ) → w ≡ braid t → height t ≤ most → IsOn (most + 1) w
on-written t w most is low = rw is (on_more (height t + 1) (most + 1) (omega arith) (braid t) (on_braid t))

-- it represents the braid of each term that is equivalent
pub Equivalent-written
    : (u : Term) (w : List Letter)
    → w ≡ braid u
    → (t : Term)
    → IsEquivalent t u
    → Equivalent (braid t) w
Equivalent-written u w is t chain = rw is (Equivalent-braid chain)
