-- Half turns among letters and simple braids.
--
-- A half turn or its inverse passes a letter and turns its index. So powers of both pass letters and simple
-- braids, which turn where the number of half turns is odd (`IsTurn-half_turns`, `factors_pass`).
use Rattle.std.proofs.Common.{ℕ, zero, suc, ◌≡◌, inl, inr, ◌+◌, ◌-◌, ◌<◌, ◌≤◌, ◌∙◌, ℤ, pos, negsuc, Bool, true, false, not, List, [], ◌∷◌, ◌++◌, append_assoc, append-nil, map, refl, sym, ap, subst, arith}
use mathlib.Core.Bool.{beq}
use Rattle.std.proofs.lemmas.Bool.{cases_lt}
use Rattle.braid_word.specs.Words.{Letter, letter, inverse, IsOn}
use Rattle.braid_word.specs.Equivalence.{EquivalentOn, stay}
use Rattle.braid_word.proofs.WordLemmas.{on_append, on_right, on_inverse, inverse-inverse}
use Rattle.braid_word.proofs.EquivalenceLemmas.{on_last, EquivalentOn-sym, EquivalentOn-trans, EquivalentOn-before, EquivalentOn-after, EquivalentOn-drop_left, EquivalentOn-drop_right}
use Rattle.perm_braid.specs.SimpleWords.{delta_word}
use Rattle.garside_form.specs.NormalForms.{times, delta_power, IsProduct}
use Rattle.garside_form.specs.FactorLists.{EachOrder, half_turns, is_odd, turned_index, turned_factors}
use Rattle.garside_form.proofs.NaturalLevelLemmas.{IsOn-times, IsOn-delta, IsOn-product}
use Rattle.garside_form.proofs.UniqueLemmas.{times-add, times_inverse, product_unique}
use Rattle.garside_form.proofs.DeltaLemmas.{EquivalentOn-delta_letter, EquivalentOn-inverse_delta_pass}
use Rattle.garside_form.proofs.FlipLemmas.{product_flip}

-- ---- Turned indices ----

-- 1 where it holds, and else 0.
abbrev pub count_of : Bool → ℕ
count_of true = 1
count_of false = 0

-- an index turned once more
turned_more : (n i : ℕ) (b : Bool) → i < n → turned_index n b (n - i) ≡ turned_index n (not b) i
turned_more n i true high = omega arith
turned_more n i false high = refl

-- an index turned once more, last
turned_again : (n i : ℕ) (b : Bool) → i < n → n - turned_index n b i ≡ turned_index n (not b) i
turned_again n i true high = omega arith
turned_again n i false high = refl

-- an index turned twice
turned_twice : (n i : ℕ) (b : Bool) → i < n → turned_index n b (turned_index n b i) ≡ i
turned_twice n i true high = omega arith
turned_twice n i false high = refl

-- a turned index is one of a generator
pub turned_within
    : (n i : ℕ) (b : Bool)
    → 1 ≤ i
    → i < n
    → (1 ≤ turned_index n b i) × (turned_index n b i < n)
turned_within n i true low high = (omega arith, omega arith)
turned_within n i false low high = (low, high)

-- an index turned by two numbers of half turns
turned_both
    : (n d m i : ℕ)
    → 1 ≤ i
    → i < n
    → turned_index n (is_odd m) (turned_index n (is_odd d) i) ≡ turned_index n (is_odd (d + m)) i
turned_both n zero m i low high = let e : 0 + m ≡ m = omega arith in rw e refl
turned_both n (suc d) m i low high =
    let e : suc d + m ≡ suc (d + m) = omega arith in
    ap (turned_index n (is_odd m)) (sym (turned_more n i (is_odd d) high))
    ∙ (turned_both n d m (n - i) (omega arith) (omega arith)
    ∙ (turned_more n i (is_odd (d + m)) high ∙ ap (λ k. turned_index n (is_odd k) i) (sym e)))

-- one more that may be counted turns the parity where it is
pub parity_more
    : (m r : ℕ) (odd more : Bool)
    → odd ≡ is_odd m
    → r ≡ count_of more
    → not (beq odd more) ≡ is_odd (m + r)
parity_more m r odd true is count =
    let e : m + r ≡ suc m = omega (arith, count) in
    rw (e, ← is) (turns odd)
  where
    turns : (b : Bool) → not (beq b true) ≡ not b
    turns true = refl
    turns false = refl
parity_more m r odd false is count =
    let e : m + r ≡ m = omega (arith, count) in
    rw (e, ← is) (stays odd)
  where
    stays : (b : Bool) → not (beq b false) ≡ b
    stays true = refl
    stays false = refl

-- such a count is at most 1
pub count_most : (r : ℕ) (b : Bool) → r ≡ count_of b → r ≤ 1
count_most r true is = omega (arith, is)
count_most r false is = omega (arith, is)

-- ---- Words that pass letters ----

-- A word that passes each letter, and turns its index where it is odd.
pub record IsTurn (n : ℕ) (odd : Bool) (t : List Letter) : Type 0 where
  pub on : IsOn n t
  pub passes : (i : ℕ) (s : Bool) → 1 ≤ i → i < n
      → EquivalentOn n (t ++ letter i s ∷ []) (letter (turned_index n odd i) s ∷ t)

-- two of them in a row pass a letter
pass_both
    : (n i : ℕ) (a b s : Bool) (t v : List Letter)
    → IsTurn n a t
    → IsTurn n b v
    → 1 ≤ i
    → i < n
    → EquivalentOn n ((t ++ v) ++ letter i s ∷ [])
    (letter (turned_index n a (turned_index n b i)) s ∷ (t ++ v))
pass_both n i a b s t v first second low high =
    let j = turned_index n b i in
    let (low_j, high_j) = turned_within n i b low high in
    let one : EquivalentOn n (t ++ (v ++ letter i s ∷ [])) (t ++ letter j s ∷ v) =
    EquivalentOn-after t first.on (second.passes i s low high) in
    let two : EquivalentOn n ((t ++ letter j s ∷ []) ++ v) (letter (turned_index n a j) s ∷ (t ++ v)) =
    EquivalentOn-before v second.on (first.passes j s low_j high_j) in
    EquivalentOn-trans
    (subst (λ x. EquivalentOn n x (t ++ letter j s ∷ v)) (sym (append_assoc t v (letter i s ∷ []))) one)
    (subst (λ x. EquivalentOn n x (letter (turned_index n a j) s ∷ (t ++ v)))
    (append_assoc t (letter j s ∷ []) v) two)

-- the half turn is one
IsTurn-delta : (n : ℕ) → IsTurn n true (delta_word n)
IsTurn-delta n = record {
  on = IsOn-delta n;
  passes = λ i s low high. EquivalentOn-delta_letter n i s low high;
}

-- so is its inverse
IsTurn-inverse : (n : ℕ) → IsTurn n true (inverse (delta_word n))
IsTurn-inverse n = record {
  on = on_inverse n (delta_word n) (IsOn-delta n);
  passes = λ i s low high.
      let e : n - (n - i) ≡ i = omega arith in
      EquivalentOn-sym (subst
      (λ k. EquivalentOn n (letter (n - i) s ∷ inverse (delta_word n))
      (inverse (delta_word n) ++ letter k s ∷ [])) e
      (EquivalentOn-inverse_delta_pass n (letter (n - i) s) ((omega arith, omega arith), tt)));
}

-- so are powers of one
IsTurn-times : (n m : ℕ) (t : List Letter) → IsTurn n true t → IsTurn n (is_odd m) (times m t)
IsTurn-times n zero t turn = record { on = tt; passes = λ i s low high. stay ((low, high), tt) }
IsTurn-times n (suc m) t turn =
    let rest = IsTurn-times n m t turn in
    record {
      on = on_append n t (times m t) turn.on rest.on;
      passes = λ i s low high. subst (λ k. EquivalentOn n ((t ++ times m t) ++ letter i s ∷ [])
          (letter k s ∷ (t ++ times m t)))
          (turned_again n i (is_odd m) high)
          (pass_both n i true (is_odd m) s t (times m t) turn rest low high);
    }

-- so are inverse half turns before half turns
pub IsTurn-half_turns : (n d m : ℕ) → IsTurn n (is_odd (d + m)) (half_turns n d m)
IsTurn-half_turns n d m =
    let first = IsTurn-times n m (inverse (delta_word n)) (IsTurn-inverse n) in
    let second = IsTurn-times n d (delta_word n) (IsTurn-delta n) in
    let one = times m (inverse (delta_word n)) in
    let two = times d (delta_word n) in
    record {
      on = on_append n one two first.on second.on;
      passes = λ i s low high. subst (λ k. EquivalentOn n ((one ++ two) ++ letter i s ∷ [])
          (letter k s ∷ (one ++ two)))
          (turned_both n d m i low high)
          (pass_both n i (is_odd m) (is_odd d) s one two first second low high);
    }

-- ---- Words and simple braids that are passed ----

-- The letter with its index turned where the number of half turns is odd.
abbrev turned_letter : ℕ → Bool → Letter → Letter
turned_letter n odd c = letter (turned_index n odd c.index) c.negative

-- a word before it goes behind it
word_pass
    : (n : ℕ) (odd : Bool) (t w : List Letter)
    → IsTurn n odd t
    → IsOn n w
    → EquivalentOn n (w ++ t) (t ++ map (turned_letter n odd) w)
word_pass n odd t [] turn on = rw (append-nil t) (stay turn.on)
word_pass n odd t (c ∷ w) turn on =
    let later = map (turned_letter n odd) w in
    let k = turned_index n odd c.index in
    let (low, high) = on.0 in
    let (low_k, high_k) = turned_within n c.index odd low high in
    let rest : EquivalentOn n (w ++ t) (t ++ later) = word_pass n odd t w turn on.1 in
    let on_later : IsOn n later = on_right n t later (on_last rest) in
    let here : EquivalentOn n (t ++ letter k c.negative ∷ []) (c ∷ t) =
    subst (λ i. EquivalentOn n (t ++ letter k c.negative ∷ []) (letter i c.negative ∷ t))
    (turned_twice n c.index odd high) (turn.passes k c.negative low_k high_k) in
    let first : EquivalentOn n (c ∷ (w ++ t)) (c ∷ (t ++ later)) =
    EquivalentOn-after (c ∷ []) (on.0, tt) rest in
    let second : EquivalentOn n ((c ∷ t) ++ later) ((t ++ letter k c.negative ∷ []) ++ later) =
    EquivalentOn-before later on_later (EquivalentOn-sym here) in
    EquivalentOn-trans first
    (subst (λ x. EquivalentOn n (c ∷ (t ++ later)) x) (append_assoc t (letter k c.negative ∷ []) later)
    second)

-- with no turn letters stay
letters_stay : (n : ℕ) (w : List Letter) → map (turned_letter n false) w ≡ w
letters_stay n [] = refl
letters_stay n (c ∷ w) = ap (λ l. c ∷ l) (letters_stay n w)

-- what a list spells goes behind it, and each simple braid is turned
pub factors_pass
    : (n : ℕ) (odd : Bool) (t : List Letter) (ps : List (List ℕ)) {u v : List Letter}
    → IsTurn n odd t
    → EachOrder n ps
    → IsProduct n ps u
    → IsProduct n (turned_factors odd ps) v
    → EquivalentOn n (u ++ t) (t ++ v)
factors_pass n true t ps {u} turn orders one two =
    EquivalentOn-trans (word_pass n true t u turn (IsOn-product one))
    (EquivalentOn-after t turn.on (product_flip orders one two))
factors_pass n false t ps {u} turn orders one two =
    rw (product_unique two one) (subst (λ x. EquivalentOn n (u ++ t) (t ++ x)) (letters_stay n u)
    (word_pass n false t u turn (IsOn-product one)))

-- ---- One half turn more ----

-- a half turn in front is counted
pub half_turns_more : (n d m : ℕ) → EquivalentOn n (delta_word n ++ half_turns n d m) (half_turns n (suc d) m)
half_turns_more n d zero = stay (IsOn-times n (suc d) (delta_word n) (IsOn-delta n))
half_turns_more n d (suc m) =
    let t = delta_word n in
    let x = half_turns n d m in
    let on_t = IsOn-delta n in
    let on_x = (IsTurn-half_turns n d m).on in
    let on_back = on_inverse n t on_t in
    let first : EquivalentOn n (t ++ (inverse t ++ x)) x = EquivalentOn-drop_right n t x on_t on_x in
    let second : EquivalentOn n (inverse t ++ (t ++ x)) x = EquivalentOn-drop_left n t x on_t on_x in
    let third : EquivalentOn n (inverse t ++ (t ++ x)) (inverse t ++ half_turns n (suc d) m) =
    EquivalentOn-after (inverse t) on_back (half_turns_more n d m) in
    rw (
      append_assoc (inverse t) (times m (inverse t)) (times d t),
      append_assoc (inverse t) (times m (inverse t)) (times (suc d) t),
    )
    (EquivalentOn-trans first (EquivalentOn-trans (EquivalentOn-sym second) third))

-- inverse half turns in front are counted
pub half_turns_fewer
    : (n d m : ℕ) (b : Bool)
    → times (count_of b) (inverse (delta_word n)) ++ half_turns n d m ≡ half_turns n d (m + count_of b)
half_turns_fewer n d m b =
    let e : count_of b + m ≡ m + count_of b = omega arith in
    sym (times-add (count_of b) m (inverse (delta_word n)) (times d (delta_word n)))
    ∙ ap (λ k. half_turns n d k) e

-- ---- The power of both ----

-- inverse half turns before fewer half turns
fewer
    : (n m d : ℕ) (w : List Letter)
    → d ≤ m
    → IsOn n w
    → EquivalentOn n (times m (inverse (delta_word n)) ++ (times d (delta_word n) ++ w))
    (times (m - d) (inverse (delta_word n)) ++ w)
fewer n m d w less on =
    subst (λ x. EquivalentOn n (times m (inverse (delta_word n)) ++ (times d x ++ w))
    (times (m - d) (inverse (delta_word n)) ++ w))
    (inverse-inverse (delta_word n))
    (times_inverse m d (inverse (delta_word n)) w less (on_inverse n (delta_word n) (IsOn-delta n)) on)

-- inverse half turns before no fewer half turns
more
    : (n m d : ℕ) (w : List Letter)
    → m ≤ d
    → IsOn n w
    → EquivalentOn n (times m (inverse (delta_word n)) ++ (times d (delta_word n) ++ w))
    (times (d - m) (delta_word n) ++ w)
more n m d w less on =
    let c = times (d - m) (delta_word n) ++ w in
    let on_c = on_append n (times (d - m) (delta_word n)) w
    (IsOn-times n (d - m) (delta_word n) (IsOn-delta n)) on in
    let e : m + (d - m) ≡ d = omega arith in
    let parts : times d (delta_word n) ++ w ≡ times m (delta_word n) ++ c =
    ap (λ k. times k (delta_word n) ++ w) (sym e) ∙ times-add m (d - m) (delta_word n) w in
    let f : m - m ≡ 0 = omega arith in
    let all : EquivalentOn n (times m (inverse (delta_word n)) ++ (times m (delta_word n) ++ c))
    (times (m - m) (inverse (delta_word n)) ++ c) =
    fewer n m m c (omega arith) on_c in
    let none : EquivalentOn n (times m (inverse (delta_word n)) ++ (times m (delta_word n) ++ c)) c =
    subst (λ k. EquivalentOn n (times m (inverse (delta_word n)) ++ (times m (delta_word n) ++ c))
    (times k (inverse (delta_word n)) ++ c)) f all in
    subst (λ x. EquivalentOn n (times m (inverse (delta_word n)) ++ x) c) (sym parts) none

-- both are the power of their difference
pub half_turns_power
    : (n d m : ℕ) (z : ℤ) (w : List Letter)
    → IsOn n w
    → (m ≤ d → z ≡ pos (d - m))
    → (d < m → z ≡ negsuc (m - d - 1))
    → EquivalentOn n (half_turns n d m ++ w) (delta_power n z ++ w)
half_turns_power n d m z w on up down =
    rw (append_assoc (times m (inverse (delta_word n))) (times d (delta_word n)) w)
    (elim (cases_lt d m) [
      | inl less ↦
          let e : m - d ≡ suc (m - d - 1) = omega arith in
          rw (down less)
          (subst (λ k. EquivalentOn n (times m (inverse (delta_word n)) ++ (times d (delta_word n) ++ w))
          (times k (inverse (delta_word n)) ++ w)) e (fewer n m d w (omega arith) on))
      | inr other ↦ rw (up (omega arith)) (more n m d w (omega arith) on)
    ])
