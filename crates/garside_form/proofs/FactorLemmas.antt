-- Lists of simple braids: their products, and greedy lists.
--
-- A list is greedy where each pair of neighbours is. In such a list half turns stand first and identities
-- last. Moves between neighbours keep the product of the list (`KeepsFactors-pair`).
use Rattle.std.proofs.Common.{ℕ, ◌≡◌, ◌+◌, ◌-◌, ◌∙◌, List, [], ◌∷◌, ◌++◌, length, append_assoc, reverse, refl, sym, ap, arith}
use Rattle.std.proofs.lemmas.List.{reverse-reverse}
use Rattle.braid_word.specs.Words.{Letter}
use Rattle.braid_word.specs.Equivalence.{EquivalentOn, stay}
use Rattle.braid_word.proofs.EquivalenceLemmas.{EquivalentOn-trans, EquivalentOn-before, EquivalentOn-after}
use Rattle.perm_braid.specs.Arrangements.{entry, identity, half_turn, IsOrder}
use Rattle.perm_braid.specs.SimpleWords.{delta_word, nothing}
use Rattle.perm_braid.specs.GreedyPairs.{IsGreedy, KeepsProduct}
use Rattle.perm_braid.proofs.PlaceLemmas.{entry-reverse, entry-identity, place_of-half_turn}
use Rattle.perm_braid.proofs.SortingLemmas.{IsStuck, identity-from_stuck}
use Rattle.perm_braid.proofs.SimpleWordLemmas.{word_exists, word_unique, IsOn-word, identity-from_rising}
use Rattle.garside_form.specs.NormalForms.{IsProduct, empty, factor}
use Rattle.garside_form.specs.FactorLists.{EachOrder, AreGreedy, KeepsFactors}
use Rattle.garside_form.proofs.LevelLemmas.{IsOrder-reverse}
use Rattle.garside_form.proofs.NaturalLevelLemmas.{IsOn-product}
use Rattle.garside_form.proofs.UniqueLemmas.{product_unique}
use Rattle.garside_form.proofs.DeltaLemmas.{EquivalentOn-half_turn}

-- ---- Products ----

-- a list of simple braids has a word
pub product_exists : (n : ℕ) (ps : List (List ℕ)) → EachOrder n ps → (w : List Letter) × IsProduct n ps w
product_exists n [] orders = ([], empty)
product_exists n (p ∷ ps) orders =
    let (u, word) = word_exists orders.0 in
    let (w, rest) = product_exists n ps orders.1 in
    (u ++ w, factor word rest)

-- a list has equivalent words
pub KeepsFactors-refl : (n : ℕ) (ps : List (List ℕ)) → KeepsFactors n ps ps
KeepsFactors-refl n ps u v one two = rw (product_unique one two) (stay (IsOn-product two))

-- one after the other
pub KeepsFactors-trans
    : (n : ℕ) (ps qs rs : List (List ℕ))
    → EachOrder n qs
    → KeepsFactors n ps qs
    → KeepsFactors n qs rs
    → KeepsFactors n ps rs
KeepsFactors-trans n ps qs rs orders first second u w one three =
    let (v, two) = product_exists n qs orders in EquivalentOn-trans (first u v one two) (second v w two three)

-- behind one simple braid
pub KeepsFactors-cons : (n : ℕ) (p : List ℕ) (ps qs : List (List ℕ)) → KeepsFactors n ps qs
    → KeepsFactors n (p ∷ ps) (p ∷ qs)
KeepsFactors-cons n p ps qs keeps _ _ (factor {u = u} {w = v} one first) (factor {u = t} {w = w} two second) =
    rw (word_unique one two) (EquivalentOn-after t (IsOn-word two) (keeps v w first second))

-- behind other simple braids
pub KeepsFactors-behind
    : (n : ℕ) (front ps qs : List (List ℕ))
    → KeepsFactors n ps qs
    → KeepsFactors n (front ++ ps) (front ++ qs)
KeepsFactors-behind n [] ps qs keeps = keeps
KeepsFactors-behind n (p ∷ front) ps qs keeps =
    KeepsFactors-cons n p (front ++ ps) (front ++ qs) (KeepsFactors-behind n front ps qs keeps)

-- a pair that keeps its product, before other simple braids
KeepsFactors-front
    : (n : ℕ) (p q r s : List ℕ) (ps : List (List ℕ))
    → KeepsProduct n p q r s
    → KeepsFactors n (p ∷ q ∷ ps) (r ∷ s ∷ ps)
KeepsFactors-front n p q r s ps keeps _ _
    (factor {u = a} p_is (factor {u = b} {w = u} q_is one))
    (factor {u = c} r_is (factor {u = d} {w = v} s_is two)) =
    let both = EquivalentOn-before v (IsOn-product two) (keeps a b c d p_is q_is r_is s_is) in
    rw (product_unique one two) (rw (append_assoc a b v, append_assoc c d v) at both)

-- a pair that keeps its product, between others
pub KeepsFactors-pair
    : (n : ℕ) (front : List (List ℕ)) (p q r s : List ℕ) (ps : List (List ℕ))
    → KeepsProduct n p q r s
    → KeepsFactors n (front ++ p ∷ q ∷ ps) (front ++ r ∷ s ∷ ps)
KeepsFactors-pair n [] p q r s ps keeps = KeepsFactors-front n p q r s ps keeps
KeepsFactors-pair n (o ∷ front) p q r s ps keeps =
    KeepsFactors-cons n o (front ++ p ∷ q ∷ ps) (front ++ r ∷ s ∷ ps)
    (KeepsFactors-pair n front p q r s ps keeps)

-- the half turn in front of others is its word in front of theirs
pub product_half_turn
    : (n : ℕ) (ps : List (List ℕ)) {u w : List Letter}
    → IsProduct n (half_turn n ∷ ps) u
    → IsProduct n ps w
    → EquivalentOn n u (delta_word n ++ w)
product_half_turn n ps {u} {w} (factor {w = v} word rest) product =
    rw (product_unique rest product)
    (EquivalentOn-before w (IsOn-product product) (EquivalentOn-half_turn word))

-- the identity behind others adds nothing
pub product_identity
    : (n : ℕ) (ps : List (List ℕ)) {u w : List Letter}
    → IsProduct n (ps ++ identity n ∷ []) u
    → IsProduct n ps w
    → u ≡ w
product_identity n [] (factor word empty) empty = ap (λ t. t ++ []) (word_unique word (nothing refl))
product_identity n (p ∷ ps) (factor one first) (factor two second) =
    rw (word_unique one two, product_identity n ps first second) refl

-- ---- Two lists in a row ----

-- The words of two lists in a row.
pub record IsSplit (n : ℕ) (ps qs : List (List ℕ)) (w : List Letter) : Type 0 where
  pub u : List Letter
  pub v : List Letter
  pub first : IsProduct n ps u
  pub second : IsProduct n qs v
  pub is : w ≡ u ++ v

-- a word of two lists in a row is a word of each
pub product_split
    : (n : ℕ) (ps qs : List (List ℕ)) (w : List Letter)
    → IsProduct n (ps ++ qs) w
    → IsSplit n ps qs w
product_split n [] qs w product = record { u = []; v = w; first = empty; second = product; is = refl }
product_split n (p ∷ ps) qs _ (factor {u = a} {w = b} word rest) =
    let split = product_split n ps qs b rest in
    record {
      u = a ++ split.u;
      v = split.v;
      first = factor word split.first;
      second = split.second;
      is = ap (λ t. a ++ t) split.is ∙ sym (append_assoc a split.u split.v);
    }

-- words of two lists are one of both in a row
pub product_append
    : (n : ℕ) (ps qs : List (List ℕ)) (u v : List Letter)
    → IsProduct n ps u
    → IsProduct n qs v
    → IsProduct n (ps ++ qs) (u ++ v)
product_append n [] qs _ v empty second = second
product_append n (p ∷ ps) qs _ v (factor {u = a} {w = b} word rest) second =
    rw (append_assoc a b v) (factor word (product_append n ps qs b v rest second))

-- ---- Greedy lists ----

-- two greedy lists in a row, if the pair where they meet is greedy
pub AreGreedy-append
    : (n : ℕ) (front : List (List ℕ)) (p q : List ℕ) (ps : List (List ℕ))
    → AreGreedy n (front ++ p ∷ [])
    → IsGreedy n p q
    → AreGreedy n (q ∷ ps)
    → AreGreedy n (front ++ p ∷ q ∷ ps)
AreGreedy-append n [] p q ps first pair second = (pair, second)
AreGreedy-append n (o ∷ []) p q ps first pair second = (first.0, (pair, second))
AreGreedy-append n (o ∷ r ∷ front) p q ps first pair second =
    (first.0, AreGreedy-append n (r ∷ front) p q ps first.1 pair second)

-- behind the identity only the identity is greedy
pub greedy_identity
    : {n : ℕ} {q : List ℕ}
    → IsOrder n q
    → IsGreedy n (identity n) q
    → q ≡ identity n
greedy_identity {n} {q} order greedy =
    identity-from_rising order (λ i low high left.
    let down = greedy i low high left in
    let here = entry-identity n i low (omega arith) in
    let next = entry-identity n (i + 1) (omega arith) (omega arith) in
    absurd (omega (arith, here, next, down)))

-- before the half turn only the half turn is greedy
pub greedy_half_turn
    : {n : ℕ} {p : List ℕ}
    → IsOrder n p
    → IsGreedy n p (half_turn n)
    → p ≡ half_turn n
greedy_half_turn {n} {p} order greedy =
    let back = IsOrder-reverse order in
    let stuck : IsStuck n (reverse p) = (λ i low high down.
    let size = order.size in
    let j = n - i in
    let here = place_of-half_turn n j (omega arith) (omega arith) in
    let next = place_of-half_turn n (j + 1) (omega arith) (omega arith) in
    let falls = greedy j (omega arith) (omega arith) (omega (arith, here, next)) in
    let one = entry-reverse p i low (omega (arith, size, high)) in
    let two = entry-reverse p (i + 1) (omega arith) (omega (arith, size, high)) in
    let e : length p + 1 - i ≡ j + 1 = omega (arith, size, high) in
    let f : length p + 1 - (i + 1) ≡ j = omega (arith, size, high) in
    let one_at : entry (reverse p) i ≡ entry p (j + 1) = one ∙ ap (entry p) e in
    let two_at : entry (reverse p) (i + 1) ≡ entry p j = two ∙ ap (entry p) f in
    absurd (omega (arith, one_at, two_at, falls, down))) in
    sym (reverse-reverse p) ∙ ap reverse (identity-from_stuck back stuck)
