-- Which generators divide the word of a greedy list, and that the normal form of a positive word has no
-- negative power of the half turn.
use Rattle.std.proofs.Common.{ℕ, zero, suc, ◌≡◌, ◌↔◌, ◌+◌, ◌-◌, ◌<◌, ◌≤◌, ◌∙◌, ℤ, pos, negsuc, List, [], ◌∷◌, ◌++◌, append_assoc, reverse, refl, sym, subst, arith}
use Rattle.braid_word.specs.Words.{Letter, inverse, IsPositiveWord}
use Rattle.braid_word.specs.Equivalence.{EquivalentOn}
use Rattle.braid_word.proofs.WordLemmas.{on_append}
use Rattle.braid_word.proofs.EquivalenceLemmas.{on_first, EquivalentOn-trans, EquivalentOn-after}
use Rattle.perm_braid.specs.Arrangements.{identity, IsLeftDescent}
use Rattle.perm_braid.specs.SimpleWords.{generator, delta_word}
use Rattle.perm_braid.proofs.PlaceLemmas.{entry-identity, IsOrder-identity}
use Rattle.garside_form.specs.NormalForms.{IsNormal, times, IsProduct, IsSpelled, Form, IsFormOf}
use Rattle.garside_form.specs.FactorLists.{EachOrder, AreGreedy}
use Rattle.garside_form.proofs.DeltaLemmas.{composed_identity_left}
use Rattle.garside_form.proofs.NaturalLevelLemmas.{path, levels-greedy, levels-delta, levels-natural, IsOn-product, IsOn-delta, IsOn-times, negatives-product, negatives-natural}
use Rattle.garside_form.proofs.UniqueLemmas.{path_begins, times_inverse}
use Rattle.braid_gcd.specs.Divisors.{Divides, SharesNone}
use Rattle.braid_gcd.specs.Rounds.{NoneCommon}
use Rattle.braid_gcd.proofs.PositiveLemmas.{positive_from, negatives-positive}
use Rattle.braid_gcd.proofs.DivideLemmas.{Divides-on}
use Rattle.braid_gcd.proofs.FirstOrderLemmas.{first_order, first_order-equivalent, IsTurned}
use Rattle.braid_gcd.proofs.MultipleLemmas.{divides_turned, turned_divides}

-- ---- The first of a greedy list ----

-- the word of a list of simple braids is positive
pub positive_product : {n : ℕ} {ps : List (List ℕ)} {w : List Letter} → IsProduct n ps w → IsPositiveWord w
positive_product {n} {ps} {w} product = positive_from w (negatives-product product)

-- the first order of a greedy list is its first
first_order-greedy
    : {n : ℕ} {p : List ℕ} {ps : List (List ℕ)} {w : List Letter}
    → EachOrder n (p ∷ ps)
    → AreGreedy n (p ∷ ps)
    → IsProduct n (p ∷ ps) w
    → first_order w (identity n) ≡ p
first_order-greedy {n} orders greedy product =
    levels-greedy orders greedy (IsOrder-identity n) product 0 ∙ composed_identity_left orders.0

-- a pair of neighbours of the identity stands turned in p where p has a left descent
turned_descent
    : {n i : ℕ} (p : List ℕ)
    → 1 ≤ i
    → i < n
    → IsTurned (identity n) p i ↔ IsLeftDescent p i
turned_descent {n} {i} p low high =
    let here = entry-identity n i low (omega arith) in
    let next = entry-identity n (i + 1) (omega arith) (omega arith) in
    (λ turned. rw (here, next) at turned, λ left. rw (here, next) left)

-- a generator divides the word of a greedy list exactly where it is a left descent of the first
Divides-first_factor
    : {n : ℕ} {p : List ℕ} {ps : List (List ℕ)} {w : List Letter} (i : ℕ)
    → 1 ≤ i
    → i < n
    → EachOrder n (p ∷ ps)
    → AreGreedy n (p ∷ ps)
    → IsProduct n (p ∷ ps) w
    → Divides n (generator i ∷ []) w ↔ IsLeftDescent p i
Divides-first_factor {n} {p} {ps} {w} i low high orders greedy product =
    let order = IsOrder-identity n in
    let positive = positive_product product in
    let first = first_order-greedy orders greedy product in
    let (down, up) = turned_descent p low high in (
      λ divides.
          down (subst (λ h. IsTurned (identity n) h i) first (turned_divides i positive order divides)),
      λ left.
          divides_turned i (IsOn-product product) positive order low high
          (subst (λ h. IsTurned (identity n) h i) (sym first) (up left)),
    )

-- the words of greedy lists share no letter where their firsts have no left descent in common
pub shares_none-greedy
    : {n : ℕ} {p q : List ℕ} {ps qs : List (List ℕ)} {u v : List Letter}
    → EachOrder n (p ∷ ps)
    → EachOrder n (q ∷ qs)
    → AreGreedy n (p ∷ ps)
    → AreGreedy n (q ∷ qs)
    → NoneCommon n p q
    → IsProduct n (p ∷ ps) u
    → IsProduct n (q ∷ qs) v
    → SharesNone n u v
shares_none-greedy orders_p orders_q greedy_p greedy_q none first second i one two =
    let on = Divides-on one in
    none i on.0.0 on.0.1 ((Divides-first_factor i on.0.0 on.0.1 orders_p greedy_p first).0 one)
    ((Divides-first_factor i on.0.0 on.0.1 orders_q greedy_q second).0 two)

-- ---- Normal forms of positive words ----

-- what has a negative power of the half turn is equivalent to no positive word
power_negative
    : {n : ℕ} {ps : List (List ℕ)} {w v : List Letter} (a : ℕ)
    → 2 ≤ n
    → IsNormal n ps
    → IsProduct n ps v
    → EquivalentOn n w (times (suc a) (inverse (delta_word n)) ++ v)
    → IsPositiveWord w
    → ⊥
power_negative {n} {ps} {w} {v} a two normal product chain positive =
    let x = identity n in
    let order = IsOrder-identity n in
    let turns = times (suc a) (delta_word n) in
    let on = IsOn-delta n in
    let on_more = on_append n (times a (delta_word n)) w (IsOn-times n a (delta_word n) on)
    (on_first chain) in
    let e : suc a - suc a ≡ 0 = omega arith in
    let gone : EquivalentOn n (turns ++ (times (suc a) (inverse (delta_word n)) ++ v)) v =
    rw e at (times_inverse (suc a) (suc a) (delta_word n) v (omega arith) on (IsOn-product product)) in
    let longer = EquivalentOn-after turns (IsOn-times n (suc a) (delta_word n) on) chain in
    let whole = positive_from (turns ++ w) (negatives-natural n (suc a) w (negatives-positive w positive)) in
    let same = first_order-equivalent (EquivalentOn-trans longer gone) whole (positive_product product)
    order in
    let turned : first_order (turns ++ w) x ≡ reverse x =
    rw (append_assoc (delta_word n) (times a (delta_word n)) w)
    (levels-delta (times a (delta_word n) ++ w) order on_more 0) in
    let first : first_order v x ≡ path x ps 0 = levels-natural zero normal order product 0 in
    path_begins ps two normal order (sym first ∙ (sym same ∙ turned))

-- the power of the half turn in what is equivalent to a positive word isn't negative
power_positive
    : {n : ℕ} (d : ℤ) {ps : List (List ℕ)} {w v : List Letter}
    → 2 ≤ n
    → IsNormal n ps
    → IsSpelled n d ps v
    → EquivalentOn n w v
    → IsPositiveWord w
    → (a : ℕ) × (d ≡ pos a)
power_positive (pos a) two normal spelled chain positive = (a, refl)
power_positive (negsuc a) two normal spelled chain positive =
    absurd (power_negative a two normal spelled.product (rw spelled.is at chain) positive)

-- so it is in the normal form of a positive word
pub IsFormOf-positive
    : (f : Form) (w : List Letter)
    → 2 ≤ f.strands
    → IsPositiveWord w
    → IsFormOf f w
    → (a : ℕ) × (f.delta ≡ pos a)
IsFormOf-positive f w two positive is =
    power_positive f.delta two is.normal is.spelled is.equivalent positive
