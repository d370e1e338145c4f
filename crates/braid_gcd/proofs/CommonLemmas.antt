-- The answer: the letters that were taken out and what is left, as normal words.
use Rattle.std.proofs.Common.{ℕ, ◌≡◌, ◌≤◌, ◌∙◌, List, [], ◌++◌, length, length-append, ap, arith}
use Rattle.braid_word.specs.Words.{Letter, IsOn, IsPositiveWord}
use Rattle.braid_word.specs.declared.TheConstants.{MAX_LETTERS}
use Rattle.braid_word.specs.Equivalence.{EquivalentOn}
use Rattle.braid_word.proofs.WordLemmas.{on_left}
use Rattle.braid_word.proofs.EquivalenceLemmas.{on_last, EquivalentOn-trans, EquivalentOn-sym, EquivalentOn-append}
use Rattle.garside_form.specs.NormalForms.{IsProduct}
use Rattle.garside_form.specs.FactorLists.{EachOrder}
use Rattle.garside_form.proofs.NaturalLevelLemmas.{IsOn-product, negatives-product, negatives-natural}
use Rattle.garside_form.proofs.FactorLemmas.{product_exists}
use Rattle.braid_gcd.specs.NormalWords.{IsNormalWord, IsAnswerOf}
use Rattle.braid_gcd.specs.Rounds.{IsDivided, ShareNone, IsListOf, IsSpelledWord}
use Rattle.braid_gcd.specs.declared.TheConstants.{MAX_DIVIDED}
use Rattle.braid_gcd.proofs.PositiveLemmas.{length-equivalent, positive_append, positive_from}
use Rattle.braid_gcd.proofs.GreatestLemmas.{greatest_from}
use Rattle.braid_gcd.proofs.FirstFactorLemmas.{positive_product}
use Rattle.braid_gcd.proofs.RoundLemmas.{shares_none-equivalent, divided_short}

-- ---- Letters that were pushed ----

-- the letters of a list are on its strands, positive and no more than its word
pub record AreLetters (n : ℕ) (letters : List Letter) : Type 0 where
  pub on : IsOn n letters
  pub positive : IsPositiveWord letters
  pub most : length letters ≤ MAX_LETTERS

-- so they are
pub list_letters
    : (n : ℕ) (none letters slice : List Letter) (ps : List (List ℕ))
    → EachOrder n ps
    → ((w : List Letter) → IsProduct n ps w → length w ≤ MAX_LETTERS)
    → none ≡ []
    → ((m : ℕ) → (w : List Letter) → EachOrder m ps → IsProduct m ps w → letters ≡ none ++ w)
    → slice ≡ letters
    → AreLetters n slice
list_letters n none letters slice ps orders most empty pushed is =
    let (w, product) = product_exists n ps orders in
    let same : slice ≡ w = is ∙ (pushed n w orders product ∙ ap (λ l. l ++ w) empty) in
    rw same (record {
      on = IsOn-product product;
      positive = positive_product product;
      most = most w product;
    })

-- ---- The division ----

-- it begins with nothing taken out of two greedy lists
pub divided_begins
    : {n : ℕ} {u v : List Letter} {ps qs : List (List ℕ)}
    → IsListOf n u ps
    → IsListOf n v qs
    → IsDivided n u v [] ps qs
divided_begins first second = record {
  taken = record {
    positive = tt;
    first_orders = first.orders;
    second_orders = second.orders;
    first = first.word;
    second = second.word;
  };
  first_greedy = first.greedy;
  second_greedy = second.greedy;
}

-- the letters that were taken out
pub divided_letters
    : (n : ℕ) (u v g slice : List Letter) (ps qs : List (List ℕ))
    → IsPositiveWord u
    → length u ≤ MAX_DIVIDED
    → IsDivided n u v g ps qs
    → slice ≡ g
    → AreLetters n slice
divided_letters n u v g slice ps qs positive few divided is =
    let (w, product) = product_exists n ps divided.taken.first_orders in
    let short = divided_short n u v g ps qs positive divided in
    rw is (record {
      on = on_left n g w (on_last (divided.taken.first w product));
      positive = divided.taken.positive;
      most = omega (arith, short, few);
    })

-- what is left has no more letters than the word
left_short
    : (n : ℕ) (u g w : List Letter) (ps : List (List ℕ))
    → IsPositiveWord u
    → IsPositiveWord g
    → length u ≤ MAX_DIVIDED
    → ((w : List Letter) → IsProduct n ps w → EquivalentOn n u (g ++ w))
    → IsProduct n ps w
    → length w ≤ MAX_LETTERS
left_short n u g w ps positive positive_g few before product =
    let same = length-equivalent (before w product) positive
    (positive_append g w positive_g (positive_product product)) in
    omega (arith, same, few, length-append g w)

-- of the first word
pub first_short
    : (n : ℕ) (u v g w : List Letter) (ps qs : List (List ℕ))
    → IsPositiveWord u
    → length u ≤ MAX_DIVIDED
    → IsDivided n u v g ps qs
    → IsProduct n ps w
    → length w ≤ MAX_LETTERS
first_short n u v g w ps qs positive few divided product =
    left_short n u g w ps positive divided.taken.positive few divided.taken.first product

-- of the second word
pub second_short
    : (n : ℕ) (u v g w : List Letter) (ps qs : List (List ℕ))
    → IsPositiveWord v
    → length v ≤ MAX_DIVIDED
    → IsDivided n u v g ps qs
    → IsProduct n qs w
    → length w ≤ MAX_LETTERS
second_short n u v g w ps qs positive few divided product =
    left_short n v g w qs positive divided.taken.positive few divided.taken.second product

-- ---- The answer ----

-- the word that a normal form spells with a power of the half turn that isn't negative is positive
pub normal_positive : {n : ℕ} {w : List Letter} → IsNormalWord n w → IsPositiveWord w
normal_positive {n} {w} normal =
    positive_from w (rw normal.spelled.is
    (negatives-natural n normal.power normal.spelled.rest (negatives-product normal.spelled.product)))

-- normal words of the letters that were taken out and of what is left
pub answer_made
    : (n : ℕ) (u v g d a b : List Letter) (ps qs : List (List ℕ))
    → IsPositiveWord u
    → IsPositiveWord v
    → IsDivided n u v g ps qs
    → ShareNone n ps qs
    → IsSpelledWord n g d
    → ((w : List Letter) → IsProduct n ps w → IsSpelledWord n w a)
    → ((w : List Letter) → IsProduct n qs w → IsSpelledWord n w b)
    → IsAnswerOf n u v d a b
answer_made n u v g d a b ps qs positive_u positive_v divided none divisor left right =
    let (w, one) = product_exists n ps divided.taken.first_orders in
    let (x, two) = product_exists n qs divided.taken.second_orders in
    let at_a = left w one in
    let at_b = right x two in
    let first : EquivalentOn n (d ++ a) u =
    EquivalentOn-sym (EquivalentOn-trans (divided.taken.first w one)
    (EquivalentOn-append divisor.equivalent at_a.equivalent)) in
    let second : EquivalentOn n (d ++ b) v =
    EquivalentOn-sym (EquivalentOn-trans (divided.taken.second x two)
    (EquivalentOn-append divisor.equivalent at_b.equivalent)) in
    record {
      divisor = divisor.normal;
      left = at_a.normal;
      right = at_b.normal;
      first = first;
      second = second;
      greatest = greatest_from (normal_positive divisor.normal) (normal_positive at_a.normal)
          (normal_positive at_b.normal) positive_u positive_v first second
          (shares_none-equivalent at_a.equivalent at_b.equivalent (none w x one two));
    }
