-- Taking a common letter out of the front of two lists of simple braids.
use Rattle.std.proofs.Common.{ℕ, ◌≡◌, ◌<◌, ◌≤◌, List, [], ◌∷◌, ◌++◌, length, append_assoc, refl, arith}
use Rattle.braid_word.specs.Words.{Letter}
use Rattle.braid_word.specs.Equivalence.{EquivalentOn}
use Rattle.braid_word.proofs.WordLemmas.{on_left}
use Rattle.braid_word.proofs.EquivalenceLemmas.{on_last, EquivalentOn-trans, EquivalentOn-before, EquivalentOn-after}
use Rattle.perm_braid.specs.Arrangements.{values_swapped, places_of, IsOrder, IsLeftDescent}
use Rattle.perm_braid.specs.SimpleWords.{generator}
use Rattle.perm_braid.proofs.SwapLemmas.{IsOrder-values_swapped}
use Rattle.perm_braid.proofs.SortingLemmas.{inversions}
use Rattle.perm_braid.proofs.SimpleWordLemmas.{word_exists, word_lowers, descent_of_places, IsWordOf-front}
use Rattle.garside_form.specs.NormalForms.{IsProduct, factor}
use Rattle.garside_form.proofs.NaturalLevelLemmas.{IsOn-product}
use Rattle.braid_gcd.specs.Rounds.{IsTakenOut}
use Rattle.braid_gcd.proofs.PositiveLemmas.{positive_append}

-- a letter goes over from the first simple braid
letter_over
    : {n : ℕ} {u : List Letter} (g : List Letter) {p : List ℕ} {ps : List (List ℕ)} (i : ℕ)
    → IsOrder n p
    → 1 ≤ i
    → i < n
    → IsLeftDescent p i
    → ((w : List Letter) → IsProduct n (p ∷ ps) w → EquivalentOn n u (g ++ w))
    → (w : List Letter)
    → IsProduct n (values_swapped i p ∷ ps) w
    → EquivalentOn n u ((g ++ generator i ∷ []) ++ w)
letter_over {n} {u} g i order low high left before _ (factor {u = x} {w = r} word rest) =
    let (y, whole) = word_exists order in
    let front = EquivalentOn-before r (IsOn-product rest) (IsWordOf-front order i low high left whole word) in
    let first = before (y ++ r) (factor whole rest) in
    rw (append_assoc g (generator i ∷ []) (x ++ r))
    (EquivalentOn-trans first (EquivalentOn-after g (on_left n g (y ++ r) (on_last first)) front))

-- so from both
taken_letter
    : (n : ℕ) (u v g : List Letter) (p q : List ℕ) (ps qs : List (List ℕ)) (i : ℕ)
    → 1 ≤ i
    → i < n
    → IsLeftDescent p i
    → IsLeftDescent q i
    → IsTakenOut n u v g (p ∷ ps) (q ∷ qs)
    → IsTakenOut n u v (g ++ generator i ∷ []) (values_swapped i p ∷ ps) (values_swapped i q ∷ qs)
taken_letter n u v g p q ps qs i low high left_p left_q taken = record {
  positive = positive_append g (generator i ∷ []) taken.positive (refl, tt);
  first_orders = (IsOrder-values_swapped taken.first_orders.0 i low high, taken.first_orders.1);
  second_orders = (IsOrder-values_swapped taken.second_orders.0 i low high, taken.second_orders.1);
  first = letter_over g i taken.first_orders.0 low high left_p taken.first;
  second = letter_over g i taken.second_orders.0 low high left_q taken.second;
}

-- the first simple braid has fewer crossings then
pub taken_lowers
    : {n : ℕ} {p now : List ℕ} (i : ℕ)
    → IsOrder n p
    → 1 ≤ i
    → i < n
    → IsLeftDescent p i
    → now ≡ values_swapped i p
    → inversions (places_of now) < inversions (places_of p)
taken_lowers i order low high left is =
    let less = word_lowers order i low high (descent_of_places order i low high left) in
    rw is (omega (arith, less))

-- an order with two values exchanged is one
pub order_step
    : {n : ℕ} {p now : List ℕ} (i : ℕ)
    → IsOrder n p
    → 1 ≤ i
    → i < n
    → now ≡ values_swapped i p
    → IsOrder n now
order_step i order low high is = rw is (IsOrder-values_swapped order i low high)

-- one letter was taken out of both, and put behind the divisor
pub taken_step
    : (n : ℕ) (u v g more : List Letter) (p q r s : List ℕ) (ps qs : List (List ℕ)) (i : ℕ)
    → 1 ≤ i
    → i < length p
    → IsLeftDescent p i
    → IsLeftDescent q i
    → more ≡ g ++ generator i ∷ []
    → r ≡ values_swapped i p
    → s ≡ values_swapped i q
    → IsTakenOut n u v g (p ∷ ps) (q ∷ qs)
    → IsTakenOut n u v more (r ∷ ps) (s ∷ qs)
taken_step n u v g more p q r s ps qs i low high left_p left_q grown is_r is_s taken =
    rw (grown, is_r, is_s)
    (taken_letter n u v g p q ps qs i low (omega (arith, high, taken.first_orders.0.size)) left_p left_q
    taken)
