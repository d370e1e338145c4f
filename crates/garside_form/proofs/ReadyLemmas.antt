-- Greedy lists of simple braids with no half turn in front and no identity at the end: these are normal.
use Rattle.std.proofs.Common.{ℕ, ◌≡◌, List, [], ◌∷◌, ◌++◌, subst}
use Rattle.braid_word.specs.Equivalence.{stay}
use Rattle.perm_braid.specs.Arrangements.{identity}
use Rattle.perm_braid.specs.GreedyPairs.{IsGreedy}
use Rattle.garside_form.specs.NormalForms.{IsNormal}
use Rattle.garside_form.specs.FactorLists.{EachOrder, AreGreedy, KeepsFactors, EndsCrossed, IsReady}
use Rattle.garside_form.proofs.NaturalLevelLemmas.{IsOn-product}
use Rattle.garside_form.proofs.FactorLemmas.{product_identity, greedy_half_turn, greedy_identity}

-- ---- Identities at the end ----

-- an identity at the end is left out
pub KeepsFactors-identity : (n : ℕ) (ps : List (List ℕ)) → KeepsFactors n (ps ++ identity n ∷ []) ps
KeepsFactors-identity n ps u v one two = rw (product_identity n ps one two) (stay (IsOn-product two))

-- a list ends crossed if its last does
pub EndsCrossed-last
    : (n : ℕ) (front : List (List ℕ)) (p : List ℕ)
    → (p ≡ identity n → ⊥)
    → EndsCrossed n (front ++ p ∷ [])
EndsCrossed-last n [] p last = last
EndsCrossed-last n (q ∷ []) p last = last
EndsCrossed-last n (q ∷ r ∷ front) p last = EndsCrossed-last n (r ∷ front) p last

-- in a greedy list that ends crossed the first isn't the identity
first_crossed
    : (n : ℕ) (p : List ℕ) (ps : List (List ℕ))
    → EachOrder n (p ∷ ps)
    → AreGreedy n (p ∷ ps)
    → EndsCrossed n (p ∷ ps)
    → p ≡ identity n
    → ⊥
first_crossed n p [] orders greedy ends is = ends is
first_crossed n p (q ∷ ps) orders greedy ends is =
    first_crossed n q ps orders.1 greedy.1 ends
    (greedy_identity orders.1.0 (subst (λ r. IsGreedy n r q) is greedy.0))

-- ---- Normal lists ----

-- a greedy list that begins with no half turn and ends with no identity is normal
pub IsNormal-ready
    : (n : ℕ) (ps : List (List ℕ))
    → IsReady n ps
    → IsNormal n ps
IsNormal-ready n [] ready = tt
IsNormal-ready n (p ∷ []) ready = record { order = ready.orders.0; some = ready.ends; not_all = ready.begins }
IsNormal-ready n (p ∷ q ∷ ps) ready = (
  record {
    order = ready.orders.0;
    some = first_crossed n p (q ∷ ps) ready.orders ready.greedy ready.ends;
    not_all = ready.begins;
  },
  ready.greedy.0,
  IsNormal-ready n (q ∷ ps) (record {
    orders = ready.orders.1;
    greedy = ready.greedy.1;
    begins = λ is. ready.begins (greedy_half_turn ready.orders.0
        (subst (λ r. IsGreedy n p r) is ready.greedy.0));
    ends = ready.ends;
  }),
)
