-- The body that puts a simple braid in front of a list: the list is the rest from its end, and the stack the
-- front.
use Rattle.std.proofs.Common.{ℕ, ◌≡◌, ◌∙◌, false, true, List, [], ◌∷◌, ◌++◌, length, append-nil, reverse, sym, ap, subst}
use Rattle.std.proofs.lemmas.List.{reverse-append, reverse-reverse}
use Rattle.perm_braid.specs.Arrangements.{identity, IsOrder}
use Rattle.perm_braid.specs.GreedyPairs.{IsGreedy, Moves}
use Rattle.garside_form.specs.FactorLists.{EachOrder, AreGreedy}
use Rattle.garside_form.proofs.ListLemmas.{moves_none}
use Rattle.braid_gcd.specs.Rounds.{IsPutIn}
use Rattle.braid_gcd.proofs.FrontPassLemmas.{IsFrontPass, IsFrontPass-begin, IsFrontPass-step, IsFrontPass-end, IsFrontPass-stops, IsFrontPass-drops}

-- the pass begins with an empty stack
pub put_begins
    : (n : ℕ) (stack list : List (List ℕ)) (carry : List ℕ)
    → stack ≡ []
    → IsOrder n carry
    → EachOrder n (reverse list)
    → AreGreedy n (reverse list)
    → IsFrontPass n (carry ∷ reverse list) stack carry (reverse list)
put_begins n stack list carry none order orders greedy =
    rw none (IsFrontPass-begin n carry (reverse list) order orders greedy)

-- the last of a vector is the first of its list
pub first_of : (list f : List (List ℕ)) (p : List ℕ) → list ≡ f ++ p ∷ [] → reverse list ≡ p ∷ reverse f
first_of list f p is = ap reverse is ∙ reverse-append f (p ∷ [])

-- the pass at the next
pass_next
    : (n : ℕ) (start stack list f : List (List ℕ)) (carry o : List ℕ)
    → IsFrontPass n start stack carry (reverse list)
    → list ≡ f ++ o ∷ []
    → IsFrontPass n start stack carry (o ∷ reverse f)
pass_next n start stack list f carry o pass is =
    subst (λ l. IsFrontPass n start stack carry l) (first_of list f o is) pass

-- it has as many entries as the factor
pub put_sizes
    : (n : ℕ) (start stack list f : List (List ℕ)) (carry o : List ℕ)
    → IsFrontPass n start stack carry (reverse list)
    → list ≡ f ++ o ∷ []
    → length carry ≡ length o
put_sizes n start stack list f carry o pass is =
    pass.in_carry.size ∙ sym (pass_next n start stack list f carry o pass is).in_rest.0.size

-- one turn, with what was made put on the stack
pub put_turn
    : (n : ℕ) (start stack list f more : List (List ℕ)) (carry o u v : List ℕ)
    → IsFrontPass n start stack carry (reverse list)
    → list ≡ f ++ o ∷ []
    → Moves (length carry) carry o u v
    → IsGreedy (length carry) u v
    → more ≡ stack ++ u ∷ []
    → IsFrontPass n start more v (reverse f)
put_turn n start stack list f more carry o u v pass is moves greedy grown =
    rw grown (IsFrontPass-step n start stack carry o u v (reverse f)
    (pass_next n start stack list f carry o pass is)
    (subst (λ k. Moves k carry o u v) pass.in_carry.size moves)
    (subst (λ k. IsGreedy k u v) pass.in_carry.size greedy))

-- a stack that was put on a list and one more
put_whole
    : (stack list one whole : List (List ℕ)) (o : List ℕ)
    → one ≡ list ++ o ∷ []
    → whole ≡ one ++ reverse stack
    → reverse whole ≡ stack ++ o ∷ reverse list
put_whole stack list one whole o first second =
    ap reverse second
    ∙ (reverse-append one (reverse stack)
    ∙ (ap (λ l. l ++ reverse one) (reverse-reverse stack)
    ∙ ap (λ l. stack ++ l) (first_of one list o first)))

-- where the list was empty
pub put_ends
    : (n : ℕ) (start stack list now one whole : List (List ℕ)) (carry : List ℕ)
    → IsFrontPass n start stack carry (reverse list)
    → list ≡ []
    → list ≡ now ++ []
    → one ≡ now ++ carry ∷ []
    → whole ≡ one ++ reverse stack
    → IsPutIn n start (reverse whole)
put_ends n start stack list now one whole carry pass none same first second =
    let rest : reverse list ≡ [] = ap reverse none in
    let empty : now ≡ [] = sym (append-nil now) ∙ (sym same ∙ none) in
    let back : reverse whole ≡ stack ++ carry ∷ [] =
    put_whole stack now one whole carry first second ∙ ap (λ l. stack ++ carry ∷ reverse l) empty in
    rw back (IsFrontPass-end n start stack carry (subst (λ l. IsFrontPass n start stack carry l) rest pass))

-- where nothing moved
pub put_stops
    : (n : ℕ) (start stack list f one two whole : List (List ℕ)) (carry o u v : List ℕ)
    → IsFrontPass n start stack carry (reverse list)
    → list ≡ f ++ o ∷ []
    → Moves (length carry) carry o u v
    → IsGreedy (length carry) u v
    → ((IsGreedy (length carry) carry o → ⊥) → false ≡ true)
    → one ≡ f ++ v ∷ []
    → two ≡ one ++ u ∷ []
    → whole ≡ two ++ reverse stack
    → IsPutIn n start (reverse whole)
put_stops n start stack list f one two whole carry o u v pass is moves greedy still first second third =
    let none = moves_none moves still in
    let back : reverse whole ≡ stack ++ carry ∷ o ∷ reverse f =
    put_whole stack one two whole u second third
    ∙ (ap (λ l. stack ++ u ∷ l) (first_of one f v first)
    ∙ (ap (λ y. stack ++ y ∷ v ∷ reverse f) none.0 ∙ ap (λ y. stack ++ carry ∷ y ∷ reverse f) none.1)) in
    let good : IsGreedy n carry o =
    subst (λ y. IsGreedy n y o) none.0
    (subst (λ y. IsGreedy n u y) none.1 (subst (λ k. IsGreedy k u v) pass.in_carry.size greedy)) in
    rw back (IsFrontPass-stops n start stack carry o (reverse f)
    (pass_next n start stack list f carry o pass is) good)

-- where nothing is left of the factor
pub put_drops
    : (n : ℕ) (start stack list whole : List (List ℕ)) (carry : List ℕ)
    → IsFrontPass n start stack carry (reverse list)
    → carry ≡ identity (length carry)
    → whole ≡ list ++ reverse stack
    → IsPutIn n start (reverse whole)
put_drops n start stack list whole carry pass is put =
    let back : reverse whole ≡ stack ++ reverse list =
    ap reverse put
    ∙ (reverse-append list (reverse stack) ∙ ap (λ l. l ++ reverse list) (reverse-reverse stack)) in
    rw back (IsFrontPass-drops n start stack carry (reverse list) pass
    (is ∙ ap identity pass.in_carry.size))
