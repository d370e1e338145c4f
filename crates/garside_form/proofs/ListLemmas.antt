-- The bodies that keep a list ready: one simple braid more is taken in, and identities are dropped.
use Rattle.std.proofs.Common.{ℕ, ◌≡◌, ◌∙◌, false, true, List, [], ◌∷◌, ◌++◌, length, append_assoc, map, reverse, refl, sym, ap, subst}
use Rattle.std.proofs.lemmas.List.{reverse-append}
use Rattle.std.proofs.lemmas.Bool.{false≢true}
use Rattle.perm_braid.specs.Arrangements.{flip, identity, half_turn, IsOrder}
use Rattle.perm_braid.specs.GreedyPairs.{IsGreedy, Moves, done, move}
use Rattle.perm_braid.proofs.MoveLemmas.{greedy_not}
use Rattle.garside_form.specs.FactorLists.{EachOrder, AreGreedy, KeepsFactors, BeginsShort, IsReady, IsTakenIn}
use Rattle.garside_form.proofs.FactorLemmas.{KeepsFactors-trans}
use Rattle.garside_form.proofs.PassLemmas.{orders_front, orders_back, greedy_front, begins_front, IsPass, IsPass-begin, IsPass-step, IsPass-stops, IsPass-turned}
use Rattle.garside_form.proofs.ReadyLemmas.{KeepsFactors-identity, EndsCrossed-last}

-- ---- Taking in ----

-- the pass begins with an empty stack
pub pass_begins
    : (n : ℕ) (front stack : List (List ℕ)) (carry : List ℕ)
    → stack ≡ []
    → IsReady n front
    → IsOrder n carry
    → IsPass n (front ++ carry ∷ []) front carry (reverse stack)
pass_begins n front stack carry none ready order =
    rw none (IsPass-begin n front carry ready.orders order ready.greedy ready.begins)

-- the last of the front is an order
pass_last
    : (n : ℕ) (start front f : List (List ℕ)) (o carry : List ℕ) (rest : List (List ℕ))
    → IsPass n start front carry rest
    → front ≡ f ++ o ∷ []
    → IsOrder n o
pass_last n start front f o carry rest pass is =
    (orders_back n f (o ∷ []) (subst (λ l. EachOrder n l) is pass.in_front)).0

-- so it has as many entries as the factor
pub pass_sizes
    : (n : ℕ) (start front f : List (List ℕ)) (o carry : List ℕ) (rest : List (List ℕ))
    → IsPass n start front carry rest
    → front ≡ f ++ o ∷ []
    → length o ≡ length carry
pass_sizes n start front f o carry rest pass is =
    (pass_last n start front f o carry rest pass is).size ∙ sym pass.in_carry.size

-- the factor is no half turn of n strands where it is none of its size
short_here
    : (n : ℕ) (start front : List (List ℕ)) (carry : List ℕ) (rest : List (List ℕ))
    → IsPass n start front carry rest
    → (carry ≡ half_turn (length carry) → ⊥)
    → carry ≡ half_turn n
    → ⊥
short_here n start front carry rest pass short is = short (is ∙ ap half_turn (sym pass.in_carry.size))

-- one turn, with the factor put on the stack
pub pass_turn
    : (n : ℕ) (start front f stack more : List (List ℕ)) (o carry t u : List ℕ)
    → IsPass n start front carry (reverse stack)
    → (carry ≡ half_turn (length carry) → ⊥)
    → front ≡ f ++ o ∷ []
    → Moves (length o) o carry t u
    → IsGreedy (length o) t u
    → more ≡ stack ++ u ∷ []
    → IsPass n start f t (reverse more)
pass_turn n start front f stack more o carry t u pass short is moves greedy grown =
    let size = (pass_last n start front f o carry (reverse stack) pass is).size in
    let back : reverse more ≡ u ∷ reverse stack = ap reverse grown ∙ reverse-append stack (u ∷ []) in
    subst (λ r. IsPass n start f t r) (sym back) (IsPass-step n start f o carry t u (reverse stack)
    (subst (λ l. IsPass n start l carry (reverse stack)) is pass)
    (short_here n start front carry (reverse stack) pass short)
    (subst (λ k. Moves k o carry t u) size moves) (subst (λ k. IsGreedy k t u) size greedy))

-- moves from a pair that isn't other than greedy are none
pub moves_none
    : {n : ℕ} {p q r s : List ℕ}
    → Moves n p q r s
    → ((IsGreedy n p q → ⊥) → false ≡ true)
    → (r ≡ p) × (s ≡ q)
moves_none done still = (refl, refl)
moves_none (move i is rest) still = absurd (false≢true (still (λ greedy. greedy_not i is greedy)))

-- where nothing moved, the list is what is owed
pub taken_stops
    : (n : ℕ) (start front f one two list stack : List (List ℕ)) (o carry t u : List ℕ)
    → IsPass n start front carry (reverse stack)
    → front ≡ f ++ o ∷ []
    → Moves (length o) o carry t u
    → IsGreedy (length o) t u
    → ((IsGreedy (length o) o carry → ⊥) → false ≡ true)
    → one ≡ f ++ t ∷ []
    → two ≡ one ++ u ∷ []
    → list ≡ two ++ reverse stack
    → IsTakenIn n start list false
taken_stops n start front f one two list stack o carry t u pass is moves greedy still first second third =
    let order = pass_last n start front f o carry (reverse stack) pass is in
    let none = moves_none moves still in
    let rest = reverse stack in
    let back : list ≡ f ++ o ∷ carry ∷ rest =
    third ∙ (ap (λ l. l ++ rest) (second ∙ ap (λ l. l ++ u ∷ []) first)
    ∙ (append_assoc (f ++ t ∷ []) (u ∷ []) rest ∙ (append_assoc f (t ∷ []) (u ∷ rest)
    ∙ (ap (λ x. f ++ x ∷ u ∷ rest) none.0 ∙ ap (λ x. f ++ o ∷ x ∷ rest) none.1)))) in
    let here : IsPass n start (f ++ o ∷ []) carry rest = subst (λ l. IsPass n start l carry rest) is pass in
    let good : IsGreedy n o carry =
    subst (λ x. IsGreedy n x carry) none.0
    (subst (λ x. IsGreedy n t x) none.1 (subst (λ k. IsGreedy k t u) order.size greedy)) in
    rw back (IsPass-stops n start f o carry rest here good)

-- and where a half turn came out
pub taken_turns
    : (n : ℕ) (start front list stack : List (List ℕ)) (carry : List ℕ)
    → IsPass n start front carry (reverse stack)
    → carry ≡ half_turn (length carry)
    → list ≡ front ++ map flip (reverse stack)
    → IsTakenIn n start list true
taken_turns n start front list stack carry pass whole is =
    rw is (IsPass-turned n start front carry (reverse stack) pass (whole ∙ ap half_turn pass.in_carry.size))

-- ---- Dropping identities ----

-- a list without its last
pub dropped_orders
    : (n : ℕ) (now f : List (List ℕ)) (p : List ℕ)
    → now ≡ f ++ p ∷ []
    → EachOrder n now
    → EachOrder n f
dropped_orders n now f p is orders = orders_front n f (p ∷ []) (subst (λ l. EachOrder n l) is orders)

pub dropped_greedy
    : (n : ℕ) (now f : List (List ℕ)) (p : List ℕ)
    → now ≡ f ++ p ∷ []
    → AreGreedy n now
    → AreGreedy n f
dropped_greedy n now f p is greedy = greedy_front n f (p ∷ []) (subst (λ l. AreGreedy n l) is greedy)

pub dropped_begins
    : (n : ℕ) (now f : List (List ℕ)) (p : List ℕ)
    → now ≡ f ++ p ∷ []
    → BeginsShort n now
    → BeginsShort n f
dropped_begins n now f p is begins = begins_front n f (p ∷ []) (subst (λ l. BeginsShort n l) is begins)

-- that last has n entries
last_size : (n : ℕ) (now f : List (List ℕ)) (p : List ℕ) → now ≡ f ++ p ∷ [] → EachOrder n now → length p ≡ n
last_size n now f p is orders = (orders_back n f (p ∷ []) (subst (λ l. EachOrder n l) is orders)).0.size

-- an identity that was dropped
pub dropped_keeps
    : (n : ℕ) (start now f : List (List ℕ)) (p : List ℕ)
    → now ≡ f ++ p ∷ []
    → EachOrder n now
    → p ≡ identity (length p)
    → KeepsFactors n start now
    → KeepsFactors n start f
dropped_keeps n start now f p is orders same keeps =
    let size = last_size n now f p is orders in
    let e : now ≡ f ++ identity n ∷ [] = is ∙ ap (λ x. f ++ x ∷ []) (same ∙ ap identity size) in
    KeepsFactors-trans n start now f orders keeps
    (subst (λ l. KeepsFactors n l f) (sym e) (KeepsFactors-identity n f))

-- a last that isn't the identity is put back
pub ready_last
    : (n : ℕ) (now f list : List (List ℕ)) (p : List ℕ)
    → now ≡ f ++ p ∷ []
    → list ≡ f ++ p ∷ []
    → (p ≡ identity (length p) → ⊥)
    → EachOrder n now
    → AreGreedy n now
    → BeginsShort n now
    → IsReady n list
ready_last n now f list p is again other orders greedy begins =
    let size = last_size n now f p is orders in
    let same : list ≡ now = again ∙ sym is in
    record {
      orders = rw same orders;
      greedy = rw same greedy;
      begins = rw same begins;
      ends = rw again (EndsCrossed-last n f p (λ e. other (e ∙ ap identity (sym size))));
    }
