-- One pass from the end of a list of simple braids to its front.
--
-- A greedy list takes in one simple braid more at its end. At each time the list is a front that wasn't
-- touched, the factor at which the pass stands, and the rest, which is greedy with this factor (`IsPass`).
-- Each turn makes the last of the front and the factor greedy (`IsPass-step`); where that moves nothing, or
-- the front is empty, the whole is greedy. Where the factor is a half turn, it goes past the rest, which is
-- flipped before it, and front and rest are greedy (`IsPass-turned`).
use Rattle.std.proofs.Common.{ℕ, ◌≡◌, ◌∙◌, true, false, List, [], ◌∷◌, ◌++◌, append_assoc, append-nil, map, refl, sym, ap, subst}
use Rattle.perm_braid.specs.Arrangements.{flip, half_turn, IsOrder}
use Rattle.perm_braid.specs.GreedyPairs.{IsGreedy, Moves}
use Rattle.perm_braid.proofs.MoveLemmas.{IsOrder-moves_first, IsOrder-moves_second, KeepsProduct-moves}
use Rattle.garside_form.proofs.GreedyLevelLemmas.{IsGreedy-domino_right, IsGreedy-half_turn, Moves-half_turn}
use Rattle.garside_form.specs.FactorLists.{EachOrder, KeepsFactors, AreGreedy, BeginsShort, IsTakenIn}
use Rattle.garside_form.proofs.FactorLemmas.{KeepsFactors-refl, KeepsFactors-trans, KeepsFactors-pair, KeepsFactors-behind, AreGreedy-append}
use Rattle.garside_form.proofs.FlipLemmas.{EachOrder-flip, AreGreedy-flip, BeginsShort-flip, KeepsFactors-half_turn}
use Rattle.wb_base.proofs.PartLemmas.{nil_cons, first_is}

-- ---- Fronts ----

-- the orders of a front and of its last
pub orders_append
    : (n : ℕ) (front ps : List (List ℕ))
    → EachOrder n front
    → EachOrder n ps
    → EachOrder n (front ++ ps)
orders_append n [] ps first second = second
orders_append n (p ∷ front) ps first second = (first.0, orders_append n front ps first.1 second)

pub orders_front : (n : ℕ) (front ps : List (List ℕ)) → EachOrder n (front ++ ps) → EachOrder n front
orders_front n [] ps all = tt
orders_front n (p ∷ front) ps all = (all.0, orders_front n front ps all.1)

pub orders_back : (n : ℕ) (front ps : List (List ℕ)) → EachOrder n (front ++ ps) → EachOrder n ps
orders_back n [] ps all = all
orders_back n (p ∷ front) ps all = orders_back n front ps all.1

-- a front of a greedy list is greedy
pub greedy_front : (n : ℕ) (front ps : List (List ℕ)) → AreGreedy n (front ++ ps) → AreGreedy n front
greedy_front n [] ps greedy = tt
greedy_front n (p ∷ []) ps greedy = tt
greedy_front n (p ∷ q ∷ front) ps greedy = (greedy.0, greedy_front n (q ∷ front) ps greedy.1)

-- so is its last pair
pub greedy_last
    : (n : ℕ) (front : List (List ℕ)) (p q : List ℕ) (ps : List (List ℕ))
    → AreGreedy n (front ++ p ∷ q ∷ ps)
    → IsGreedy n p q
greedy_last n [] p q ps greedy = greedy.0
greedy_last n (r ∷ []) p q ps greedy = greedy.1.0
greedy_last n (r ∷ s ∷ front) p q ps greedy = greedy_last n (s ∷ front) p q ps greedy.1

-- a front begins with no half turn if the whole does
pub begins_front : (n : ℕ) (front ps : List (List ℕ)) → BeginsShort n (front ++ ps) → BeginsShort n front
begins_front n [] ps begins = tt
begins_front n (p ∷ front) ps begins = begins

-- and the whole if a front does that has one at least
begins_whole
    : (n : ℕ) (front : List (List ℕ)) (o : List ℕ) (ps : List (List ℕ))
    → BeginsShort n (front ++ o ∷ [])
    → BeginsShort n (front ++ o ∷ ps)
begins_whole n [] o ps begins = begins
begins_whole n (p ∷ front) o ps begins = begins

-- two greedy lists in a row, if the pair where they meet is greedy
pub greedy_join
    : (n : ℕ) (front ps : List (List ℕ))
    → AreGreedy n front
    → AreGreedy n ps
    → ((f ss : List (List ℕ)) (o s : List ℕ) → front ≡ f ++ o ∷ [] → ps ≡ s ∷ ss → IsGreedy n o s)
    → AreGreedy n (front ++ ps)
greedy_join n [] ps first second meet = second
greedy_join n (p ∷ []) [] first second meet = tt
greedy_join n (p ∷ []) (s ∷ ss) first second meet = (meet [] ss p s refl refl, second)
greedy_join n (p ∷ q ∷ front) ps first second meet = (
  first.0,
  greedy_join n (q ∷ front) ps first.1 second
      (λ f ss o s is_front is_ps. meet (p ∷ f) ss o s (ap (λ l. p ∷ l) is_front) is_ps),
)

-- a list behind a front and one more
pub behind_one
    : (front : List (List ℕ)) (p : List ℕ) (ps : List (List ℕ))
    → (front ++ p ∷ []) ++ ps ≡ front ++ p ∷ ps
behind_one front p ps = append_assoc front (p ∷ []) ps

-- ---- The pass ----

-- How the factor and the next came to be: of a factor that was greedy behind the last of the front.
pub record CameOf (n : ℕ) (o carry s : List ℕ) : Type 0 where
  pub p : List ℕ
  pub q : List ℕ
  pub in_p : IsOrder n p
  pub in_q : IsOrder n q
  pub greedy : IsGreedy n o p
  pub moves : Moves n p q carry s

-- So where there is both a last of the front and a next.
abbrev pub Came : ℕ → List (List ℕ) → List ℕ → List (List ℕ) → Type 0
Came n front carry rest =
    (f ss : List (List ℕ)) (o s : List ℕ) → front ≡ f ++ o ∷ [] → rest ≡ s ∷ ss → CameOf n o carry s

-- Where the pass stands: the list from which it began has the product of the front, the factor and the rest.
pub record IsPass (n : ℕ) (start front : List (List ℕ)) (carry : List ℕ) (rest : List (List ℕ)) : Type 0 where
  pub in_front : EachOrder n front
  pub in_carry : IsOrder n carry
  pub in_rest : EachOrder n rest
  pub keeps : KeepsFactors n start (front ++ carry ∷ rest)
  pub front_greedy : AreGreedy n front
  pub front_begins : BeginsShort n front
  pub rest_greedy : AreGreedy n (carry ∷ rest)
  pub rest_begins : BeginsShort n rest
  pub came : Came n front carry rest

-- it begins behind a greedy list
pub IsPass-begin
    : (n : ℕ) (front : List (List ℕ)) (carry : List ℕ)
    → EachOrder n front
    → IsOrder n carry
    → AreGreedy n front
    → BeginsShort n front
    → IsPass n (front ++ carry ∷ []) front carry []
IsPass-begin n front carry orders order greedy begins = record {
  in_front = orders;
  in_carry = order;
  in_rest = tt;
  keeps = KeepsFactors-refl n (front ++ carry ∷ []);
  front_greedy = greedy;
  front_begins = begins;
  rest_greedy = tt;
  rest_begins = tt;
  came = λ f ss o s is_front is_rest. absurd (nil_cons is_rest);
}

-- what the pass leaves behind it stays greedy
pass_rest
    : (n : ℕ) (start f : List (List ℕ)) (o carry t u : List ℕ) (rest : List (List ℕ))
    → IsPass n start (f ++ o ∷ []) carry rest
    → IsOrder n o
    → Moves n o carry t u
    → IsGreedy n t u
    → AreGreedy n (t ∷ u ∷ rest)
pass_rest n start f o carry t u [] pass in_o moves greedy = (greedy, tt)
pass_rest n start f o carry t u (s ∷ ss) pass in_o moves greedy =
    let from = pass.came f ss o s refl refl in (
      greedy,
      (
        IsGreedy-domino_right in_o from.in_p from.in_q from.greedy from.moves pass.rest_greedy.0 moves greedy,
        pass.rest_greedy.1,
      ),
    )

-- one turn: the last of the front and the factor were made greedy
pub IsPass-step
    : (n : ℕ) (start f : List (List ℕ)) (o carry t u : List ℕ) (rest : List (List ℕ))
    → IsPass n start (f ++ o ∷ []) carry rest
    → (carry ≡ half_turn n → ⊥)
    → Moves n o carry t u
    → IsGreedy n t u
    → IsPass n start f t (u ∷ rest)
IsPass-step n start f o carry t u rest pass short moves greedy = record {
  in_front = orders_front n f (o ∷ []) pass.in_front;
  in_carry = IsOrder-moves_first in_o moves;
  in_rest = (IsOrder-moves_second pass.in_carry moves, pass.in_rest);
  keeps = KeepsFactors-trans n start (f ++ o ∷ carry ∷ rest) (f ++ t ∷ u ∷ rest) orders before after;
  front_greedy = greedy_front n f (o ∷ []) pass.front_greedy;
  front_begins = begins_front n f (o ∷ []) pass.front_begins;
  rest_greedy = pass_rest n start f o carry t u rest pass in_o moves greedy;
  rest_begins = λ is. short (Moves-half_turn pass.in_carry moves is);
  came = came;
}
  where
    in_o : IsOrder n o
    in_o = (orders_back n f (o ∷ []) pass.in_front).0

    orders : EachOrder n (f ++ o ∷ carry ∷ rest)
    orders = orders_append n f (o ∷ carry ∷ rest) (orders_front n f (o ∷ []) pass.in_front)
        (in_o, (pass.in_carry, pass.in_rest))

    before : KeepsFactors n start (f ++ o ∷ carry ∷ rest)
    before = subst (λ l. KeepsFactors n start l) (behind_one f o (carry ∷ rest)) pass.keeps

    after : KeepsFactors n (f ++ o ∷ carry ∷ rest) (f ++ t ∷ u ∷ rest)
    after = KeepsFactors-pair n f o carry t u rest (KeepsProduct-moves in_o pass.in_carry moves)

    came : Came n f t (u ∷ rest)
    came g ss p s is_front is_rest = record {
      p = o;
      q = carry;
      in_p = in_o;
      in_q = pass.in_carry;
      greedy = greedy_last n g p o [] (subst (λ l. AreGreedy n l)
          (ap (λ l. l ++ o ∷ []) is_front ∙ behind_one g p (o ∷ [])) pass.front_greedy);
      moves = subst (λ r. Moves n o carry t r) (first_is is_rest) moves;
    }

-- ---- Its end ----

-- where the last of the front and the factor were greedy, the whole is owed
pub IsPass-stops
    : (n : ℕ) (start f : List (List ℕ)) (o carry : List ℕ) (rest : List (List ℕ))
    → IsPass n start (f ++ o ∷ []) carry rest
    → IsGreedy n o carry
    → IsTakenIn n start (f ++ o ∷ carry ∷ rest) false
IsPass-stops n start f o carry rest pass greedy = record {
  orders = orders_append n f (o ∷ carry ∷ rest) (orders_front n f (o ∷ []) pass.in_front)
      ((orders_back n f (o ∷ []) pass.in_front).0, (pass.in_carry, pass.in_rest));
  greedy = AreGreedy-append n f o carry rest pass.front_greedy greedy pass.rest_greedy;
  begins = begins_whole n f o (carry ∷ rest) pass.front_begins;
  keeps = subst (λ l. KeepsFactors n start l)
      (behind_one f o (carry ∷ rest) ∙ sym (append-nil (f ++ o ∷ carry ∷ rest))) pass.keeps;
}

-- front and flipped rest are greedy
turned_greedy
    : (n : ℕ) (start front : List (List ℕ)) (carry : List ℕ) (rest : List (List ℕ))
    → IsPass n start front carry rest
    → carry ≡ half_turn n
    → AreGreedy n (front ++ map flip rest)
turned_greedy n start front carry [] pass is = rw (append-nil front) pass.front_greedy
turned_greedy n start front carry (s ∷ ss) pass is =
    greedy_join n front (map flip (s ∷ ss)) pass.front_greedy
    (AreGreedy-flip n (s ∷ ss) pass.in_rest pass.rest_greedy.1)
    (λ f ts o t is_front is_rest.
    let from = pass.came f ss o s is_front refl in
    let moves : Moves n from.p from.q (half_turn n) s =
    subst (λ c. Moves n from.p from.q c s) is from.moves in
    subst (λ x. IsGreedy n o x) (first_is is_rest)
    (IsGreedy-half_turn o from.in_p from.in_q from.greedy moves))

-- they begin with no half turn
turned_begins
    : (n : ℕ) (start front : List (List ℕ)) (carry : List ℕ) (rest : List (List ℕ))
    → IsPass n start front carry rest
    → BeginsShort n (front ++ map flip rest)
turned_begins n start [] carry rest pass = BeginsShort-flip n rest pass.in_rest pass.rest_begins
turned_begins n start (p ∷ front) carry rest pass = pass.front_begins

-- where the factor is a half turn, the front and the rest flipped are owed, before the half turn
pub IsPass-turned
    : (n : ℕ) (start front : List (List ℕ)) (carry : List ℕ) (rest : List (List ℕ))
    → IsPass n start front carry rest
    → carry ≡ half_turn n
    → IsTakenIn n start (front ++ map flip rest) true
IsPass-turned n start front carry rest pass is = record {
  orders = orders_append n front (map flip rest) pass.in_front (EachOrder-flip n rest pass.in_rest);
  greedy = turned_greedy n start front carry rest pass is;
  begins = turned_begins n start front carry rest pass;
  keeps = rw (append_assoc front (map flip rest) (half_turn n ∷ []))
      (KeepsFactors-trans n start (front ++ carry ∷ rest) (front ++ (map flip rest ++ half_turn n ∷ []))
      (orders_append n front (carry ∷ rest) pass.in_front (pass.in_carry, pass.in_rest)) pass.keeps
      (KeepsFactors-behind n front (carry ∷ rest) (map flip rest ++ half_turn n ∷ [])
      (rw is (KeepsFactors-half_turn n rest pass.in_rest))));
}
