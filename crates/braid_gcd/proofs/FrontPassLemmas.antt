-- One pass from the front of a list of simple braids to its end.
--
-- A greedy list takes in one simple braid more in front of it. At each time the list is a front that the
-- pass has made, the factor at which it stands, and the rest, which wasn't touched (`IsFrontPass`). Each turn
-- makes the factor and the next greedy (`IsFrontPass-step`); where that moves nothing, or nothing is left of
-- the factor or of the rest, the whole is greedy.
use Rattle.std.proofs.Common.{ℕ, ◌≡◌, List, [], ◌∷◌, ◌++◌, refl, sym, subst}
use Rattle.std.proofs.lemmas.List.{same_from_push}
use Rattle.wb_base.proofs.PartLemmas.{nil_cons, first_is}
use Rattle.braid_word.specs.Equivalence.{stay}
use Rattle.perm_braid.specs.Arrangements.{identity, IsOrder}
use Rattle.perm_braid.specs.SimpleWords.{nothing}
use Rattle.perm_braid.specs.GreedyPairs.{IsGreedy, Moves}
use Rattle.perm_braid.proofs.MoveLemmas.{IsOrder-moves_first, IsOrder-moves_second, KeepsProduct-moves}
use Rattle.perm_braid.proofs.SimpleWordLemmas.{word_unique}
use Rattle.garside_form.specs.NormalForms.{factor}
use Rattle.garside_form.specs.FactorLists.{EachOrder, AreGreedy, KeepsFactors}
use Rattle.garside_form.proofs.NaturalLevelLemmas.{greedy_rest, IsOn-product}
use Rattle.garside_form.proofs.UniqueLemmas.{product_unique}
use Rattle.garside_form.proofs.FactorLemmas.{KeepsFactors-refl, KeepsFactors-trans, KeepsFactors-pair, KeepsFactors-behind, AreGreedy-append}
use Rattle.garside_form.proofs.PassLemmas.{orders_append, greedy_front, greedy_join, behind_one}
use Rattle.braid_gcd.specs.Rounds.{IsPutIn}
use Rattle.braid_gcd.proofs.GreedyDominoLemmas.{IsGreedy-domino_left, IsGreedy-domino_identity}

-- ---- The pass ----

-- How the last of the front and the factor came to be: of a factor that was greedy before the next.
pub record CameOf (n : ℕ) (s carry r : List ℕ) : Type 0 where
  pub p : List ℕ
  pub q : List ℕ
  pub in_p : IsOrder n p
  pub in_q : IsOrder n q
  pub moves : Moves n p q s carry
  pub made : IsGreedy n s carry
  pub greedy : IsGreedy n q r

-- So where there is both a last of the front and a next.
abbrev pub Came : ℕ → List (List ℕ) → List ℕ → List (List ℕ) → Type 0
Came n front carry rest =
    (f rs : List (List ℕ)) (s r : List ℕ) → front ≡ f ++ s ∷ [] → rest ≡ r ∷ rs → CameOf n s carry r

-- Where the pass stands: the list from which it began has the product of the front, the factor and the rest.
pub record IsFrontPass (n : ℕ) (start front : List (List ℕ)) (carry : List ℕ) (rest : List (List ℕ))
    : Type 0 where
  pub in_front : EachOrder n front
  pub in_carry : IsOrder n carry
  pub in_rest : EachOrder n rest
  pub keeps : KeepsFactors n start (front ++ carry ∷ rest)
  pub front_greedy : AreGreedy n (front ++ carry ∷ [])
  pub rest_greedy : AreGreedy n rest
  pub came : Came n front carry rest

-- no front ends with a factor where there is none
push_not : (f : List (List ℕ)) (s : List ℕ) → [] ≡ f ++ s ∷ [] → ⊥
push_not [] s is = nil_cons is
push_not (p ∷ f) s is = nil_cons is

-- it begins in front of a greedy list
pub IsFrontPass-begin
    : (n : ℕ) (carry : List ℕ) (rest : List (List ℕ))
    → IsOrder n carry
    → EachOrder n rest
    → AreGreedy n rest
    → IsFrontPass n (carry ∷ rest) [] carry rest
IsFrontPass-begin n carry rest order orders greedy = record {
  in_front = tt;
  in_carry = order;
  in_rest = orders;
  keeps = KeepsFactors-refl n (carry ∷ rest);
  front_greedy = tt;
  rest_greedy = greedy;
  came = λ f rs s r is_front is_rest. absurd (push_not f s is_front);
}

-- the front with what the next turn puts behind it is greedy
front_grows
    : (n : ℕ) (start front : List (List ℕ)) (carry r u v : List ℕ) (rest : List (List ℕ))
    → IsFrontPass n start front carry (r ∷ rest)
    → Moves n carry r u v
    → IsGreedy n u v
    → AreGreedy n (front ++ u ∷ [])
front_grows n start front carry r u v rest pass moves greedy =
    greedy_join n front (u ∷ []) (greedy_front n front (carry ∷ []) pass.front_greedy) tt
    (λ f rs s x is_front is_u.
    let from = pass.came f rest s r is_front refl in
    subst (λ y. IsGreedy n s y) (first_is is_u)
    (IsGreedy-domino_left from.in_p from.in_q pass.in_rest.0 from.moves from.made from.greedy moves greedy))

-- what came of the turn
came_next
    : (n : ℕ) (front : List (List ℕ)) (carry r u v : List ℕ) (rest : List (List ℕ))
    → IsOrder n carry
    → IsOrder n r
    → AreGreedy n (r ∷ rest)
    → Moves n carry r u v
    → IsGreedy n u v
    → Came n (front ++ u ∷ []) v rest
came_next n front carry r u v rest in_carry in_r greedy moves made f rs s x is_front is_rest =
    let (fronts, last) = same_from_push front f u s is_front in
    let next : AreGreedy n (r ∷ x ∷ rs) = subst (λ l. AreGreedy n (r ∷ l)) is_rest greedy in
    record {
      p = carry;
      q = r;
      in_p = in_carry;
      in_q = in_r;
      moves = subst (λ y. Moves n carry r y v) last moves;
      made = subst (λ y. IsGreedy n y v) last made;
      greedy = next.0;
    }

-- one turn: the factor and the next were made greedy
pub IsFrontPass-step
    : (n : ℕ) (start front : List (List ℕ)) (carry r u v : List ℕ) (rest : List (List ℕ))
    → IsFrontPass n start front carry (r ∷ rest)
    → Moves n carry r u v
    → IsGreedy n u v
    → IsFrontPass n start (front ++ u ∷ []) v rest
IsFrontPass-step n start front carry r u v rest pass moves greedy =
    let in_u = IsOrder-moves_first pass.in_carry moves in
    let in_v = IsOrder-moves_second pass.in_rest.0 moves in
    let orders = orders_append n front (carry ∷ r ∷ rest) pass.in_front (pass.in_carry, pass.in_rest) in
    record {
      in_front = orders_append n front (u ∷ []) pass.in_front (in_u, tt);
      in_carry = in_v;
      in_rest = pass.in_rest.1;
      keeps = rw (behind_one front u (v ∷ rest))
          (KeepsFactors-trans n start (front ++ carry ∷ r ∷ rest) (front ++ u ∷ v ∷ rest) orders pass.keeps
          (KeepsFactors-pair n front carry r u v rest
          (KeepsProduct-moves pass.in_carry pass.in_rest.0 moves)));
      front_greedy = rw (behind_one front u (v ∷ []))
          (AreGreedy-append n front u v [] (front_grows n start front carry r u v rest pass moves greedy)
          greedy tt);
      rest_greedy = greedy_rest n r rest pass.rest_greedy;
      came = came_next n front carry r u v rest pass.in_carry pass.in_rest.0 pass.rest_greedy moves greedy;
    }

-- ---- Its end ----

-- where nothing is left of the rest, the whole is owed
pub IsFrontPass-end
    : (n : ℕ) (start front : List (List ℕ)) (carry : List ℕ)
    → IsFrontPass n start front carry []
    → IsPutIn n start (front ++ carry ∷ [])
IsFrontPass-end n start front carry pass = record {
  orders = orders_append n front (carry ∷ []) pass.in_front (pass.in_carry, tt);
  greedy = pass.front_greedy;
  keeps = pass.keeps;
}

-- where the factor and the next were greedy
pub IsFrontPass-stops
    : (n : ℕ) (start front : List (List ℕ)) (carry r : List ℕ) (rest : List (List ℕ))
    → IsFrontPass n start front carry (r ∷ rest)
    → IsGreedy n carry r
    → IsPutIn n start (front ++ carry ∷ r ∷ rest)
IsFrontPass-stops n start front carry r rest pass greedy = record {
  orders = orders_append n front (carry ∷ r ∷ rest) pass.in_front (pass.in_carry, pass.in_rest);
  greedy = AreGreedy-append n front carry r rest pass.front_greedy greedy pass.rest_greedy;
  keeps = pass.keeps;
}

-- the identity in front adds nothing
KeepsFactors-drop : (n : ℕ) (ps : List (List ℕ)) → KeepsFactors n (identity n ∷ ps) ps
KeepsFactors-drop n ps _ v (factor word one) two =
    rw (word_unique word (nothing refl), product_unique one two) (stay (IsOn-product two))

-- where nothing is left of the factor, it is dropped
pub IsFrontPass-drops
    : (n : ℕ) (start front : List (List ℕ)) (carry : List ℕ) (rest : List (List ℕ))
    → IsFrontPass n start front carry rest
    → carry ≡ identity n
    → IsPutIn n start (front ++ rest)
IsFrontPass-drops n start front carry rest pass is = record {
  orders = orders_append n front rest pass.in_front pass.in_rest;
  greedy = greedy_join n front rest (greedy_front n front (carry ∷ []) pass.front_greedy) pass.rest_greedy
      (λ f rs s r is_front is_rest.
      let from = pass.came f rs s r is_front is_rest in
      let in_rest : EachOrder n (r ∷ rs) = subst (λ l. EachOrder n l) is_rest pass.in_rest in
      IsGreedy-domino_identity from.in_p from.in_q in_rest.0
      (subst (λ y. Moves n from.p from.q s y) is from.moves) (subst (λ y. IsGreedy n s y) is from.made)
      from.greedy);
  keeps = KeepsFactors-trans n start (front ++ carry ∷ rest) (front ++ rest)
      (orders_append n front (carry ∷ rest) pass.in_front (pass.in_carry, pass.in_rest)) pass.keeps
      (KeepsFactors-behind n front (carry ∷ rest) rest
      (subst (λ y. KeepsFactors n (y ∷ rest) rest) (sym is) (KeepsFactors-drop n rest)));
}
