-- One round of taking out what the fronts of two lists have in common.
use Rattle.std.proofs.Common.{ℕ, ◌≡◌, ◌≤◌, List, [], ◌∷◌, ◌++◌, length, length-append, reverse, sym, subst, arith}
use Rattle.braid_word.specs.Words.{Letter, IsPositiveWord}
use Rattle.braid_word.specs.Equivalence.{EquivalentOn}
use Rattle.braid_word.proofs.WordLemmas.{on_left}
use Rattle.braid_word.proofs.EquivalenceLemmas.{on_last, EquivalentOn-trans, EquivalentOn-sym, EquivalentOn-after}
use Rattle.garside_form.specs.NormalForms.{IsProduct, empty}
use Rattle.garside_form.specs.FactorLists.{EachOrder, AreGreedy, KeepsFactors}
use Rattle.garside_form.proofs.NaturalLevelLemmas.{greedy_rest}
use Rattle.garside_form.proofs.FactorLemmas.{product_exists}
use Rattle.braid_gcd.specs.Divisors.{SharesNone}
use Rattle.braid_gcd.specs.Rounds.{IsPutIn, NoneCommon, IsTakenOut, IsDivided, ShareNone}
use Rattle.braid_gcd.proofs.PositiveLemmas.{length-equivalent, positive_append}
use Rattle.braid_gcd.proofs.DivideLemmas.{Divides-last}
use Rattle.braid_gcd.proofs.SharedLemmas.{letter_not}
use Rattle.braid_gcd.proofs.PutInLemmas.{first_of}
use Rattle.braid_gcd.proofs.FirstFactorLemmas.{positive_product, shares_none-greedy}

-- ---- The lists at the ends of their vectors ----

-- both firsts
divided_firsts
    : (n : ℕ) (u v g : List Letter) (first f second s : List (List ℕ)) (p q : List ℕ)
    → first ≡ f ++ p ∷ []
    → second ≡ s ++ q ∷ []
    → IsDivided n u v g (reverse first) (reverse second)
    → IsDivided n u v g (p ∷ reverse f) (q ∷ reverse s)
divided_firsts n u v g first f second s p q is_first is_second divided =
    subst (λ l. IsDivided n u v g l (q ∷ reverse s)) (first_of first f p is_first)
    (subst (λ l. IsDivided n u v g (reverse first) l) (first_of second s q is_second) divided)

-- ---- Putting back ----

-- the word of a list that has the product of another
kept_word
    : {n : ℕ} (g : List Letter) {u : List Letter} (ps qs : List (List ℕ))
    → EachOrder n ps
    → KeepsFactors n ps qs
    → ((w : List Letter) → IsProduct n ps w → EquivalentOn n u (g ++ w))
    → (w : List Letter)
    → IsProduct n qs w
    → EquivalentOn n u (g ++ w)
kept_word {n} g ps qs orders keeps before w product =
    let (x, whole) = product_exists n ps orders in
    let first = before x whole in
    EquivalentOn-trans first (EquivalentOn-after g (on_left n g x (on_last first)) (keeps x w whole product))

-- where what is left of the firsts was put in front again
divided_put
    : (n : ℕ) (u v g : List Letter) (ps qs rs ss : List (List ℕ))
    → IsTakenOut n u v g ps qs
    → IsPutIn n ps rs
    → IsPutIn n qs ss
    → IsDivided n u v g rs ss
divided_put n u v g ps qs rs ss taken first second = record {
  taken = record {
    positive = taken.positive;
    first_orders = first.orders;
    second_orders = second.orders;
    first = kept_word g ps rs taken.first_orders first.keeps taken.first;
    second = kept_word g qs ss taken.second_orders second.keeps taken.second;
  };
  first_greedy = first.greedy;
  second_greedy = second.greedy;
}

-- words that are equivalent to words that share no letter share none
pub shares_none-equivalent
    : {n : ℕ} {u v s t : List Letter}
    → EquivalentOn n u s
    → EquivalentOn n v t
    → SharesNone n u v
    → SharesNone n s t
shares_none-equivalent first second none i one two =
    none i (Divides-last one (EquivalentOn-sym first)) (Divides-last two (EquivalentOn-sym second))

-- where the firsts had nothing in common, the lists share no letter
none_put
    : (n : ℕ) (u v g : List Letter) (p q : List ℕ) (ps qs rs ss : List (List ℕ))
    → IsDivided n u v g (p ∷ ps) (q ∷ qs)
    → NoneCommon n p q
    → IsPutIn n (p ∷ ps) rs
    → IsPutIn n (q ∷ qs) ss
    → ShareNone n rs ss
none_put n u v g p q ps qs rs ss divided none first second w x in_w in_x =
    let (y, one) = product_exists n (p ∷ ps) divided.taken.first_orders in
    let (z, two) = product_exists n (q ∷ qs) divided.taken.second_orders in
    shares_none-equivalent (first.keeps y w one in_w) (second.keeps z x two in_x)
    (shares_none-greedy divided.taken.first_orders divided.taken.second_orders divided.first_greedy
    divided.second_greedy none one two)

-- ---- One round ----

-- What a round takes: the firsts of both lists, of which r and t are left.
pub record IsRound (n : ℕ) (u v g h : List Letter) (p q r t : List ℕ) (ps qs : List (List ℕ)) : Type 0 where
  pub before : IsDivided n u v g (p ∷ ps) (q ∷ qs)
  pub after : IsTakenOut n u v h (r ∷ ps) (t ∷ qs)

-- so it does
pub round_from
    : (n : ℕ) (u v g h : List Letter) (first f second s : List (List ℕ)) (p q r t : List ℕ)
    → first ≡ f ++ p ∷ []
    → second ≡ s ++ q ∷ []
    → ((n : ℕ) → (u v : List Letter) → (ps qs : List (List ℕ)) → IsTakenOut n u v g (p ∷ ps) (q ∷ qs)
    → IsTakenOut n u v h (r ∷ ps) (t ∷ qs))
    → IsDivided n u v g (reverse first) (reverse second)
    → IsRound n u v g h p q r t (reverse f) (reverse s)
round_from n u v g h first f second s p q r t is_first is_second step divided =
    let here = divided_firsts n u v g first f second s p q is_first is_second divided in
    record { before = here; after = step n u v (reverse f) (reverse s) here.taken }

-- what is behind the firsts is ready for them
pub round_first
    : {n : ℕ} {u v g h : List Letter} {p q r t : List ℕ} {ps qs : List (List ℕ)}
    → IsRound n u v g h p q r t ps qs
    → EachOrder (length r) ps × AreGreedy (length r) ps
round_first {n} {p = p} {r = r} {ps = ps} turn =
    let size : n ≡ length r = sym turn.after.first_orders.0.size in
    subst (λ k. EachOrder k ps × AreGreedy k ps) size
    (turn.after.first_orders.1, greedy_rest n p ps turn.before.first_greedy)

pub round_second
    : {n : ℕ} {u v g h : List Letter} {p q r t : List ℕ} {ps qs : List (List ℕ)}
    → IsRound n u v g h p q r t ps qs
    → EachOrder (length t) qs × AreGreedy (length t) qs
round_second {n} {q = q} {t = t} {qs = qs} turn =
    let size : n ≡ length t = sym turn.after.second_orders.0.size in
    subst (λ k. EachOrder k qs × AreGreedy k qs) size
    (turn.after.second_orders.1, greedy_rest n q qs turn.before.second_greedy)

-- the lists after the round
pub round_divided
    : {n : ℕ} {u v g h : List Letter} {p q r t : List ℕ} {ps qs rs ss : List (List ℕ)}
    → IsRound n u v g h p q r t ps qs
    → IsPutIn (length r) (r ∷ ps) rs
    → IsPutIn (length t) (t ∷ qs) ss
    → IsDivided n u v h rs ss
round_divided {n} {u} {v} {h = h} {r = r} {t = t} {ps = ps} {qs = qs} {rs = rs} {ss = ss} turn first second =
    divided_put n u v h (r ∷ ps) (t ∷ qs) rs ss turn.after
    (subst (λ k. IsPutIn k (r ∷ ps) rs) turn.after.first_orders.0.size first)
    (subst (λ k. IsPutIn k (t ∷ qs) ss) turn.after.second_orders.0.size second)

-- and where nothing was taken, they share no letter
pub round_none
    : {n : ℕ} {u v g h : List Letter} {p q r t : List ℕ} {ps qs rs ss : List (List ℕ)}
    → IsRound n u v g h p q r t ps qs
    → NoneCommon (length p) r t
    → (r ≡ p) × (t ≡ q)
    → IsPutIn (length r) (r ∷ ps) rs
    → IsPutIn (length t) (t ∷ qs) ss
    → ShareNone n rs ss
round_none {n} {u} {v} {g} {h} {p} {q} {r} {t} {ps} {qs} {rs} {ss} turn none same first second =
    let size_p = turn.before.taken.first_orders.0.size in
    let here : IsDivided n u v g (r ∷ ps) (t ∷ qs) =
    subst (λ x. IsDivided n u v g (x ∷ ps) (t ∷ qs)) (sym same.0)
    (subst (λ y. IsDivided n u v g (p ∷ ps) (y ∷ qs)) (sym same.1) turn.before) in
    none_put n u v g r t ps qs rs ss here (subst (λ k. NoneCommon k r t) size_p none)
    (subst (λ k. IsPutIn k (r ∷ ps) rs) turn.after.first_orders.0.size first)
    (subst (λ k. IsPutIn k (t ∷ qs) ss) turn.after.second_orders.0.size second)

-- an empty list shares no letter with another
pub none_first : (n : ℕ) (ps qs : List (List ℕ)) → ps ≡ [] → ShareNone n ps qs
none_first n ps qs is = rw is at
  where
    at : ShareNone n [] qs
    at _ x empty in_x i one two = letter_not i one

pub none_second : (n : ℕ) (ps qs : List (List ℕ)) → qs ≡ [] → ShareNone n ps qs
none_second n ps qs is = rw is at
  where
    at : ShareNone n ps []
    at w _ in_w empty i one two = letter_not i two

-- ---- The bound ----

-- what was taken out is no longer than the first word
pub divided_short
    : (n : ℕ) (u v g : List Letter) (ps qs : List (List ℕ))
    → IsPositiveWord u
    → IsDivided n u v g ps qs
    → length g ≤ length u
divided_short n u v g ps qs positive divided =
    let (w, product) = product_exists n ps divided.taken.first_orders in
    let same = length-equivalent (divided.taken.first w product) positive
    (positive_append g w divided.taken.positive (positive_product product)) in
    omega (arith, same, length-append g w)
