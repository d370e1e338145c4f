-- A line leaves a grammar at one place at most.
use Rattle.std.proofs.Common.{◌≡◌, ℕ, List, [], ◌∷◌, ◌++◌, sym, ap, ◌∙◌, subst, append_assoc}
use Rattle.std.proofs.lemmas.List.{map-append}
use Rattle.ld_term.specs.Tokens.{Token, Placed, tokens_of}
use Rattle.ld_term.specs.Grammar.{Begins, IsFault, at_token, at_end}

-- ---- One place ----

-- what begins with more begins with less
Begins-front
    : (Has : List Token → Type 0) (front rest : List Token)
    → Begins Has (front ++ rest)
    → Begins Has front
Begins-front Has front rest (more, has) = (rest ++ more, subst Has (append_assoc front rest more) has)

-- the first token that may not stand is one token: neither cut of the tokens ends before the other
token-unique
    : (Has : List Token → Type 0) (front : List Token) (one after two behind : List Placed) (p q : Placed)
    → one ++ (p ∷ after) ≡ two ++ (q ∷ behind)
    → Begins Has (front ++ tokens_of one)
    → (Begins Has (front ++ (tokens_of one ++ (p.token ∷ []))) → ⊥)
    → Begins Has (front ++ tokens_of two)
    → (Begins Has (front ++ (tokens_of two ++ (q.token ∷ []))) → ⊥)
    → p ≡ q
token-unique Has front [] after [] behind p q is begins stops also ends = cc
token-unique Has front [] after (r ∷ two) behind p q is begins stops also ends =
    let same : p ≡ r = cc in
    absurd (stops (Begins-front Has (front ++ (p.token ∷ [])) (tokens_of two)
    (subst (Begins Has)
    (ap (λ (z : Placed). front ++ (z.token ∷ tokens_of two)) (sym same)
    ∙ sym (append_assoc front (p.token ∷ []) (tokens_of two))) also)))
token-unique Has front (r ∷ one) after [] behind p q is begins stops also ends =
    let same : q ≡ r = cc in
    absurd (ends (Begins-front Has (front ++ (q.token ∷ [])) (tokens_of one)
    (subst (Begins Has)
    (ap (λ (z : Placed). front ++ (z.token ∷ tokens_of one)) (sym same)
    ∙ sym (append_assoc front (q.token ∷ []) (tokens_of one))) begins)))
token-unique Has front (r ∷ one) after (s ∷ two) behind p q is begins stops also ends =
    let same : r ≡ s = cc in
    let rest : one ++ (p ∷ after) ≡ two ++ (q ∷ behind) = cc in
    let also_r : Begins Has (front ++ (r.token ∷ tokens_of two)) =
    subst (λ (z : Placed). Begins Has (front ++ (z.token ∷ tokens_of two))) (sym same) also in
    let ends_r : Begins Has (front ++ (r.token ∷ (tokens_of two ++ (q.token ∷ [])))) → ⊥ =
    λ b. ends (subst (λ (z : Placed). Begins Has (front ++ (z.token ∷ (tokens_of two ++ (q.token ∷ [])))))
    same b) in
    token-unique Has (front ++ (r.token ∷ [])) one after two behind p q rest
    (subst (Begins Has) (sym (append_assoc front (r.token ∷ []) (tokens_of one))) begins)
    (λ b. stops (subst (Begins Has) (append_assoc front (r.token ∷ []) (tokens_of one ++ (p.token ∷ []))) b))
    (subst (Begins Has) (sym (append_assoc front (r.token ∷ []) (tokens_of two))) also_r)
    (λ b. ends_r (subst (Begins Has) (append_assoc front (r.token ∷ []) (tokens_of two ++ (q.token ∷ []))) b))

-- where the tokens can go on, no token of theirs is the first that may not stand
token-none
    : (Has : List Token → Type 0) (placed before after : List Placed) (p : Placed)
    → placed ≡ before ++ (p ∷ after)
    → Begins Has (tokens_of placed)
    → Begins Has (tokens_of before ++ (p.token ∷ []))
token-none Has placed before after p is begins =
    let whole : tokens_of placed ≡ (tokens_of before ++ (p.token ∷ [])) ++ tokens_of after =
    ap tokens_of is ∙ map-append _ before (p ∷ after)
    ∙ sym (append_assoc (tokens_of before) (p.token ∷ []) (tokens_of after)) in
    Begins-front Has (tokens_of before ++ (p.token ∷ [])) (tokens_of after) (subst (Begins Has) whole begins)

-- a line has one place of a fault
pub fault-unique
    : (Has : List Token → Type 0) (placed : List Placed) (end m n : ℕ)
    → IsFault Has placed end m
    → IsFault Has placed end n
    → m ≡ n
fault-unique Has placed end m n (at_token one after p is begins stops m_is)
    (at_token two behind q also begins_q stops_q n_is) =
    m_is ∙ ap (λ (z : Placed). z.place)
    (token-unique Has [] one after two behind p q (sym is ∙ also) begins stops begins_q stops_q)
    ∙ sym n_is
fault-unique Has placed end m n (at_token one after p is begins stops m_is) (at_end whole none n_is) =
    absurd (stops (token-none Has placed one after p is whole))
fault-unique Has placed end m n (at_end whole none m_is) (at_token two behind q also begins stops n_is) =
    absurd (stops (token-none Has placed two behind q also whole))
fault-unique Has placed end m n (at_end whole none m_is) (at_end also more n_is) = m_is ∙ sym n_is

-- ---- Two ways to say one grammar ----

-- what begins in one way begins in the other
Begins-weaker
    : (Has Holds : List Token → Type 0)
    → ((tokens : List Token) → Has tokens → Holds tokens)
    → (front : List Token)
    → Begins Has front
    → Begins Holds front
Begins-weaker Has Holds there front (rest, has) = (rest, there (front ++ rest) has)

-- a fault of a grammar is one of the same grammar in other words
pub fault-same
    : (Has Holds : List Token → Type 0) (placed : List Placed) (end place : ℕ)
    → ((tokens : List Token) → Has tokens → Holds tokens)
    → ((tokens : List Token) → Holds tokens → Has tokens)
    → IsFault Has placed end place
    → IsFault Holds placed end place
fault-same Has Holds placed end place there back (at_token before after p is begins stops place_is) =
    at_token before after p is (Begins-weaker Has Holds there _ begins)
    (λ b. stops (Begins-weaker Holds Has back _ b)) place_is
fault-same Has Holds placed end place there back (at_end begins none place_is) =
    at_end (Begins-weaker Has Holds there _ begins) (λ has. none (back _ has)) place_is
