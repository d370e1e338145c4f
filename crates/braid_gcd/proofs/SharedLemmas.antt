-- Whether some generator divides two words.
use Rattle.std.proofs.Common.{ℕ, zero, suc, ◌≡◌, ◌⊎◌, inl, inr, ◌+◌, ◌<◌, ◌≤◌, List, [], ◌∷◌, refl, subst, arith}
use Rattle.std.proofs.lemmas.Bool.{cases_eq, cases_lt}
use Rattle.braid_word.specs.Words.{Letter, IsOn, IsPositiveWord}
use Rattle.perm_braid.specs.Arrangements.{entry, place_of, identity}
use Rattle.perm_braid.specs.SimpleWords.{generator}
use Rattle.perm_braid.proofs.PlaceLemmas.{IsOrder-identity}
use Rattle.braid_gcd.specs.Divisors.{Divides, SharesNone}
use Rattle.braid_gcd.proofs.PositiveLemmas.{length-equivalent}
use Rattle.braid_gcd.proofs.DivideLemmas.{Divides-on, Divides-front}
use Rattle.braid_gcd.proofs.FirstOrderLemmas.{first_order, letter_positive, IsTurned}
use Rattle.braid_gcd.proofs.MultipleLemmas.{divides_turned, turned_divides}

-- ---- Pairs turned in two orders ----

-- A pair at a place below m that stands turned in both orders.
pub record TurnedBelow (x g h : List ℕ) (m : ℕ) : Type 0 where
  pub index : ℕ
  pub low : 1 ≤ index
  pub high : index < m
  pub first : IsTurned x g index
  pub second : IsTurned x h index

-- No pair at such a place does.
abbrev pub NoneTurned : List ℕ → List ℕ → List ℕ → ℕ → Type 0
NoneTurned x g h m = (i : ℕ) → 1 ≤ i → i < m → IsTurned x g i → IsTurned x h i → ⊥

-- one place more where the pair isn't turned in both
none_more
    : (x g h : List ℕ) (m : ℕ)
    → NoneTurned x g h m
    → (IsTurned x g m → IsTurned x h m → ⊥)
    → NoneTurned x g h (suc m)
none_more x g h m none never i low high first second = elim (cases_eq i m) [
  | inl is ↦
      let one : IsTurned x g m = subst (λ k. IsTurned x g k) is first in
      let two : IsTurned x h m = subst (λ k. IsTurned x h k) is second in
      never one two
  | inr other ↦ none i low (omega arith) first second
]

-- the place m, after those below it
turned_here
    : (x g h : List ℕ) (m : ℕ)
    → NoneTurned x g h m
    → 1 ≤ m
    → TurnedBelow x g h (suc m) ⊎ NoneTurned x g h (suc m)
turned_here x g h m none low = elim (cases_lt (place_of g (entry x (m + 1))) (place_of g (entry x m))) [
  | inl first ↦ elim (cases_lt (place_of h (entry x (m + 1))) (place_of h (entry x m))) [
    | inl second ↦ inl (record { index = m; low = low; high = omega arith; first = first; second = second })
    | inr never ↦ inr (none_more x g h m none (λ one two. absurd (omega (arith, two, never))))
  ]
  | inr never ↦ inr (none_more x g h m none (λ one two. absurd (omega (arith, one, never))))
]

-- there is such a pair or none
turned_below : (x g h : List ℕ) (m : ℕ) → TurnedBelow x g h m ⊎ NoneTurned x g h m
turned_below x g h zero = inr (λ i low high first second. absurd (omega arith))
turned_below x g h (suc m) = elim (turned_below x g h m) [
  | inl found ↦
      inl (record {
        index = found.index;
        low = found.low;
        high = omega (arith, found.high);
        first = found.first;
        second = found.second;
      })
  | inr none ↦ elim (cases_lt 0 m) [
    | inl low ↦ turned_here x g h m none low
    | inr least ↦ inr (λ i low high first second. absurd (omega arith))
  ]
]

-- ---- Letters that divide two words ----

-- no letter divides the empty word
pub letter_not : {n : ℕ} (i : ℕ) → Divides n (generator i ∷ []) [] → ⊥
letter_not i one =
    let size = length-equivalent one.product (refl, one.positive) tt in absurd (omega (arith, size))

-- A generator that divides both words.
pub record IsShared (n : ℕ) (u v : List Letter) (i : ℕ) : Type 0 where
  pub first : Divides n (generator i ∷ []) u
  pub second : Divides n (generator i ∷ []) v

-- some generator divides both or none
pub shared_or
    : {n : ℕ} {u v : List Letter}
    → IsOn n u
    → IsOn n v
    → IsPositiveWord u
    → IsPositiveWord v
    → ((i : ℕ) × IsShared n u v i) ⊎ SharesNone n u v
shared_or {n} {u} {v} on_u on_v positive_u positive_v =
    let x = identity n in
    let order = IsOrder-identity n in
    elim (turned_below x (first_order u x) (first_order v x) n) [
      | inl found ↦
          inl (
            found.index,
            record {
              first = divides_turned found.index on_u positive_u order found.low found.high found.first;
              second = divides_turned found.index on_v positive_v order found.low found.high found.second;
            },
          )
      | inr none ↦
          inr (λ i one two.
          none i (Divides-on one).0.0 (Divides-on one).0.1 (turned_divides i positive_u order one)
          (turned_divides i positive_v order two))
    ]

-- the first letter of a divisor divides
Divides-letter
    : {n : ℕ} {w : List Letter} (c : Letter) (e : List Letter)
    → IsPositiveWord (c ∷ e)
    → Divides n (c ∷ e) w
    → Divides n (generator c.index ∷ []) w
Divides-letter {n} {w} c e positive divides =
    Divides-front (generator c.index ∷ []) e positive.1
    (subst (λ l. Divides n (l ∷ e) w) (letter_positive c positive.0) divides)

-- a common divisor of words that share no letter is empty
pub shared_nil
    : {n : ℕ} {u v : List Letter}
    → SharesNone n u v
    → (e : List Letter)
    → IsPositiveWord e
    → Divides n e u
    → Divides n e v
    → e ≡ []
shared_nil none [] positive first second = refl
shared_nil none (c ∷ e) positive first second =
    absurd (none c.index (Divides-letter c e positive first) (Divides-letter c e positive second))
