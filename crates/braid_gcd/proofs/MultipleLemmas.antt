-- A generator divides a positive word exactly where its pair stands turned in the first order, and two
-- generators that divide a word have their least common multiple as a divisor of it.
--
-- Both go together, by induction on the length: where the pair of the letter i stands turned in the first
-- order of k and a word, what completes k to the least common multiple of both divides the word
-- (`IsMultiple`).
use Rattle.std.proofs.Common.{ℕ, zero, suc, ◌≡◌, ◌⊎◌, inl, inr, ◌+◌, ◌<◌, ◌≤◌, false, List, [], ◌∷◌, length, refl, sym, subst, arith}
use Rattle.std.proofs.lemmas.Bool.{cases_eq, cases_lt}
use Rattle.braid_word.specs.Words.{Letter, IsOn, IsPositiveWord}
use Rattle.braid_word.specs.Equivalence.{EquivalentOn, stay}
use Rattle.braid_word.proofs.CommutingLemmas.{AreNear, EquivalentOn-swap_far, EquivalentOn-braid}
use Rattle.braid_word.proofs.EquivalenceLemmas.{EquivalentOn-sym}
use Rattle.perm_braid.specs.Arrangements.{swapped, identity, IsOrder}
use Rattle.perm_braid.specs.SimpleWords.{generator}
use Rattle.perm_braid.proofs.PlaceLemmas.{IsOrder-identity}
use Rattle.perm_braid.proofs.SwapLemmas.{IsOrder-swapped}
use Rattle.garside_form.proofs.SettleLemmas.{settle}
use Rattle.braid_gcd.specs.Divisors.{Divides}
use Rattle.braid_gcd.proofs.PositiveLemmas.{length-equivalent}
use Rattle.braid_gcd.proofs.DivideLemmas.{Divides-on, Divides-on_rest, Divides-first, Divides-last, Divides-front, Divides-after}
use Rattle.braid_gcd.proofs.FirstOrderLemmas.{first_order, first_order-equivalent, letter_positive, IsTurned, turned_not, turned_first}
use Rattle.braid_gcd.proofs.TurnedLemmas.{AreApart, turned_far, turned_near, turned_near_next}

-- ---- Multiples ----

-- Each letter whose pair stands turned in the first order of a positive word of at most so many letters
-- divides the word.
abbrev pub AreDivided : ℕ → ℕ → Type 0
AreDivided n most =
    (w : List Letter) (x : List ℕ) (i : ℕ) → length w ≤ most → IsOn n w → IsPositiveWord w → IsOrder n x
    → 1 ≤ i → i < n → IsTurned x (first_order w x) i → Divides n (generator i ∷ []) w

-- The least common multiple of two letters: what stands behind each, and that what stands behind the second
-- divides what stands behind it in a word that the first divides.
pub record IsMultiple (n i k : ℕ) (c d : List Letter) : Type 0 where
  pub first : IsPositiveWord c
  pub second : IsPositiveWord d
  pub same : EquivalentOn n (generator i ∷ c) (generator k ∷ d)
  pub least : (most : ℕ) → AreDivided n most → (w : List Letter) (x : List ℕ) → length w ≤ most
      → IsOn n w → IsPositiveWord w → IsOrder n x → IsTurned x (first_order (generator k ∷ w) x) i
      → Divides n d w

-- of far letters it is their product
multiple_far
    : (n i k : ℕ)
    → AreApart i k
    → 1 ≤ i
    → i < n
    → 1 ≤ k
    → k < n
    → IsMultiple n i k (generator k ∷ []) (generator i ∷ [])
multiple_far n i k far low high low_k high_k = record {
  first = (refl, tt);
  second = (refl, tt);
  same = EquivalentOn-swap_far n (generator i) (generator k) far ((low, high), ((low_k, high_k), tt));
  least = λ most divided w x few on positive order turned.
      divided w (swapped k x) i few on positive (IsOrder-swapped order k low_k high_k) low high
      (turned_far (first_order w (swapped k x)) k i far order low_k high_k low high turned);
}

-- what stands behind the second of two near letters is divided
near_least
    : (n i k most : ℕ)
    → AreNear i k
    → 1 ≤ i
    → i < n
    → 1 ≤ k
    → k < n
    → AreDivided n most
    → (w : List Letter) (x : List ℕ)
    → length w ≤ most
    → IsOn n w
    → IsPositiveWord w
    → IsOrder n x
    → IsTurned x (first_order (generator k ∷ w) x) i
    → Divides n (generator i ∷ generator k ∷ []) w
near_least n i k most near low high low_k high_k divided w x few on positive order turned =
    let y = swapped k x in
    let z = swapped i y in
    let in_y = IsOrder-swapped order k low_k high_k in
    let in_z = IsOrder-swapped in_y i low high in
    let found = turned_near (first_order w y) k i near order low_k high_k low high turned in
    let first = divided w y i few on positive in_y low high found.here in
    let longer : IsPositiveWord (generator i ∷ first.rest) = (refl, first.positive) in
    let same : first_order w y ≡ settle y z (first_order first.rest z) =
    first_order-equivalent (EquivalentOn-sym first.product) positive longer in_y in
    let size = length-equivalent first.product longer positive in
    let wide : IsTurned x (settle y z (first_order first.rest z)) i =
    subst (λ h. IsTurned x h i) same found.wide in
    let second = divided first.rest z k (omega (arith, size, few)) (Divides-on_rest first) first.positive in_z
    low_k high_k (turned_near_next (first_order first.rest z) k i near order low_k high_k low high wide) in
    Divides-last (Divides-after (generator i ∷ []) (generator k ∷ []) first.rest (Divides-on first) second)
    first.product

-- of near letters it is a side of the braid relation
multiple_near
    : (n i k : ℕ)
    → AreNear i k
    → 1 ≤ i
    → i < n
    → 1 ≤ k
    → k < n
    → IsMultiple n i k (generator k ∷ generator i ∷ []) (generator i ∷ generator k ∷ [])
multiple_near n i k near low high low_k high_k = record {
  first = (refl, (refl, tt));
  second = (refl, (refl, tt));
  same = EquivalentOn-braid n i k false near ((low, high), ((low_k, high_k), tt));
  least = λ most. near_least n i k most near low high low_k high_k;
}

-- different indices are near or apart
near_or_apart : (i k : ℕ) → (i ≡ k → ⊥) → AreNear i k ⊎ AreApart i k
near_or_apart i k other = elim (cases_lt i k) [
  | inl less ↦ elim (cases_eq k (i + 1)) [
    | inl next ↦ inl (inl next)
    | inr past ↦ inr (inl (omega arith))
  ]
  | inr more ↦ elim (cases_eq i (k + 1)) [
    | inl next ↦ inl (inr next)
    | inr past ↦ inr (inr (omega arith))
  ]
]

-- different letters have a least common multiple
pub multiple_exists
    : (n i k : ℕ)
    → (i ≡ k → ⊥)
    → 1 ≤ i
    → i < n
    → 1 ≤ k
    → k < n
    → (c : List Letter) × (d : List Letter) × IsMultiple n i k c d
multiple_exists n i k other low high low_k high_k = elim (near_or_apart i k other) [
  | inl near ↦ (
    generator k ∷ generator i ∷ [],
    generator i ∷ generator k ∷ [],
    multiple_near n i k near low high low_k high_k,
  )
  | inr far ↦ (
    generator k ∷ [],
    generator i ∷ [],
    multiple_far n i k far low high low_k high_k,
  )
]

-- ---- Turned pairs and divisors ----

-- one letter more in front
divided_letter
    : (n most : ℕ)
    → AreDivided n most
    → (k : ℕ) (w : List Letter) (x : List ℕ) (i : ℕ)
    → length w ≤ most
    → IsOn n (generator k ∷ w)
    → IsPositiveWord w
    → IsOrder n x
    → 1 ≤ i
    → i < n
    → IsTurned x (first_order (generator k ∷ w) x) i
    → Divides n (generator i ∷ []) (generator k ∷ w)
divided_letter n most divided k w x i few on positive order low high turned = elim (cases_eq i k) [
  | inl same ↦ record { rest = w; positive = positive; product = rw same (stay on) }
  | inr other ↦
      let (c, d, multiple) = multiple_exists n i k other low high on.0.0 on.0.1 in
      let behind = multiple.least most divided w x few on.1 positive order turned in
      Divides-front (generator i ∷ []) c multiple.first
      (Divides-first multiple.same (Divides-after (generator k ∷ []) d w (on.0, tt) behind))
]

-- a letter whose pair stands turned in the first order divides the word, by induction on its length
divided : (n most : ℕ) → AreDivided n most
divided n most [] x i few on positive order low high turned = absurd (turned_not order i low high turned)
divided n zero (c ∷ w) x i few on positive order low high turned = absurd (omega (arith, few))
divided n (suc most) (c ∷ w) x i few on positive order low high turned =
    let is = letter_positive c positive.0 in
    let front : IsOn n (generator c.index ∷ w) = on in
    let here : IsTurned x (first_order (generator c.index ∷ w) x) i =
    subst (λ l. IsTurned x (first_order (l ∷ w) x) i) is turned in
    subst (λ l. Divides n (generator i ∷ []) (l ∷ w)) (sym is)
    (divided_letter n most (divided n most) c.index w x i (omega (arith, few)) front positive.1 order low high
    here)

-- so it does, whatever the length
pub divides_turned
    : {n : ℕ} {w : List Letter} {x : List ℕ} (i : ℕ)
    → IsOn n w
    → IsPositiveWord w
    → IsOrder n x
    → 1 ≤ i
    → i < n
    → IsTurned x (first_order w x) i
    → Divides n (generator i ∷ []) w
divides_turned {n} {w} {x} i on positive order low high turned =
    divided n (length w) w x i (omega arith) on positive order low high turned

-- and the pair of a letter that divides the word stands turned
pub turned_divides
    : {n : ℕ} {w : List Letter} {x : List ℕ} (i : ℕ)
    → IsPositiveWord w
    → IsOrder n x
    → Divides n (generator i ∷ []) w
    → IsTurned x (first_order w x) i
turned_divides {n} {w} {x} i positive order divides =
    let on = Divides-on divides in
    let front : IsPositiveWord (generator i ∷ divides.rest) = (refl, divides.positive) in
    let same : settle x (swapped i x) (first_order divides.rest (swapped i x)) ≡ first_order w x =
    first_order-equivalent divides.product front positive order in
    subst (λ h. IsTurned x h i) same
    (turned_first (first_order divides.rest (swapped i x)) i order on.0.0 on.0.1)

-- what stands behind the second letter in the multiple divides what stands behind it in a word that the first
-- letter divides
pub multiple_divides
    : {n i k : ℕ} {c d : List Letter} (w : List Letter)
    → IsMultiple n i k c d
    → IsOn n w
    → IsPositiveWord w
    → Divides n (generator i ∷ []) (generator k ∷ w)
    → Divides n d w
multiple_divides {n} {i} {k} w multiple on positive divides =
    let order = IsOrder-identity n in
    let front : IsPositiveWord (generator k ∷ w) = (refl, positive) in
    multiple.least (length w) (divided n (length w)) w (identity n) (omega arith) on positive order
    (turned_divides i front order divides)
