-- The first order of a positive word, and the pairs of neighbours that stand turned in it.
--
-- The first order is where the strands of x stand after the greatest simple braid that divides the word. It
-- is one for equivalent positive words (`first_order-equivalent`), and a first letter's pair stands turned in
-- it (`turned_first`).
use Rattle.std.proofs.Common.{ℕ, ◌≡◌, inl, inr, ◌+◌, ◌<◌, ◌≤◌, false, List, ap, arith}
use Rattle.braid_word.specs.Words.{Letter, letter, IsPositiveWord}
use Rattle.braid_word.specs.Equivalence.{EquivalentOn}
use Rattle.braid_word.proofs.EquivalenceLemmas.{on_first, on_last}
use Rattle.perm_braid.specs.Arrangements.{entry, swapped, IsOrder}
use Rattle.perm_braid.specs.SimpleWords.{generator}
use Rattle.perm_braid.proofs.SwapLemmas.{IsOrder-swapped}
use Rattle.garside_form.proofs.LeadingLemmas.{IsBefore, IsStrand, neighbours_before}
use Rattle.garside_form.proofs.SettleLemmas.{settle, settle-turned, turned_stays}
use Rattle.garside_form.proofs.LevelLemmas.{IsSame}
use Rattle.garside_form.proofs.WordLevelLemmas.{levels}
use Rattle.garside_form.proofs.EquivalentLevelLemmas.{turns_own, IsSame-equivalent}
use Rattle.garside_form.proofs.NaturalLevelLemmas.{same_below}
use Rattle.braid_gcd.proofs.PositiveLemmas.{negatives-positive}

-- ---- First orders ----

-- The first order of the settled sequence of a positive word.
abbrev pub first_order : List Letter → List ℕ → List ℕ
first_order w x = levels w 0 x 0

-- equivalent positive words have one sequence
IsSame-positive
    : {n : ℕ} {u v : List Letter} {x : List ℕ}
    → EquivalentOn n u v
    → IsPositiveWord u
    → IsPositiveWord v
    → IsOrder n x
    → IsSame (levels u 0 x) (levels v 0 x)
IsSame-positive {n} {u} {v} {x} chain first second order =
    let (enough, alike) = IsSame-equivalent chain in
    same_below u v enough (negatives-positive u first) (negatives-positive v second) (on_first chain)
    (on_last chain) order (alike enough x (omega arith) order)

-- so one first order
pub first_order-equivalent
    : {n : ℕ} {u v : List Letter} {x : List ℕ}
    → EquivalentOn n u v
    → IsPositiveWord u
    → IsPositiveWord v
    → IsOrder n x
    → first_order u x ≡ first_order v x
first_order-equivalent chain first second order = IsSame-positive chain first second order 0

-- a letter that is no inverse is a generator
pub letter_positive : (c : Letter) → c.negative ≡ false → c ≡ generator c.index
letter_positive c positive = ap (letter c.index) positive

-- ---- Turned pairs ----

-- The neighbours at the places i and i + 1 of x stand turned in h.
abbrev pub IsTurned : List ℕ → List ℕ → ℕ → Type 0
IsTurned x h i = IsBefore h (entry x (i + 1)) (entry x i)

-- no order turns its own neighbours
pub turned_not : {n : ℕ} {x : List ℕ} → IsOrder n x → (i : ℕ) → 1 ≤ i → i < n → IsTurned x x i → ⊥
turned_not order i low high turned =
    let now = neighbours_before order i low high in absurd (omega (arith, now, turned))

-- the pair of a first letter stands turned
pub turned_first
    : {n : ℕ} {x : List ℕ} (h : List ℕ) (k : ℕ)
    → IsOrder n x
    → 1 ≤ k
    → k < n
    → IsTurned x (settle x (swapped k x) h) k
turned_first {n} {x} h k order low high =
    let one = order.within k low (omega arith) in
    let two = order.within (k + 1) (omega arith) (omega arith) in
    let now = neighbours_before order k low high in
    turned_stays x h (IsOrder-swapped order k low high) (entry x k) (entry x (k + 1)) one two
    (turns_own k order low high)
    (λ wrong _. absurd (omega (arith, now, wrong)))

-- what is turned by settling stands turned behind
pub turned_later
    : {n : ℕ} {y : List ℕ} (x h : List ℕ)
    → IsOrder n y
    → (e f : ℕ)
    → IsStrand n e
    → IsStrand n f
    → IsBefore y e f
    → IsBefore (settle x y h) f e
    → IsBefore h f e
turned_later x h order e f one two now after = elim (settle-turned x h order e f one two after) [
  | inl before ↦ absurd (omega (arith, before, now))
  | inr may ↦ may.1
]
