-- Pairs of simple braids, and how the first takes over what it can from the second.
--
-- Source: D. Epstein and others, Word Processing in Groups, 1992, chapter 9.
--
--   IsGreedy n p q             each left descent of q is a right descent of p
--   IsMove n p q i             the left descent i of q can go over to p
--   Moves n p q p' q'          such moves lead from the pair p, q to the pair p', q'
--   KeepsProduct n p q p' q'   both pairs represent the same braid on n strands
--   CanPass a z i j            the entries a don't fall from the place i to the place j, and the places z do
--   IsStill a z m              that is so of no neighbours at the places below m
--   Passes a z c y             such neighbours are exchanged in both lists, from a, z to c, y
--
-- The laws stand in `proofs/MoveLemmas.antt` and `proofs/PassingLemmas.antt`. No public clause cites the last
-- three.
use Rattle.std.specs.Prelude.{ℕ, ◌+◌, ◌<◌, ◌≤◌, List, ◌++◌, length}
use Rattle.braid_word.specs.Words.{Letter}
use Rattle.braid_word.specs.Equivalence.{EquivalentOn}
use Rattle.perm_braid.specs.Arrangements.{entry, swapped, values_swapped, IsRightDescent, IsLeftDescent}
use Rattle.perm_braid.specs.SimpleWords.{IsWordOf}

-- The first has taken over all that it can: `2 1 3` and `2 3 1` are greedy, `2 1 3` and `1 3 2` aren't.
abbrev pub IsGreedy : ℕ → List ℕ → List ℕ → Type 0
IsGreedy n p q = (i : ℕ) → 1 ≤ i → i < n → IsLeftDescent q i → IsRightDescent p i

-- A left descent of the second that is no right descent of the first.
pub record IsMove (n : ℕ) (p q : List ℕ) (i : ℕ) : Type 0 where
  pub low : 1 ≤ i
  pub high : i < n
  pub left : IsLeftDescent q i
  pub right : IsRightDescent p i → ⊥

-- Moves, one after another: each multiplies the first by s_i on the right, and divides the second by it
-- on the left.
pub data Moves (n : ℕ) : List ℕ → List ℕ → List ℕ → List ℕ → Type 0 where
  done : {p q : List ℕ} → Moves n p q p q
  move : {p q r s : List ℕ} (i : ℕ) → IsMove n p q i → Moves n (swapped i p) (values_swapped i q) r s
      → Moves n p q r s

-- The products of the two pairs of words are equivalent.
abbrev pub KeepsProduct : ℕ → List ℕ → List ℕ → List ℕ → List ℕ → Type 0
KeepsProduct n p q r s =
    (u v x y : List Letter) → IsWordOf n p u → IsWordOf n q v → IsWordOf n r x → IsWordOf n s y
    → EquivalentOn n (u ++ v) (x ++ y)

-- ---- A pair by its entries and places ----

-- A move at i exchanges neighbouring entries of the first, and neighbours in the list of places of the
-- second:
-- so a pair is made greedy in these two lists alone.

-- The entries of the first don't fall from the place i to the place j, and the places of the second do: where
-- j is i + 1, that is a move.
abbrev pub CanPass : List ℕ → List ℕ → ℕ → ℕ → Type 0
CanPass a z i j = (entry z j < entry z i) × (entry a i ≤ entry a j)

-- That is so of no neighbours at the places below this one.
abbrev pub IsStill : List ℕ → List ℕ → ℕ → Type 0
IsStill a z m = (k : ℕ) → 1 ≤ k → k < m → CanPass a z k (k + 1) → ⊥

-- Exchanges of such neighbours, one after another, in the entries of the first and the places of the second.
pub data Passes : List ℕ → List ℕ → List ℕ → List ℕ → Type 0 where
  rest : {a z : List ℕ} → Passes a z a z
  pass : {a z c y : List ℕ} (i : ℕ) → 1 ≤ i → i < length a → CanPass a z i (i + 1)
      → Passes (swapped i a) (swapped i z) c y → Passes a z c y
