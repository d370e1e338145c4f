use Rattle.std.proofs.Common.{ℕ, ◌≡◌, ◌<◌, ◌≤◌, true, false, List, ◌∷◌, length}
use Rattle.braid_word.specs.Words.{Letter}
use Rattle.perm_braid.specs.Arrangements.{places_of, IsOrder}
use Rattle.perm_braid.proofs.SortingLemmas.{inversions}
use Rattle.braid_gcd.specs.Rounds.{IsTakenOut}
use Rattle.braid_gcd.proofs.common.take_common.Given as goal

-- Letters were taken out of both, or none was and both are as they were.
abbrev pub invariant-loop-i : goal.invariant-loop-i
invariant-loop-i l = record {
  first : IsOrder (length l.fn.first) l.first;
  second : IsOrder (length l.fn.first) l.second;
  taken : (n : ℕ) (u v : List Letter) (ps qs : List (List ℕ))
      → IsTakenOut n u v l.fn.divisor.items (l.fn.first ∷ ps) (l.fn.second ∷ qs)
      → IsTakenOut n u v l.divisor.items (l.first ∷ ps) (l.second ∷ qs);
  longer : l.found ≡ true → length l.fn.divisor.items < length l.divisor.items;
  same : l.found ≡ false → (l.first ≡ l.fn.first) × (l.second ≡ l.fn.second);
  least : length l.fn.divisor.items ≤ length l.divisor.items;
}

-- The first has fewer crossings.
abbrev pub decreases-loop-i : goal.decreases-loop-i
decreases-loop-i l = inversions (places_of l.first)
