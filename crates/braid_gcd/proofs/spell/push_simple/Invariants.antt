use Rattle.std.proofs.Common.{◌≡◌, List, ◌++◌, length}
use Rattle.braid_word.specs.Words.{Letter}
use Rattle.perm_braid.specs.Arrangements.{places_of, IsOrder}
use Rattle.perm_braid.specs.SimpleWords.{IsWordOf}
use Rattle.perm_braid.proofs.SortingLemmas.{inversions}
use Rattle.braid_gcd.proofs.spell.push_simple.Given as goal

-- The letters so far and the word of what is left are the whole word.
abbrev pub invariant-loop-i : goal.invariant-loop-i
invariant-loop-i l = record {
  order : IsOrder (length l.fn.braid) l.rest;
  word : (w v : List Letter) → IsWordOf (length l.fn.braid) l.fn.braid w
      → IsWordOf (length l.fn.braid) l.rest v → l.word.items ++ v ≡ l.fn.word.items ++ w;
}

-- What is left has fewer crossings.
abbrev pub decreases-loop-i : goal.decreases-loop-i
decreases-loop-i l = inversions (places_of l.rest)
