-- A run of handle reductions stays with one braid.
--
-- Each reduction is an equivalence, so the word that a run has reached is equivalent to its first
-- word on every number of strands that the first word is on (`EquivalentOn-run_after`).
use Rattle.std.proofs.Common.{ℕ, List, sym, subst}
use Rattle.braid_word.specs.Words.{Letter, IsOn}
use Rattle.braid_word.specs.Equivalence.{EquivalentOn, stay}
use Rattle.braid_word.proofs.EquivalenceLemmas.{on_last, EquivalentOn-trans}
use Rattle.handle_find.specs.Handles.{IsLeftmost, reduct}
use Rattle.handle_reduce.specs.Runs.{LimitedRun, run_after, IsRunAfter}
use Rattle.handle_find.proofs.ReductLemmas.{EquivalentOn-reduct}
use Rattle.handle_reduce.proofs.KeptByRuns.{present-keeps}

-- a reduct is equivalent to what the present word is equivalent to
EquivalentOn-next
    : (n : ℕ) (w v : List Letter) (p q : ℕ)
    → IsLeftmost v p q
    → EquivalentOn n w v
    → EquivalentOn n w (reduct v p q)
EquivalentOn-next n w v p q leftmost chain =
    EquivalentOn-trans chain (EquivalentOn-reduct n v p q leftmost.handle (on_last chain))

-- a word on n strands and the word that its run has reached are equivalent on n strands
pub EquivalentOn-run_after
    : (n : ℕ) (w : List Letter) (handles limit t : ℕ)
    → IsOn n w
    → EquivalentOn n w (run_after w handles limit t).present
EquivalentOn-run_after n w handles limit t on =
    present-keeps (EquivalentOn n w) (EquivalentOn-next n w) w handles limit t (stay on)

-- the present word of a reducer is equivalent to the first word of its run
pub IsRunAfter-equivalent
    : (w : List Letter) (handles limit t n : ℕ) (r : LimitedRun)
    → IsRunAfter w handles limit t r
    → IsOn n w
    → EquivalentOn n w r.run.present
IsRunAfter-equivalent w handles limit t n r is on =
    subst (λ s. EquivalentOn n w s.run.present) (sym is) (EquivalentOn-run_after n w handles limit t on)
