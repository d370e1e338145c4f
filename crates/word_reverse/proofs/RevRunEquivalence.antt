-- A run of right reversing stays with one braid.
--
-- Each turned corner is an equivalent word, so the word that a run has reached is equivalent to its first
-- word on every number of strands that the first word is on (`EquivalentOn-rev_after`), and the fraction of
-- a run that is done represents the braid of the first word (`IsRevAfter-fraction`).
use Rattle.std.proofs.Common.{◌≡◌, ℕ, List, length, take, drop, None, sym, subst}
use Rattle.braid_word.specs.Words.{Letter, inverse, IsOn}
use Rattle.braid_word.specs.Equivalence.{EquivalentOn, stay}
use Rattle.braid_word.proofs.EquivalenceLemmas.{on_last, EquivalentOn-trans}
use Rattle.word_reverse.specs.Corners.{corner_of}
use Rattle.word_reverse.specs.Fractions.{positive_front, IsFraction}
use Rattle.word_reverse.specs.RevRuns.{RevRun, rev_after, IsRevAfter}
use Rattle.word_reverse.proofs.CornerLemmas.{EquivalentOn-turned}
use Rattle.word_reverse.proofs.FractionLemmas.{IsSplit-cut, IsFraction-split}
use Rattle.word_reverse.proofs.KeptByRevRuns.{run-keeps}

-- a word on n strands and the word that its run has reached are equivalent on n strands
pub EquivalentOn-rev_after
    : (n : ℕ) (w : List Letter) (steps limit t : ℕ)
    → IsOn n w
    → EquivalentOn n w (rev_after w steps limit t).present
EquivalentOn-rev_after n w steps limit t on =
    run-keeps steps limit (λ places v. EquivalentOn n w v)
    (λ places v p corner short chain.
    EquivalentOn-trans chain (EquivalentOn-turned n v p (on_last chain) corner))
    w t (stay on)

-- the present word of a reverser is equivalent to the first word of its run
pub IsRevAfter-equivalent
    : (w : List Letter) (steps limit t n : ℕ) (r : RevRun)
    → IsRevAfter w steps limit t r
    → IsOn n w
    → EquivalentOn n w r.run.present
IsRevAfter-equivalent w steps limit t n r is on =
    subst (λ s. EquivalentOn n w s.run.present) (sym is) (EquivalentOn-rev_after n w steps limit t on)

-- where it has no corner, it is cut into a fraction of that word
pub IsRevAfter-fraction
    : (w : List Letter) (steps limit t k : ℕ) (r : RevRun)
    → IsRevAfter w steps limit t r
    → corner_of r.run.present ≡ None
    → k ≡ length (positive_front r.run.present)
    → IsFraction w (take k r.run.present) (inverse (drop k r.run.present))
IsRevAfter-fraction w steps limit t k r is none front =
    IsFraction-split w r.run.present _ _ (λ n on. IsRevAfter-equivalent w steps limit t n r is on)
    (IsSplit-cut r.run.present k none front)
