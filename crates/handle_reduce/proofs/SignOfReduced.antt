-- The sign of a run that is done.
--
-- Such a run has reached a word without a handle, so its sign isn't mixed (`run_after-Mixed`).
use Rattle.std.proofs.Common.{◌≡◌, ℕ, List, sym}
use Rattle.braid_word.specs.Words.{Letter}
use Rattle.braid_word.specs.declared.sign.Sign.TheVariants.{Mixed}
use Rattle.handle_reduce.specs.Runs.{run_after}
use Rattle.handle_reduce.specs.declared.progress.Progress.TheVariants.{Done}
use Rattle.handle_reduce.proofs.RunLemmas.{run_after-Done}
use Rattle.handle_find.proofs.NoHandleLemmas.{HasNoHandle-Mixed}

-- a run that is done has no mixed sign
pub run_after-Mixed
    : (w : List Letter) (handles limit t i : ℕ)
    → (run_after w handles limit t).progress ≡ Done (Mixed i)
    → ⊥
run_after-Mixed w handles limit t i is =
    let (none, sign) = run_after-Done w handles limit t (Mixed i) is in
    HasNoHandle-Mixed i (run_after w handles limit t).present none (sym sign)
