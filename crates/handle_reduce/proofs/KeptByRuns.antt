-- What each reduction at a leftmost handle keeps, a run keeps (`present-keeps`).
use Rattle.std.proofs.Common.{◌≡◌, ℕ, zero, suc, List, length, ltb, Option, Some, None, refl}
use Rattle.std.proofs.lemmas.Bool.{cond_both}
use Rattle.braid_word.specs.Words.{Letter}
use Rattle.handle_find.specs.Handles.{IsLeftmost, leftmost_of, reduct}
use Rattle.handle_find.proofs.HandleLemmas.{leftmost_of-Some}
use Rattle.handle_reduce.specs.Runs.{RunState, begun, reduced, turn_by, turn_of, turns, run_after}
use Rattle.handle_reduce.specs.declared.progress.Progress.{Progress}
use Rattle.handle_reduce.specs.declared.progress.Progress.TheVariants.{Running, Done, HandlesMet, LengthMet}

module _
    (P : List Letter → Type 0)
    (kept : (v : List Letter) (p q : ℕ) → IsLeftmost v p q → P v → P (reduct v p q)) where
  -- a turn of a running word
  reduced-keeps
      : (handles limit : ℕ) (s : RunState) (o : Option (ℕ × ℕ))
      → leftmost_of s.present ≡ o
      → P s.present
      → P (reduced handles limit s o).present
  reduced-keeps handles limit s None found holds = holds
  reduced-keeps handles limit s (Some (p, q)) found holds =
      cond_both (ltb limit (length (reduct s.present p q))) _ _ (λ (z : RunState). P z.present)
      (λ _. holds)
      (λ _. kept s.present p q (leftmost_of-Some s.present p q found) holds)

  -- a turn, by the progress
  turn_by-keeps
      : (handles limit : ℕ) (s : RunState) (p : Progress)
      → P s.present
      → P (turn_by handles limit s p).present
  turn_by-keeps handles limit s Running holds =
      reduced-keeps handles limit s (leftmost_of s.present) refl holds
  turn_by-keeps handles limit s (Done sign) holds = holds
  turn_by-keeps handles limit s HandlesMet holds = holds
  turn_by-keeps handles limit s LengthMet holds = holds

  -- turns
  turns-keep
      : (handles limit t : ℕ) (s : RunState)
      → P s.present
      → P (turns handles limit t s).present
  unfolding turn_of
  turns-keep handles limit zero s holds = holds
  turns-keep handles limit (suc t) s holds =
      turn_by-keeps handles limit (turns handles limit t s) _ (turns-keep handles limit t s holds)

  -- what each reduction at a leftmost handle keeps holds of the word that a run has reached
  pub present-keeps
      : (w : List Letter) (handles limit t : ℕ)
      → P w
      → P (run_after w handles limit t).present
  unfolding run_after
  present-keeps w handles limit t holds = turns-keep handles limit t (begun w handles limit) holds
