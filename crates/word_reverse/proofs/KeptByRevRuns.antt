-- What each turn at a leftmost corner keeps of the places and of the present word, a run keeps (`run-keeps`).
use Rattle.std.proofs.Common.{◌≡◌, ℕ, zero, suc, ◌+◌, ◌≤◌, List, [], ◌∷◌, ◌++◌, length, ltb, Option, Some, None, refl}
use Rattle.std.proofs.lemmas.Bool.{cond_both, ltb-false}
use Rattle.braid_word.specs.Words.{Letter}
use Rattle.word_reverse.specs.Corners.{IsCorner, corner_of, turned_at}
use Rattle.word_reverse.specs.RevRuns.{RevState, begun, reversed, turn_by, turn_of, turns, rev_after}
use Rattle.word_reverse.specs.declared.progress.RevProgress.{RevProgress}
use Rattle.word_reverse.specs.declared.progress.RevProgress.TheVariants.{Running, Done, StepsMet, LengthMet}
use Rattle.word_reverse.proofs.CornerLemmas.{corner_of-Some}

module _
    (steps limit : ℕ)
    (P : List ℕ → List Letter → Type 0)
    (kept
    : (places : List ℕ) (v : List Letter) (p : ℕ)
    → IsCorner v p
    → length (turned_at v p) ≤ limit
    → P places v
    → P (places ++ (p + 1) ∷ []) (turned_at v p)) where
  -- It holds of a state.
  abbrev Holds : RevState → Type 0
  Holds s = P s.places s.present

  -- a turn of a running word
  reversed-keeps
      : (s : RevState) (o : Option ℕ)
      → corner_of s.present ≡ o
      → Holds s
      → Holds (reversed steps limit s o)
  reversed-keeps s None found holds = holds
  reversed-keeps s (Some p) found holds =
      cond_both (ltb limit (length (turned_at s.present p))) _ _ Holds (λ _. holds)
      (λ short. kept s.places s.present p (corner_of-Some s.present p found).corner (ltb-false _ _ short)
      holds)

  -- a turn, by the progress
  turn_by-keeps : (s : RevState) (p : RevProgress) → Holds s → Holds (turn_by steps limit s p)
  turn_by-keeps s Running holds = reversed-keeps s (corner_of s.present) refl holds
  turn_by-keeps s Done holds = holds
  turn_by-keeps s StepsMet holds = holds
  turn_by-keeps s LengthMet holds = holds

  -- turns
  turns-keep : (t : ℕ) (s : RevState) → Holds s → Holds (turns steps limit t s)
  unfolding turn_of
  turns-keep zero s holds = holds
  turns-keep (suc t) s holds = turn_by-keeps (turns steps limit t s) _ (turns-keep t s holds)

  -- what each turn at a leftmost corner keeps holds of what a run has reached
  pub run-keeps : (w : List Letter) (t : ℕ) → P [] w → Holds (rev_after w steps limit t)
  unfolding rev_after
  run-keeps w t holds = turns-keep t (begun w steps limit) holds
