-- Handle reduction with limits: what a run has reached after some turns.
--
-- A run of a word with a limit on its reductions and one on the length of its words replaces the word by
-- its reduct at the leftmost handle, again and again. It ends where no handle is left, where that many
-- reductions were made and a handle is left, or where the next word would be too long: such a reduct
-- isn't taken. It ends at once where the word itself is too long.
-- Source: the reduction is after P. Dehornoy, A fast method for comparing braids, 1997; the limits, the
-- order in which they are tested and the turns are this project's.
--
--   RunState                          how the run stands, the steps made, and the present word
--   judged handles made w found       how it stands at a word that isn't too long
--   begun w handles limit             the run before its first turn
--   turn_of handles limit s           one more turn
--   turns handles limit t s           t more turns
--   run_after w handles limit t       the run after t turns
--   LimitedRun                        the limits of a run, and what it has reached
--   IsRunAfter w handles limit t r    r is the run of w with these limits after t turns
--   turned r t                        r after t more turns
--
-- The laws stand in `proofs/RunLemmas.antt` and `proofs/RunEquivalence.antt`.
use Rattle.std.specs.Prelude.{◌≡◌, ℕ, suc, zero, ◌+◌, ◌==◌, nat_lt, if◌then◌else◌, List, [], ◌∷◌, ◌++◌, length, Option, Some, None}
use Rattle.braid_word.specs.Words.{Letter}
use Rattle.braid_word.specs.Sign.{sign_of}
use Rattle.handle_find.specs.Handles.{leftmost_of, reduct}
use Rattle.handle_reduce.specs.declared.progress.Progress.{Progress}
use Rattle.handle_reduce.specs.declared.progress.Progress.TheVariants.{Running, Done, HandlesMet, LengthMet}

-- How a run stands. A step is the pair of places of the handle that was reduced, counted from 1 in the
-- word before the step.
pub record RunState : Type 0 where
  pub progress : Progress
  pub steps : List (ℕ × ℕ)
  pub present : List Letter

-- How a run stands that has made this many reductions and has reached w, which isn't too long and has
-- this leftmost handle, if any.
abbrev pub judged : ℕ → ℕ → List Letter → Option (ℕ × ℕ) → Progress
judged handles made w None = Done (sign_of w)
judged handles made w (Some _) = if made == handles then HandlesMet else Running

-- Before the first turn. A word that is too long is seen here.
abbrev pub begun : List Letter → ℕ → ℕ → RunState
begun w handles limit = record {
  progress = if nat_lt limit (length w) then LengthMet else judged handles 0 w (leftmost_of w);
  steps = [];
  present = w;
}

-- The next word, where it isn't too long.
abbrev pub taken : ℕ → ℕ → RunState → ℕ × ℕ → List Letter → RunState
taken handles limit s (p, q) next =
    if nat_lt limit (length next)
    then record s { progress = LengthMet }
    else (record {
      progress = judged handles (length s.steps + 1) next (leftmost_of next);
      steps = s.steps ++ (p + 1, q + 1) ∷ [];
      present = next;
    })

-- The leftmost handle of the present word is reduced, if there is one.
abbrev pub reduced : ℕ → ℕ → RunState → Option (ℕ × ℕ) → RunState
reduced handles limit s None = s
reduced handles limit s (Some (p, q)) = taken handles limit s (p, q) (reduct s.present p q)

-- One more turn. A run that has ended stays as it is.
abbrev pub turn_by : ℕ → ℕ → RunState → Progress → RunState
turn_by handles limit s Running = reduced handles limit s (leftmost_of s.present)
turn_by handles limit s (Done sign) = s
turn_by handles limit s HandlesMet = s
turn_by handles limit s LengthMet = s

unfoldable pub turn_of : ℕ → ℕ → RunState → RunState
turn_of handles limit s = turn_by handles limit s s.progress

-- That many turns more.
abbrev pub turns : ℕ → ℕ → ℕ → RunState → RunState
turns handles limit zero s = s
turns handles limit (suc t) s = turn_of handles limit (turns handles limit t s)

-- The run of a word with these limits, on reductions and on letters, after some turns.
unfoldable pub run_after : List Letter → ℕ → ℕ → ℕ → RunState
run_after w handles limit t = turns handles limit t (begun w handles limit)

-- ---- What a reducer is seen as ----

-- The limits of a run, and what it has reached.
pub record LimitedRun : Type 0 where
  pub handles : ℕ
  pub limit : ℕ
  pub run : RunState

-- It is the run of w with these limits after t turns.
abbrev pub IsRunAfter : List Letter → ℕ → ℕ → ℕ → LimitedRun → Type 0
IsRunAfter w handles limit t r =
    r ≡ record { handles = handles; limit = limit; run = run_after w handles limit t }

-- More turns of a run.
abbrev pub turned : LimitedRun → ℕ → LimitedRun
turned r t = record r { run = turns r.handles r.limit t r.run }
