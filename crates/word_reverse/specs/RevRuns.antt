-- Right reversing with limits: what a run has reached after some turns.
--
-- A run of a word with a limit on its steps and one on the length of its words turns the leftmost corner,
-- again and again. It ends where no corner is left, where that many corners were turned and one is left, or
-- where the next word would be too long: such a word isn't taken. It ends at once where the word itself is
-- too long.
-- Source: the reversing is after P. Dehornoy, Groups with a complemented presentation, 1997; the limits, the
-- order in which they are tested and the turns are this project's.
--
--   RevState                        how the run stands, the places that it turned at, and the present word
--   judged steps made found         how it stands at a word that isn't too long
--   begun w steps limit             the run before its first turn
--   turn_of steps limit s           one more turn
--   turns steps limit t s           t more turns
--   rev_after w steps limit t       the run after t turns
--   RevRun                          the limits of a run, and what it has reached
--   IsRevAfter w steps limit t r    r is the run of w with these limits after t turns
--   turned r t                      r after t more turns
--
-- The laws stand in `proofs/RevRunLemmas.antt` and `proofs/RevRunEquivalence.antt`.
use Rattle.std.specs.Prelude.{◌≡◌, ℕ, suc, zero, ◌+◌, ◌==◌, nat_lt, if◌then◌else◌, List, [], ◌∷◌, ◌++◌, length, Option, Some, None}
use Rattle.braid_word.specs.Words.{Letter}
use Rattle.word_reverse.specs.Corners.{corner_of, turned_at}
use Rattle.word_reverse.specs.declared.progress.RevProgress.{RevProgress}
use Rattle.word_reverse.specs.declared.progress.RevProgress.TheVariants.{Running, Done, StepsMet, LengthMet}

-- How a run stands. A step is the place of the corner that was turned, counted from 1 in the word before it.
pub record RevState : Type 0 where
  pub progress : RevProgress
  pub places : List ℕ
  pub present : List Letter

-- How a run stands that has made this many steps and has reached a word that isn't too long, which has this
-- leftmost corner, if any.
abbrev pub judged : ℕ → ℕ → Option ℕ → RevProgress
judged steps made None = Done
judged steps made (Some _) = if made == steps then StepsMet else Running

-- Before the first turn. A word that is too long is seen here.
abbrev pub begun : List Letter → ℕ → ℕ → RevState
begun w steps limit = record {
  progress = if nat_lt limit (length w) then LengthMet else judged steps 0 (corner_of w);
  places = [];
  present = w;
}

-- The next word, behind a corner turned at this place, where it isn't too long.
abbrev pub taken : ℕ → ℕ → RevState → ℕ → List Letter → RevState
taken steps limit s p next =
    if nat_lt limit (length next)
    then record s { progress = LengthMet }
    else (record {
      progress = judged steps (length s.places + 1) (corner_of next);
      places = s.places ++ (p + 1) ∷ [];
      present = next;
    })

-- The leftmost corner of the present word is turned, if there is one.
abbrev pub reversed : ℕ → ℕ → RevState → Option ℕ → RevState
reversed steps limit s None = s
reversed steps limit s (Some p) = taken steps limit s p (turned_at s.present p)

-- One more turn. A run that has ended stays as it is.
abbrev pub turn_by : ℕ → ℕ → RevState → RevProgress → RevState
turn_by steps limit s Running = reversed steps limit s (corner_of s.present)
turn_by steps limit s Done = s
turn_by steps limit s StepsMet = s
turn_by steps limit s LengthMet = s

unfoldable pub turn_of : ℕ → ℕ → RevState → RevState
turn_of steps limit s = turn_by steps limit s s.progress

-- That many turns more.
abbrev pub turns : ℕ → ℕ → ℕ → RevState → RevState
turns steps limit zero s = s
turns steps limit (suc t) s = turn_of steps limit (turns steps limit t s)

-- The run of a word with these limits, on steps and on letters, after some turns.
unfoldable pub rev_after : List Letter → ℕ → ℕ → ℕ → RevState
rev_after w steps limit t = turns steps limit t (begun w steps limit)

-- ---- What a reverser is seen as ----

-- The limits of a run, and what it has reached.
pub record RevRun : Type 0 where
  pub steps : ℕ
  pub limit : ℕ
  pub run : RevState

-- It is the run of w with these limits after t turns.
abbrev pub IsRevAfter : List Letter → ℕ → ℕ → ℕ → RevRun → Type 0
IsRevAfter w steps limit t r =
    r ≡ record { steps = steps; limit = limit; run = rev_after w steps limit t }

-- More turns of a run.
abbrev pub turned : RevRun → ℕ → RevRun
turned r t = record r { run = turns r.steps r.limit t r.run }
