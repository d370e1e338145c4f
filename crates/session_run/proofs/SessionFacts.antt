-- Worked rows of sessions, at the edges of their definitions.
use Rattle.std.proofs.Common.{◌≡◌, ℕ, List, [], ◌∷◌, map, codes, Some, None, true, false, refl}
use Rattle.braid_word.specs.Words.{letter}
use Rattle.braid_word.specs.Notation.{word_of, number_word_of}
use Rattle.session_run.specs.declared.command.Command.TheVariants.{Begin, Turn, Close}
use Rattle.session_run.specs.CommandLines.{fields_of, command_of}
use Rattle.session_run.specs.Jobs.{Job, more_turns, after_all}

-- spaces before, between and behind fields count for nothing
fields_row : fields_of (codes " turn  a 1 ") ≡ codes "turn" ∷ (codes "a" ∷ (codes "1" ∷ []))
fields_row = refl

-- 100,000 is the greatest number of a line
turn_row : command_of (codes "turn a 100000") ≡ Some (Turn (codes "a") 100000)
unfolding command_of
turn_row = refl

-- and 100,001 is none
turn_past_row : command_of (codes "turn a 100001") ≡ None
unfolding command_of
turn_past_row = refl

-- a number has no leading zero
turn_zero_row : command_of (codes "turn a 01") ≡ None
unfolding command_of
turn_zero_row = refl

-- no other line than one that opens a job has a bar
bar_row : command_of (codes "turn a 1|") ≡ None
unfolding command_of
bar_row = refl

-- a line that opens a job needs no space beside a bar, and its words may be empty
open_row
    : command_of (codes "open x 0 9|1 -2|")
    ≡ Some (Begin (codes "x") 0 9 (letter 1 false ∷ (letter 2 true ∷ [])) [])
unfolding command_of word_of number_word_of
open_row = refl

-- A job that may make 3 reductions, after one turn.
a_job : List ℕ → Job
a_job name = record { name = name; left = []; right = []; handles = 3; limit = 9; turns = 1 }

-- a sum of turns is cut at the limit of reductions
cut_row : (more_turns 5 (a_job (codes "a"))).turns ≡ 3
unfolding a_job
cut_row = refl

-- a name that is closed and opened again stands last
order_row
    : map (λ (j : Job). j.name)
    (after_all (a_job (codes "a") ∷ (a_job (codes "b") ∷ []))
    (Close (codes "a") ∷ (Begin (codes "a") 3 9 [] [] ∷ [])))
    ≡ codes "b" ∷ (codes "a" ∷ [])
unfolding a_job
order_row = refl
