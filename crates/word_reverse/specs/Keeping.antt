-- What the functions that keep one line answer. No public clause cites this module.
--
--   replay_of held      the replay that the code holds
--   state_of held       the state that the code holds
--   Keeps result kept   what was answered is what is due, unless memory ran out
--   After result w      what a step answered that has left the word w
use Rattle.std.specs.Prelude.{List, Result, Ok, Err}
use Rattle.wb_base.specs.Memory.{UnlessMemory}
use Rattle.line_file.specs.Keeping.{why_of}
use Rattle.line_file.specs.declared.format.Stop.{Stop}
use Rattle.braid_word.specs.Words.{Letter}
use Rattle.word_reverse.specs.States.{Replay, State}
use Rattle.word_reverse.specs.States as due
use Rattle.word_reverse.specs.declared.due.Replay.{Replay as Held}
use Rattle.word_reverse.specs.declared.due.Due.{Due}
use Rattle.word_reverse.specs.declared.due.Due.TheVariants as held
use Rattle.word_reverse.specs.declared.fraction.ReverseWhy.{ReverseWhy}

-- What the code holds of a file, as what was read of it.
abbrev pub replay_of : Held → Replay
replay_of r = record { word = r.word; present = r.present }

abbrev pub state_of : Due → State
state_of held.Start = due.start
state_of held.Word = due.word
state_of (held.Step r) = due.step (replay_of r)
state_of (held.Right r u) = due.right (replay_of r) u
state_of (held.Finish claim) = due.finish claim
state_of (held.Passed claim) = due.passed claim

abbrev pub Keeps : Result Due (Stop ReverseWhy) → Result State ReverseWhy → Type 0
Keeps result kept = UnlessMemory state_of why_of result kept

-- The word, or why there is none.
abbrev pub After : {X : Type 0} → Result X ReverseWhy → List Letter → Result (List Letter) ReverseWhy
After (Ok done) w = Ok w
After (Err why) w = Err why
