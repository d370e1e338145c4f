-- What the functions that keep one line answer. No public clause cites this module.
--
--   replay_of held          the replay that the code holds
--   replay_to claim         the replay that has come to a claim
--   state_of held           the state that the code holds
--   stop_of error           why a line isn't kept that wasn't read
--   Keeps result kept       what was answered is what is due, unless memory ran out
--   StepsTo result stepped  the same of the word that a step leads to
use Rattle.std.specs.Prelude.{List, Option, Some, None, Result}
use Rattle.wb_base.specs.Memory.{UnlessMemory}
use Rattle.braid_word.specs.Words.{Letter}
use Rattle.trace_format.specs.declared.line.LineErr.{LineErr}
use Rattle.trace_format.specs.declared.line.LineErr.TheVariants as line_errors
use Rattle.trace_check.specs.Accepted.{Claim}
use Rattle.trace_check.specs.Checking.{cause_of}
use Rattle.trace_check.specs.declared.checked.Why.{Why}
use Rattle.trace_check.specs.States.{Replay, State}
use Rattle.trace_check.specs.States as due
use Rattle.trace_check.specs.declared.due.Due.{Due}
use Rattle.trace_check.specs.declared.due.Due.TheVariants as held
use Rattle.trace_check.specs.declared.replay.Replay.{Replay as Held}
use Rattle.trace_check.specs.declared.keep.Stop.{Stop}
use Rattle.trace_check.specs.declared.keep.Stop.TheVariants.{Refused, Memory}

-- What the code holds of a file, as what was read of it.
abbrev pub replay_of : Held → Replay
replay_of r = record { left = r.left; right = r.right; present = r.present; steps = r.steps }

-- The replay that has come to a claim.
abbrev pub replay_to : Claim → Replay
replay_to claim =
    record { left = claim.left; right = claim.right; present = claim.witness; steps = claim.steps }

abbrev pub state_of : Due → State
state_of held.Start = due.start
state_of held.Left = due.left
state_of (held.Right w) = due.right w
state_of (held.RightTerm w) = due.right_term w
state_of (held.Step r) = due.step (replay_of r)
state_of (held.Witness r verdict) = due.witness (replay_of r) verdict
state_of (held.Finish claim) = due.finish (replay_to claim) claim.verdict
state_of (held.Passed claim) = due.passed claim

abbrev pub stop_of : LineErr → Stop
stop_of line_errors.Memory = Memory
stop_of line_errors.Long = Refused (cause_of line_errors.Long)
stop_of line_errors.Unknown = Refused (cause_of line_errors.Unknown)
stop_of line_errors.Form = Refused (cause_of line_errors.Form)

-- The cause that an error tells, if it tells one.
abbrev pub why_of : Stop → Option Why
why_of Memory = None
why_of (Refused why) = Some why

abbrev pub Keeps : Result Due Stop → Result State Why → Type 0
Keeps result kept = UnlessMemory state_of why_of result kept

abbrev pub StepsTo : Result (List Letter) Stop → Result (List Letter) Why → Type 0
StepsTo result stepped = UnlessMemory (λ (w : List Letter). w) why_of result stepped
