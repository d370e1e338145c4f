-- The replies of a session to commands.
--
-- Source: this project's own.
--
--   line_of j               what is said of the state of a job
--   reply_to jobs c         the reply to a command at these jobs
--   replies jobs cs         the replies to commands, the first first
--   IsBegin c               the command opens a job
use Rattle.std.specs.Prelude.{ℕ, Bool, true, false, if◌then◌else◌, List, [], ◌∷◌, length, Option, Some, None}
use Rattle.braid_word.specs.Words.{Letter, quotient}
use Rattle.handle_reduce.specs.declared.progress.Progress.{Progress}
use Rattle.handle_reduce.specs.declared.progress.Progress.TheVariants as progress
use Rattle.session_run.specs.declared.command.Command.{Command}
use Rattle.session_run.specs.declared.command.Command.TheVariants as command
use Rattle.session_run.specs.declared.reply.JobLine.{JobLine}
use Rattle.session_run.specs.declared.reply.Reply.{Reply}
use Rattle.session_run.specs.declared.reply.Reply.TheVariants as reply
use Rattle.session_run.specs.Jobs.{Job, state_of, more_turns, find_job, Opening, twice, full, too_long, free, opening_of, after}

-- The name, how its run stands, and the reductions made.
abbrev pub line_of : Job → JobLine
line_of j = record { name = j.name; progress = (state_of j).progress; steps = length (state_of j).steps }

-- Whether a run has reached a word without a handle.
abbrev pub is_done : Progress → Bool
is_done (progress.Done sign) = true
is_done progress.Running = false
is_done progress.HandlesMet = false
is_done progress.LengthMet = false

abbrev pub opening_reply : Opening → List ℕ → List Letter → List Letter → Reply
opening_reply twice name left right = reply.Twice name
opening_reply full name left right = reply.Full
opening_reply too_long name left right = reply.TooLong (length (quotient left right))
opening_reply free name left right = reply.Opened name

-- The state of the job, if one is open.
abbrev pub state_reply : List ℕ → Option Job → Reply
state_reply name None = reply.NoJob name
state_reply name (Some j) = reply.State (line_of j)

abbrev pub turn_reply : List ℕ → ℕ → Option Job → Reply
turn_reply name count None = reply.NoJob name
turn_reply name count (Some j) = reply.State (line_of (more_turns count j))

abbrev pub take_reply : List ℕ → Option Job → Reply
take_reply name None = reply.NoJob name
take_reply name (Some j) = if is_done (state_of j).progress then reply.Taken name else reply.State (line_of j)

abbrev pub close_reply : List ℕ → Option Job → Reply
close_reply name None = reply.NoJob name
close_reply name (Some j) = reply.Closed name

-- The reply to a command.
abbrev pub reply_to : List Job → Command → Reply
reply_to jobs (command.Begin name handles limit left right) =
    opening_reply (opening_of jobs name left right) name left right
reply_to jobs (command.Turn name count) = turn_reply name count (find_job name jobs)
reply_to jobs (command.Show name) = state_reply name (find_job name jobs)
reply_to jobs (command.Take name) = take_reply name (find_job name jobs)
reply_to jobs (command.Close name) = close_reply name (find_job name jobs)
reply_to jobs command.List = reply.List

-- The replies to commands, the first first.
abbrev pub replies : List Job → List Command → List Reply
replies jobs [] = []
replies jobs (c ∷ cs) = reply_to jobs c ∷ replies (after jobs c) cs

-- It opens a job.
abbrev pub IsBegin : Command → Type 0
IsBegin (command.Begin name handles limit left right) = Unit {0}
IsBegin (command.Turn name count) = ⊥
IsBegin (command.Show name) = ⊥
IsBegin (command.Take name) = ⊥
IsBegin (command.Close name) = ⊥
IsBegin command.List = ⊥
