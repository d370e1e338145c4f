-- The texts of replies.
--
-- Source: this project's own.
--
--   state_text j             the line of a state
--   reply_text jobs reply    the lines of a reply, where these jobs are open behind it
--   CanPut jobs reply        a reply that a session may give while these jobs are open
use Rattle.std.specs.Prelude.{ℕ, List, [], ◌++◌, length, map, codes, decimal, Option, Some, None}
use Rattle.std.specs.List.{flat_map}
use Rattle.wb_base.specs.Lines.{line}
use Rattle.braid_word.specs.declared.sign.Sign.TheVariants.{Empty, Positive, Negative, Mixed}
use Rattle.handle_reduce.specs.declared.progress.Progress.{Progress}
use Rattle.handle_reduce.specs.declared.progress.Progress.TheVariants.{Running, Done, HandlesMet, LengthMet}
use Rattle.trace_format.specs.TraceText.{words, trace_text, handle_step}
use Rattle.trace_format.specs.declared.verdict.Verdict.{Verdict}
use Rattle.trace_format.specs.declared.verdict.Verdict.TheVariants.{Less, Equal, Greater}
use Rattle.session_run.specs.declared.reply.JobLine.{JobLine}
use Rattle.session_run.specs.declared.reply.Reply.{Reply}
use Rattle.session_run.specs.declared.reply.Reply.TheVariants as reply
use Rattle.session_run.specs.Jobs.{Job, state_of, find_job}
use Rattle.session_run.specs.Replies.{line_of}

-- What is said of how a run stands. A mixed sign, which no done run has, says nothing.
abbrev pub progress_word : Progress → List ℕ
progress_word Running = codes " running "
progress_word (Done Empty) = codes " equal "
progress_word (Done (Positive i)) = codes " less "
progress_word (Done (Negative i)) = codes " greater "
progress_word (Done (Mixed i)) = []
progress_word HandlesMet = codes " handles "
progress_word LengthMet = codes " length "

-- The line of a state.
abbrev pub state_text : JobLine → List ℕ
state_text j = codes "state " ++ j.name ++ line (progress_word j.progress ++ decimal j.steps)

-- The verdict of a run that is done.
abbrev pub verdict_at : Progress → Verdict
verdict_at Running = Equal
verdict_at (Done Empty) = Equal
verdict_at (Done (Positive i)) = Less
verdict_at (Done (Negative i)) = Greater
verdict_at (Done (Mixed i)) = Equal
verdict_at HandlesMet = Equal
verdict_at LengthMet = Equal

-- The trace file of a job.
abbrev pub job_trace : Job → List ℕ
job_trace j = trace_text (record {
  header = words j.left j.right;
  steps = map handle_step (state_of j).steps;
  verdict = verdict_at (state_of j).progress;
  witness = (state_of j).present;
})

abbrev pub trace_of : Option Job → List ℕ
trace_of None = []
trace_of (Some j) = job_trace j

-- All jobs: how many, and the line of each in order of opening.
abbrev pub list_text : List Job → List ℕ
list_text jobs = line (codes "jobs " ++ decimal (length jobs)) ++ flat_map state_text (map line_of jobs)

-- The lines of a reply.
abbrev pub reply_text : List Job → Reply → List ℕ
reply_text jobs (reply.Opened name) = codes "opened " ++ line name
reply_text jobs (reply.State j) = state_text j
reply_text jobs (reply.Taken name) = trace_of (find_job name jobs)
reply_text jobs (reply.Closed name) = codes "closed " ++ line name
reply_text jobs reply.List = list_text jobs
reply_text jobs (reply.NoJob name) = codes "no job " ++ line name
reply_text jobs (reply.Twice name) = codes "twice " ++ line name
reply_text jobs reply.Full = line (codes "full")
reply_text jobs (reply.TooLong count) = line (codes "too long " ++ decimal count)
reply_text jobs reply.Memory = []

-- A run that is done with a sign that gives a verdict.
abbrev pub HasVerdict : Progress → Type 0
HasVerdict Running = ⊥
HasVerdict (Done Empty) = Unit {0}
HasVerdict (Done (Positive i)) = Unit {0}
HasVerdict (Done (Negative i)) = Unit {0}
HasVerdict (Done (Mixed i)) = ⊥
HasVerdict HandlesMet = ⊥
HasVerdict LengthMet = ⊥

-- The state isn't that of a run done with a mixed sign.
abbrev pub IsSayable : Progress → Type 0
IsSayable Running = Unit {0}
IsSayable (Done Empty) = Unit {0}
IsSayable (Done (Positive i)) = Unit {0}
IsSayable (Done (Negative i)) = Unit {0}
IsSayable (Done (Mixed i)) = ⊥
IsSayable HandlesMet = Unit {0}
IsSayable LengthMet = Unit {0}

abbrev pub IsOpenDone : Option Job → Type 0
IsOpenDone None = ⊥
IsOpenDone (Some j) = HasVerdict (state_of j).progress

-- A reply that can be written: a job whose trace is taken is open and done, and no state is done with a
-- mixed sign.
abbrev pub CanPut : List Job → Reply → Type 0
CanPut jobs (reply.Opened name) = Unit {0}
CanPut jobs (reply.State j) = IsSayable j.progress
CanPut jobs (reply.Taken name) = IsOpenDone (find_job name jobs)
CanPut jobs (reply.Closed name) = Unit {0}
CanPut jobs reply.List = Unit {0}
CanPut jobs (reply.NoJob name) = Unit {0}
CanPut jobs (reply.Twice name) = Unit {0}
CanPut jobs reply.Full = Unit {0}
CanPut jobs (reply.TooLong count) = Unit {0}
CanPut jobs reply.Memory = ⊥
