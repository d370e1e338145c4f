-- What answers an input: each line by itself, at the jobs that the lines before it have left.
--
-- Source: this project's own.
--
--   jobs_after jobs line     the jobs behind a line; a line that is no command changes nothing
--   answer_to jobs line      the text that answers a line
--   answers jobs lines       the text that answers lines, the first first
--   session_answer input     the status and the text of a session over a whole input
--
--   Talk                     the jobs, the bytes behind the last LF, and all text so far
--   heard t byte             what a byte makes of it
--   heard_all t bytes        what bytes make of it, the first first
--
-- No public clause cites the last three.
use Rattle.std.specs.Prelude.{ℕ, ◌==◌, nat_lt, if◌then◌else◌, List, [], ◌∷◌, ◌++◌, length, take, codes, decimal, Option, Some, None}
use Rattle.wb_base.specs.Lines.{line, lines_of, whole_lines}
use Rattle.wb_base.specs.Status.{Answer, answer}
use Rattle.wb_base.specs.declared.status.Status.TheVariants.{Done, Limit}
use Rattle.session_run.specs.declared.TheConstants.{MAX_INPUT}
use Rattle.session_run.specs.declared.command.Command.{Command}
use Rattle.session_run.specs.CommandLines.{command_of}
use Rattle.session_run.specs.Jobs.{Job, after}
use Rattle.session_run.specs.Replies.{reply_to}
use Rattle.session_run.specs.ReplyText.{reply_text}

abbrev pub jobs_by : List Job → Option Command → List Job
jobs_by jobs None = jobs
jobs_by jobs (Some c) = after jobs c

-- The jobs behind a line.
abbrev pub jobs_after : List Job → List ℕ → List Job
jobs_after jobs text = jobs_by jobs (command_of text)

abbrev pub answer_by : List Job → Option Command → List ℕ
answer_by jobs None = line (codes "bad")
answer_by jobs (Some c) = reply_text (after jobs c) (reply_to jobs c)

-- What answers a line.
abbrev pub answer_to : List Job → List ℕ → List ℕ
answer_to jobs text = answer_by jobs (command_of text)

-- What answers lines, the first first.
abbrev pub answers : List Job → List (List ℕ) → List ℕ
answers jobs [] = []
answers jobs (text ∷ texts) = answer_to jobs text ++ answers (jobs_after jobs text) texts

-- ---- Whole inputs ----

-- It says that the input has more bytes than it may have.
abbrev pub limit_line : List ℕ
limit_line = line (codes "limit input " ++ decimal MAX_INPUT)

-- All lines are answered; of an input that is too long, those whose LF stands within the limit, and then
-- the limit is named.
abbrev pub session_answer : List ℕ → Answer
session_answer input =
    if nat_lt MAX_INPUT (length input)
    then answer Limit (answers [] (whole_lines (take MAX_INPUT input)) ++ limit_line)
    else answer Done (answers [] (lines_of input))

-- ---- Byte by byte ----

-- The jobs, what stands behind the last LF, and all text that was given.
pub record Talk : Type 0 where
  pub jobs : List Job
  pub rest : List ℕ
  pub text : List ℕ

-- What a byte makes of it: at an LF the line is answered.
abbrev pub heard : Talk → ℕ → Talk
heard t byte =
    if byte == 10
    then (record { jobs = jobs_after t.jobs t.rest; rest = []; text = t.text ++ answer_to t.jobs t.rest })
    else (record t { rest = t.rest ++ byte ∷ [] })

abbrev pub heard_all : Talk → List ℕ → Talk
heard_all t [] = t
heard_all t (byte ∷ bytes) = heard_all (heard t byte) bytes

-- Nothing was heard.
abbrev pub silent : Talk
silent = record { jobs = []; rest = []; text = [] }

-- What answers a last line without LF, which is none where no byte stands behind the last LF. No public
-- clause cites it.
abbrev pub last_answer : List Job → List ℕ → List ℕ
last_answer jobs [] = []
last_answer jobs (byte ∷ bytes) = answer_to jobs (byte ∷ bytes)
