-- The jobs of a session: runs of handle reduction that go on side by side, each by turns of its own.
--
-- A job is opened under a name, with two words and the limits of a run of their quotient. Its state is that
-- run after the sum of its own turns. A run has ended after as many turns as it may make reductions, so a
-- sum is cut there.
-- Source: this project's own.
--
--   Job                   what is kept of a job
--   state_of j            the run of its quotient after its turns
--   more_turns count j    the job with so many turns more
--   find_job name jobs    the open job of a name
--   after jobs c          the jobs after a command
--   after_all jobs cs     the jobs after commands, the first first
use Rattle.std.specs.Prelude.{ℕ, ◌+◌, min, nat_lt, is_some, not, Bool, false, if◌then◌else◌, List, [], ◌∷◌, ◌++◌, length, map, filter, Option, Some, None}
use Rattle.std.specs.Str.{bytes_eq}
use Rattle.braid_word.specs.Words.{Letter, quotient}
use Rattle.braid_word.specs.declared.TheConstants.{MAX_LETTERS}
use Rattle.handle_reduce.specs.Runs.{RunState, run_after}
use Rattle.session_run.specs.declared.TheConstants.{MAX_JOBS}
use Rattle.session_run.specs.declared.command.Command.{Command}
use Rattle.session_run.specs.declared.command.Command.TheVariants.{Begin, Turn, Show, Take, Close, List as ListJobs}

-- ---- One job ----

-- The name and the words that a job was opened with, its limits on reductions and on letters, and the sum
-- of its turns, cut at the first of these.
pub record Job : Type 0 where
  pub name : List ℕ
  pub left : List Letter
  pub right : List Letter
  pub handles : ℕ
  pub limit : ℕ
  pub turns : ℕ

-- How its run stands.
abbrev pub state_of : Job → RunState
state_of j = run_after (quotient j.left j.right) j.handles j.limit j.turns

-- More turns of a job.
abbrev pub more_turns : ℕ → Job → Job
more_turns count j = record j { turns = min j.handles (j.turns + count) }

-- ---- All jobs, in order of opening ----

-- Whether a job has this name.
abbrev pub is_of : List ℕ → Job → Bool
is_of name j = bytes_eq name j.name

-- The job of a name, if one is open.
abbrev pub find_job : List ℕ → List Job → Option Job
find_job name [] = None
find_job name (j ∷ jobs) = if is_of name j then Some j else find_job name jobs

-- More turns of the job of this name.
abbrev pub turn_job : List ℕ → ℕ → List Job → List Job
turn_job name count jobs = map (λ j. if is_of name j then more_turns count j else j) jobs

-- Without the job of this name.
abbrev pub close_job : List ℕ → List Job → List Job
close_job name jobs = filter (λ j. not (is_of name j)) jobs

-- What an opening meets: the name is open, the greatest number of jobs is, the quotient is too long, or
-- nothing of that.
pub data Opening : Type 0 where
  twice : Opening
  full : Opening
  too_long : Opening
  free : Opening

abbrev pub opening_of : List Job → List ℕ → List Letter → List Letter → Opening
opening_of jobs name left right =
    if is_some (find_job name jobs) then twice
    else (if nat_lt (length jobs) MAX_JOBS
    then (if nat_lt MAX_LETTERS (length (quotient left right)) then too_long else free)
    else full)

-- The jobs after an opening: only a free one adds the job, and puts it last.
abbrev pub opened : Opening → Job → List Job → List Job
opened twice job jobs = jobs
opened full job jobs = jobs
opened too_long job jobs = jobs
opened free job jobs = jobs ++ job ∷ []

-- ---- Commands ----

-- The jobs after a command.
abbrev pub after : List Job → Command → List Job
after jobs (Begin name handles limit left right) =
    opened (opening_of jobs name left right)
    (record { name = name; left = left; right = right; handles = handles; limit = limit; turns = 0 }) jobs
after jobs (Turn name count) = turn_job name count jobs
after jobs (Show name) = jobs
after jobs (Take name) = jobs
after jobs (Close name) = close_job name jobs
after jobs ListJobs = jobs

-- The jobs after commands, the first first.
abbrev pub after_all : List Job → List Command → List Job
after_all jobs [] = jobs
after_all jobs (c ∷ cs) = after_all (after jobs c) cs

-- ---- The lines of one name ----

-- Whether a command is on this name.
abbrev pub is_on : List ℕ → Command → Bool
is_on name (Begin own handles limit left right) = bytes_eq name own
is_on name (Turn own count) = bytes_eq name own
is_on name (Show own) = bytes_eq name own
is_on name (Take own) = bytes_eq name own
is_on name (Close own) = bytes_eq name own
is_on name ListJobs = false

-- What becomes of an open job by a command on its own name.
abbrev pub lives : Job → Command → Option Job
lives j (Begin name handles limit left right) = Some j
lives j (Turn name count) = Some (more_turns count j)
lives j (Show name) = Some j
lives j (Take name) = Some j
lives j (Close name) = None
lives j ListJobs = Some j
