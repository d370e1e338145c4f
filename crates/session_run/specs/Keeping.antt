-- What a session keeps: jobs in a slab, and under each open name the key of its job, in order of opening.
-- No public clause cites this.
use Rattle.std.specs.Prelude.{◌≡◌, ℕ, ◌≤◌, List, [], map, Option, Some, None}
use Rattle.std.specs.List.{AllByRecursion, IsDistinct}
use Rattle.std.specs.Map.{keys_of, lookup}
use Rattle.std.specs.Str.{bytes_eq}
use Rattle.slab.specs.Slab.{Slab, get}
use Rattle.braid_word.specs.Words.{quotient}
use Rattle.handle_reduce.specs.Runs.{LimitedRun, IsRunAfter}
use Rattle.handle_reduce.specs.declared.TheConstants.{MAX_BOUND}
use Rattle.session_run.specs.Jobs.{Job}

-- A job and its reducer, which is at the run of the job's quotient after the job's turns.
pub record Works (j : Job) (r : LimitedRun) : Type 0 where
  pub few_handles : j.handles ≤ MAX_BOUND
  pub few_turns : j.turns ≤ j.handles
  pub run : IsRunAfter (quotient j.left j.right) j.handles j.limit j.turns r

-- A key has the job of this name.
pub record HasJob (jobs : Slab Job) (entry : List ℕ × ℕ) : Type 0 where
  pub job : Job
  pub found : get jobs entry.1 ≡ Some job
  pub own : job.name ≡ entry.0

-- The job at a key, and some job where there is none.
abbrev pub job_or : Option Job → Job
job_or None = record { name = []; left = []; right = []; handles = 0; limit = 0; turns = 0 }
job_or (Some job) = job

-- The jobs of these keys.
abbrev pub jobs_of : Slab Job → List (List ℕ × ℕ) → List Job
jobs_of jobs entries = map (λ (entry : List ℕ × ℕ). job_or (get jobs entry.1)) entries

-- Each open name has its job.
abbrev pub Keeps : Slab Job → List (List ℕ × ℕ) → Type 0
Keeps jobs entries = AllByRecursion (HasJob jobs) entries

-- Each job stands under the key of its name: a job that was closed isn't kept.
abbrev pub HasKeys : Slab Job → List (List ℕ × ℕ) → Type 0
HasKeys jobs entries =
    (key : ℕ) (job : Job) → get jobs key ≡ Some job → lookup (bytes_eq job.name) entries ≡ Some key

-- No name is open twice, each has its job, and each job its name.
pub record IsKept (jobs : Slab Job) (entries : List (List ℕ × ℕ)) : Type 0 where
  pub distinct : IsDistinct bytes_eq (keys_of entries)
  pub each : Keeps jobs entries
  pub owned : HasKeys jobs entries
