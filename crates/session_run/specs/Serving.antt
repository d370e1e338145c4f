-- What a session over streams has read and given when it ends.
--
-- Source: this project's own.
--
--   settled front               the bytes taken, the last 4,096 of these left out
--   told left                   the bytes that a source has left, as far as it tells them
--   IsCutOff front later given  the text ends within the answer, at a fault of the sink
--   IsShort front given         the text ends before the answer to a line, for want of memory
--   IsTold answer s old new     with this status a sink was told the answer
--   HasServed before now s      all of this, for the bytes taken
--   HasHeard before now ..      the same within a session, IsAtLast at the end of the input, and IsPast
--                               behind its limit; no public clause cites these
use Rattle.std.specs.Prelude.{◌≡◌, ℕ, ◌+◌, ◌-◌, ◌<◌, ◌≤◌, List, [], ◌++◌, length, take, Option, Some, None}
use Rattle.std.specs.Io.KnownBytes.{prepend_known, append_known, IsAtEnd}
use Rattle.wb_base.specs.Lines.{lines_of, whole_lines}
use Rattle.wb_base.specs.Status.{Answer}
use Rattle.wb_base.specs.Streams.{Ends, PutsFront, Rose}
use Rattle.wb_base.specs.declared.status.Status.{Status}
use Rattle.wb_base.specs.declared.status.Status.TheVariants.{Done, Refused, Words, Input, Limit, ReadFault, WriteFault, Memory}
use Rattle.session_run.specs.declared.TheConstants.{MAX_INPUT, MAX_PIECE}
use Rattle.session_run.specs.Jobs.{Job}
use Rattle.session_run.specs.Conversation.{answers, limit_line, session_answer, silent, heard_all}

-- The bytes taken, without the last 4,096 of them: their whole lines were answered in any case.
abbrev pub settled : List ℕ → List ℕ
settled front = take (length front - MAX_PIECE) front

-- The bytes left, and none where they aren't told.
abbrev pub told : Option (List ℕ) → List ℕ
told None = []
told (Some bytes) = bytes

-- A front of the answer to all bytes, with at least the answers to the whole lines among the settled ones.
pub record IsCutOff (front later given : List ℕ) : Type 0 where
  pub more : List ℕ
  pub settles : given ≡ answers [] (whole_lines (settled front)) ++ more
  pub rest : List ℕ
  pub within : (session_answer (front ++ later)).text ≡ given ++ rest

-- Exactly the answers to the lines before one of those taken, at least to the settled whole lines.
pub record IsShort (front given : List ℕ) : Type 0 where
  pub count : ℕ
  pub there : count < length (lines_of front)
  pub settles : length (whole_lines (settled front)) ≤ count
  pub exact : given ≡ answers [] (take count (lines_of front))

-- The whole answer was given, and its status is this; at a fault of the sink a front of it.
abbrev pub IsTold : Answer → Status → Option (List ℕ) → Option (List ℕ) → Type 0
IsTold answer Done old new = (answer.status ≡ Done) × (new ≡ append_known old answer.text)
IsTold answer Limit old new = (answer.status ≡ Limit) × (new ≡ append_known old answer.text)
IsTold answer WriteFault old new = PutsFront old new answer.text
IsTold answer ReadFault old new = Unit {0}
IsTold answer Memory old new = Unit {0}
IsTold answer Refused old new = ⊥
IsTold answer Words old new = ⊥
IsTold answer Input old new = ⊥

-- ---- Within a session ----

-- What was given, for the bytes taken and for what is left.
abbrev pub Leaves : Status → List ℕ → Option (List ℕ) → List ℕ → Type 0
Leaves Done front left given =
    (length front ≤ MAX_INPUT) × IsAtEnd left × (given ≡ answers [] (lines_of front))
Leaves Limit front left given =
    (length front ≡ MAX_INPUT + 1) × (given ≡ answers [] (whole_lines (take MAX_INPUT front)) ++ limit_line)
Leaves ReadFault front left given = given ≡ answers [] (whole_lines front)
Leaves WriteFault front left given = IsCutOff front (told left) given
Leaves Memory front left given = IsShort front given
Leaves Refused front left given = ⊥
Leaves Words front left given = ⊥
Leaves Input front left given = ⊥

-- A fault is that of a stream whose count rose.
abbrev pub Rises : Status → Ends → Ends → Type 0
Rises ReadFault before now = Rose before.reads now.reads
Rises WriteFault before now = Rose before.writes now.writes
Rises Done before now = Unit {0}
Rises Limit before now = Unit {0}
Rises Memory before now = Unit {0}
Rises Refused before now = Unit {0}
Rises Words before now = Unit {0}
Rises Input before now = Unit {0}

-- No byte waits if none waited before, but for a fault of the sink.
abbrev pub Passes : Status → ℕ → ℕ → Type 0
Passes WriteFault before now = Unit {0}
Passes Done before now = before ≡ 0 → now ≡ 0
Passes Limit before now = before ≡ 0 → now ≡ 0
Passes ReadFault before now = before ≡ 0 → now ≡ 0
Passes Memory before now = before ≡ 0 → now ≡ 0
Passes Refused before now = before ≡ 0 → now ≡ 0
Passes Words before now = before ≡ 0 → now ≡ 0
Passes Input before now = before ≡ 0 → now ≡ 0

-- A session has ended.
pub record HasServed (before now : Ends) (status : Status) : Type 0 where
  pub front : List ℕ
  pub short : length front ≤ MAX_INPUT + 1
  pub bytes : before.left ≡ prepend_known front now.left
  pub given : List ℕ
  pub took : now.taken ≡ append_known before.taken given
  pub leaves : Leaves status front now.left given
  pub rises : Rises status before now
  pub later_read : before.reads ≤ now.reads
  pub later_write : before.writes ≤ now.writes
  pub calls : now.calls ≤ before.calls + (MAX_INPUT + 2)
  pub passes : Passes status before.waiting now.waiting

-- So many bytes were heard, and each whole line among them was answered.
pub record HasHeard (before now : Ends) (jobs : List Job) (rest : List ℕ) (count : ℕ) : Type 0 where
  pub front : List ℕ
  pub counted : length front ≡ count
  pub short : count ≤ MAX_INPUT
  pub bytes : before.left ≡ prepend_known front now.left
  pub open_jobs : jobs ≡ (heard_all silent front).jobs
  pub open_line : rest ≡ (heard_all silent front).rest
  pub took : now.taken ≡ append_known before.taken (heard_all silent front).text
  pub later_read : before.reads ≤ now.reads
  pub later_write : before.writes ≤ now.writes
  pub calls : now.calls ≤ before.calls + count
  pub waits : before.waiting ≡ 0 → now.waiting ≡ 0

-- The input has come to its end.
pub record IsAtLast (before now : Ends) (jobs : List Job) (rest : List ℕ) : Type 0 where
  pub front : List ℕ
  pub short : length front ≤ MAX_INPUT
  pub bytes : before.left ≡ prepend_known front now.left
  pub ended : IsAtEnd now.left
  pub open_jobs : jobs ≡ (heard_all silent front).jobs
  pub open_line : rest ≡ (heard_all silent front).rest
  pub took : now.taken ≡ append_known before.taken (heard_all silent front).text
  pub later_read : before.reads ≤ now.reads
  pub later_write : before.writes ≤ now.writes
  pub calls : now.calls ≤ before.calls + (MAX_INPUT + 1)
  pub waits : before.waiting ≡ 0 → now.waiting ≡ 0

-- A byte more than the input may have was taken.
pub record IsPast (before now : Ends) : Type 0 where
  pub front : List ℕ
  pub byte : List ℕ
  pub full : length front ≡ MAX_INPUT
  pub one : length byte ≡ 1
  pub bytes : before.left ≡ prepend_known (front ++ byte) now.left
  pub took : now.taken ≡ append_known before.taken (heard_all silent front).text
  pub later_read : before.reads ≤ now.reads
  pub later_write : before.writes ≤ now.writes
  pub calls : now.calls ≤ before.calls + (MAX_INPUT + 1)
  pub waits : before.waiting ≡ 0 → now.waiting ≡ 0
