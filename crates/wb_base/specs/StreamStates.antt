-- What the sources and sinks of this crate are seen as.
--
-- Source: this project's own.
--
--   SourceState, SureState   a source in memory, and one of which no call fails
--   SinkState                a sink in memory
--   IsFull sink bytes        bytes come and no room is left
--   is_listed numbers n      whether a number is listed
--   ReaderState              a source over a reader
--   WriterState              a sink over a writer
--   waiting_before waiting   how many bytes wait in such a sink when it takes the next ones
use Rattle.std.specs.Prelude.{ℕ, ◌<◌, ◌≤◌, ◌==◌, Bool, if◌then◌else◌, List, length, Option}
use Rattle.std.specs.List.{list_any}

-- A source in memory: the bytes left, the most that one call gives, the numbers of the calls that fail,
-- and how many calls and faults there were.
pub record SourceState : Type 0 where
  pub left : List ℕ
  pub piece : ℕ
  pub failing : List ℕ
  pub calls : ℕ
  pub faults : ℕ

-- A source in memory of which no call fails.
pub record SureState : Type 0 where
  pub left : List ℕ
  pub piece : ℕ
  pub calls : ℕ

-- A sink in memory: the bytes taken and how many of them wait, the room for all of them, the most that
-- one call takes, the numbers of the calls that fail, and how many calls and faults there were.
pub record SinkState : Type 0 where
  pub taken : List ℕ
  pub waiting : ℕ
  pub room : ℕ
  pub piece : ℕ
  pub failing : List ℕ
  pub calls : ℕ
  pub faults : ℕ

-- Bytes come and no room is left.
abbrev pub IsFull : SinkState → List ℕ → Type 0
IsFull sink bytes = (0 < length bytes) × (sink.room ≤ length sink.taken)

-- Whether this number is listed.
abbrev pub is_listed : List ℕ → ℕ → Bool
is_listed numbers n = list_any (λ m. m == n) numbers

-- A source over a reader: the bytes left, where the reader tells them, and how many reads and faults
-- there were.
pub record ReaderState : Type 0 where
  pub left : Option (List ℕ)
  pub reads : ℕ
  pub faults : ℕ

-- A sink over a writer: the bytes that the writer holds and those that wait behind them, where the
-- writer tells its own; how many wait, whether the writer was flushed and has not been written to since, and
-- how many faults there were.
pub record WriterState : Type 0 where
  pub taken : Option (List ℕ)
  pub waiting : ℕ
  pub flushed : Bool
  pub faults : ℕ

-- How many bytes wait in a sink over a writer when it takes the next ones: none where its 8,192 places were
-- full, since these are written out first.
abbrev pub waiting_before : ℕ → ℕ
waiting_before waiting = if waiting == 8192 then 0 else waiting
