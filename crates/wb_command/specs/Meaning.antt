-- What a command means: the answers that an input has, and what these say of it.
--
-- Source: this project's own.
--
--   Reads                what a command reads: nothing, its whole input before it answers, or that in pieces
--   Meaning              its answers, and what a text of one says of the input
--   HasAnswer m input a  a is an answer to the input, whose length is limited
--   IsSound m            an input has one answer at most, and what a text says holds
--   HasRun m ..          what a run over a source and a sink leaves, with its status
use Rattle.std.specs.Prelude.{◌≡◌, ◌≢◌, ◌⊎◌, ℕ, ◌+◌, ◌<◌, ◌≤◌, List, [], length, drop, Bool, true, false, Option, IfSome}
use Rattle.std.specs.Option.{option_map}
use Rattle.std.specs.Io.KnownBytes.{append_known}
use Rattle.wb_base.specs.Streams.{Ends, Rose, Skips}
use Rattle.wb_base.specs.Status.{Answer}
use Rattle.wb_base.specs.declared.status.Status.{Status}
use Rattle.wb_base.specs.declared.status.Status.TheVariants.{Done, Refused, ReadFault, WriteFault, Memory}
use Rattle.wb_command.specs.declared.TheConstants.{MAX_INPUT}
use Rattle.wb_command.specs.Answers.{IsTold, IsEnding}
use Rattle.wb_command.specs.Refusals.{input_met}

-- ---- Meanings ----

pub data Reads : Type 0 where
  reads_nothing : Reads
  reads_whole : Reads
  reads_pieces : Reads

abbrev pub is_whole : Reads → Bool
is_whole reads_nothing = false
is_whole reads_whole = true
is_whole reads_pieces = false

-- `says` and `refuses` are of the input and of a text with status Done and Refused; most commands refuse
-- nothing. `serves` says what a command has read and written that answers in pieces.
pub record Meaning : Type 1 where
  pub reads : Reads
  pub answers : List ℕ → Answer → Type 0
  pub says : List ℕ → List ℕ → Type 0
  pub refuses : List ℕ → List ℕ → Type 0
  pub serves : Ends → Ends → Status → Type 0

-- An input that is read whole has a limit. What is read in pieces has its own.
pub data HasAnswer (m : Meaning) (input : List ℕ) (a : Answer) : Type 0 where
  past_limit : m.reads ≡ reads_whole → MAX_INPUT < length input → input_met ≡ a
      → HasAnswer m input a
  in_limit : (m.reads ≡ reads_whole → length input ≤ MAX_INPUT) → m.answers input a → HasAnswer m input a

pub record IsSound (m : Meaning) : Type 0 where
  pub one : (input : List ℕ) (a b : Answer) → m.answers input a → m.answers input b → a ≡ b
  pub promised : (input : List ℕ) (a : Answer) → m.answers input a → a.status ≡ Done → m.says input a.text
  pub refused : (input : List ℕ) (a : Answer) → m.answers input a → a.status ≡ Refused
      → m.refuses input a.text
  pub alone : m.reads ≡ reads_nothing → (input other : List ℕ) (a : Answer) → m.answers input a
      → m.answers other a
  pub plain : m.reads ≢ reads_pieces → (before now : Ends) (s : Status) → m.serves before now s

-- ---- Runs ----

-- The sink has taken the text of an answer to the input of which this holds.
abbrev pub HasWritten : Meaning → (List ℕ → List ℕ → Type 0) → List ℕ → Option (List ℕ) → Option (List ℕ)
    → Type 0
HasWritten m Holds input old new =
    (a : Answer) × HasAnswer m input a × (new ≡ append_known old a.text) × Holds input a.text

-- A run has ended with status s. The source was `source` and is `after`, the sink was `sink` and is `later`.
pub record HasRun {S K : Type 0} (m : Meaning) (source after : S) (sink later : K) (before now : Ends)
    (s : Status) : Type 0 where
  pub answer : IfSome before.left (λ input. IsTold (HasAnswer m input) s before.taken now.taken)
  pub says : s ≡ Done → IfSome before.left (λ input. HasWritten m m.says input before.taken now.taken)
  pub refused : s ≡ Refused → IfSome before.left
      (λ input. HasWritten m m.refuses input before.taken now.taken)
  pub served : m.serves before now s
  pub read : s ≡ ReadFault → Rose before.reads now.reads
  pub write : s ≡ WriteFault → Rose before.writes now.writes
  pub read_later : before.reads ≤ now.reads
  pub write_later : before.writes ≤ now.writes
  pub nothing : (s ≡ ReadFault) ⊎ (s ≡ Memory) → m.reads ≢ reads_pieces → later ≡ sink
  pub passed : m.reads ≢ reads_pieces → s ≢ ReadFault → s ≢ WriteFault → s ≢ Memory → now.waiting ≡ 0
  pub waits : s ≢ WriteFault → before.waiting ≡ 0 → now.waiting ≡ 0
  pub left : IsEnding s → m.reads ≢ reads_nothing → now.left ≡ option_map (drop (MAX_INPUT + 1)) before.left
  pub alone : m.reads ≡ reads_nothing →
      (after ≡ source) × (s ≢ ReadFault) × IsTold (HasAnswer m []) s before.taken now.taken
  pub says_alone : s ≡ Done → m.reads ≡ reads_nothing → HasWritten m m.says [] before.taken now.taken
  pub front : (n : ℕ) × (n ≤ MAX_INPUT + 1) × Skips before.left now.left n
  pub calls : now.calls ≤ before.calls + (MAX_INPUT + 2)
