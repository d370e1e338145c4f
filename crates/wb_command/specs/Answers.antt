-- Answers that commands share, and what a sink has taken of one.
--
-- Source: this project's own.
--
--   bad_input fault      the answer to an input that isn't of the command's form, or has no part there
--   limit_met name n     the answer where a limit was met
--   Told a s old new     with status s a sink has taken the answer a
--   IsTold Is s old new  with status s a sink has taken an answer of which `Is` holds
--   IsEnding s           a run with this status has come to its answer
use Rattle.std.specs.Prelude.{◌≡◌, ℕ, ◌⊎◌, List, ◌++◌, codes, decimal, Option}
use Rattle.std.specs.Io.KnownBytes.{append_known}
use Rattle.wb_base.specs.Streams.{PutsFront}
use Rattle.wb_base.specs.Lines.{line}
use Rattle.wb_base.specs.Status.{Answer, answer}
use Rattle.wb_base.specs.declared.status.Status.{Status}
use Rattle.wb_base.specs.declared.status.Status.TheVariants.{Done, Refused, Words, Input, Limit, ReadFault, WriteFault, Memory}
use Rattle.wb_command.specs.declared.fault.Fault.{Fault}
use Rattle.wb_command.specs.Faults.{fault_text}

-- ---- Answers ----

-- Input that isn't of the command's form, with its first fault, or that has nothing to expand at an address.
abbrev pub bad_input : Fault → Answer
bad_input fault = answer Input (fault_text fault)

-- A limit that was met, by its name and its number: `limit handles 4`.
abbrev pub limit_met : List ℕ → ℕ → Answer
limit_met name number = answer Limit (line ((codes "limit " ++ name) ++ decimal number))

-- ---- What a sink has taken ----

-- With this status a sink has taken this: the text with the answer's own status, or a front of it after a
-- fault of the sink. After a fault of the source and for want of memory there is no answer.
abbrev pub Told : Answer → Status → Option (List ℕ) → Option (List ℕ) → Type 0
Told a Done old new = (a.status ≡ Done) × (new ≡ append_known old a.text)
Told a Refused old new = (a.status ≡ Refused) × (new ≡ append_known old a.text)
Told a Words old new = (a.status ≡ Words) × (new ≡ append_known old a.text)
Told a Input old new = (a.status ≡ Input) × (new ≡ append_known old a.text)
Told a Limit old new = (a.status ≡ Limit) × (new ≡ append_known old a.text)
Told a WriteFault old new = PutsFront old new a.text
Told a ReadFault old new = ⊥
Told a Memory old new = ⊥

-- The sink has taken an answer of which this holds, but after a fault of the source and for want of memory.
pub data IsTold (Is : Answer → Type 0) (s : Status) (old new : Option (List ℕ)) : Type 0 where
  told_nothing : (s ≡ ReadFault) ⊎ (s ≡ Memory) → IsTold Is s old new
  told_answer : (a : Answer) → Is a → Told a s old new → IsTold Is s old new

-- ---- Statuses ----

-- Done, Refused, Input and Limit are the statuses of answers to a command.
abbrev pub IsEnding : Status → Type 0
IsEnding Done = Unit {0}
IsEnding Refused = Unit {0}
IsEnding Input = Unit {0}
IsEnding Limit = Unit {0}
IsEnding Words = ⊥
IsEnding ReadFault = ⊥
IsEnding WriteFault = ⊥
IsEnding Memory = ⊥
