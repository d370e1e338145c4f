-- The program's statuses as exit codes, and its answers.
--
-- Source: this project's own.
--
--   code_of status      the exit code
--   Answer              a status and a text
--   answer status text  the two as one
use Rattle.std.specs.Prelude.{ℕ, List}
use Rattle.wb_base.specs.declared.status.Status.{Status}
use Rattle.wb_base.specs.declared.status.Status.TheVariants.{Done, Refused, Words, Input, Limit, ReadFault, WriteFault, Memory}

-- The number of a status, which the process ends with.
abbrev pub code_of : Status → ℕ
code_of Done = 0
code_of Refused = 1
code_of Words = 2
code_of Input = 3
code_of Limit = 4
code_of ReadFault = 5
code_of WriteFault = 6
code_of Memory = 7

-- How the program ends, and all that it writes.
pub record Answer : Type 0 where
  pub status : Status
  pub text : List ℕ

abbrev pub answer : Status → List ℕ → Answer
answer status text = record { status = status; text = text }
