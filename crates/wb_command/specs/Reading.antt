-- What the functions that read an input answer.
--
-- Source: this project's own.
--
--   read_fault k e        why a word isn't read
--   Reads result words    what was answered are the words, or the fault, unless memory ran out
use Rattle.std.specs.Prelude.{ℕ, Option, Some, None, Result}
use Rattle.wb_base.specs.Memory.{UnlessMemory}
use Rattle.braid_word.specs.declared.reader.WordErr.{WordErr}
use Rattle.braid_word.specs.declared.reader.WordErr.TheVariants as word_errors
use Rattle.wb_command.specs.Inputs.{fault_of}
use Rattle.wb_command.specs.declared.fault.Fault.{Fault}
use Rattle.wb_command.specs.declared.input.InputErr.{InputErr}
use Rattle.wb_command.specs.declared.input.InputErr.TheVariants as input_errors

abbrev pub read_fault : ℕ → WordErr → InputErr
read_fault k (word_errors.BadLetter place) = input_errors.Fault (fault_of k (word_errors.BadLetter place))
read_fault k (word_errors.BadIndex place) = input_errors.Fault (fault_of k (word_errors.BadIndex place))
read_fault k (word_errors.TooLong count) = input_errors.Fault (fault_of k (word_errors.TooLong count))
read_fault k word_errors.Memory = input_errors.Memory

-- The fault that an error tells, if it tells one.
abbrev pub fault_in : InputErr → Option Fault
fault_in input_errors.Memory = None
fault_in (input_errors.Fault fault) = Some fault

abbrev pub Reads : {X : Type 0} → Result X InputErr → Result X Fault → Type 0
Reads {X} result words = UnlessMemory (λ (x : X). x) fault_in result words
