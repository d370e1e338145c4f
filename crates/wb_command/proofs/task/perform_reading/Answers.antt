use Rattle.std.proofs.Common.{◌+◌, arith}
use Rattle.wb_command.specs.declared.TheConstants.{MAX_INPUT}
use Rattle.wb_command.proofs.TaskLemmas.{left-short, left-long}
use Rattle.wb_command.proofs.task.perform_reading.Goals as goal

pub returns-in_ok-perform-in-Ok-clause-left : goal.returns-in_ok-perform-in-Ok-clause-left
returns-in_ok-perform-in-Ok-clause-left g c =
    left-short _ _ _ MAX_INPUT c.in-Ok.ensures.all c.in-Ok.ensures.within

pub returns-in-Err-TooLarge-clause-left : goal.returns-in-Err-TooLarge-clause-left
returns-in-Err-TooLarge-clause-left g c =
    left-long _ _ _ (rw c.in-Err-TooLarge.field-0-is at c.in-Err-TooLarge.ensures.refused)

pub returns-in-Err-TooLarge-clause-front : goal.returns-in-Err-TooLarge-clause-front
returns-in-Err-TooLarge-clause-front g c =
    (MAX_INPUT + 1, omega arith, rw c.in-Err-TooLarge.field-0-is at c.in-Err-TooLarge.ensures.refused)

pub returns-in_err-perform-in-Ok-clause-later : goal.returns-in_err-perform-in-Ok-clause-later
returns-in_err-perform-in-Ok-clause-later g c = c.read_all.ensures.later

pub returns-in_err-perform-in-Ok-clause-calls : goal.returns-in_err-perform-in-Ok-clause-calls
returns-in_err-perform-in-Ok-clause-calls g c = omega (arith, c.read_all.ensures.calls)

pub returns-in_ok-perform-in-Ok-clause-later : goal.returns-in_ok-perform-in-Ok-clause-later
returns-in_ok-perform-in-Ok-clause-later g c = c.read_all.ensures.later

pub returns-in_ok-perform-in-Ok-clause-calls : goal.returns-in_ok-perform-in-Ok-clause-calls
returns-in_ok-perform-in-Ok-clause-calls g c = omega (arith, c.read_all.ensures.calls)

pub returns-in-Err-TooLarge-clause-later : goal.returns-in-Err-TooLarge-clause-later
returns-in-Err-TooLarge-clause-later g c = c.read_all.ensures.later

pub returns-in-Err-TooLarge-clause-calls : goal.returns-in-Err-TooLarge-clause-calls
returns-in-Err-TooLarge-clause-calls g c = omega (arith, c.read_all.ensures.calls)

pub returns-in-Err-Fault-clause-later : goal.returns-in-Err-Fault-clause-later
returns-in-Err-Fault-clause-later g c = c.read_all.ensures.later

pub returns-in-Err-Fault-clause-calls : goal.returns-in-Err-Fault-clause-calls
returns-in-Err-Fault-clause-calls g c = omega (arith, c.read_all.ensures.calls)

pub returns-in-Err-Memory-clause-later : goal.returns-in-Err-Memory-clause-later
returns-in-Err-Memory-clause-later g c = c.read_all.ensures.later

pub returns-in-Err-Memory-clause-calls : goal.returns-in-Err-Memory-clause-calls
returns-in-Err-Memory-clause-calls g c = omega (arith, c.read_all.ensures.calls)

pub returns-in_ok-perform-in-Ok-clause-fault : goal.returns-in_ok-perform-in-Ok-clause-fault
returns-in_ok-perform-in-Ok-clause-fault g c = λ is. absurd cc

pub returns-in-Err-TooLarge-clause-fault : goal.returns-in-Err-TooLarge-clause-fault
returns-in-Err-TooLarge-clause-fault g c = λ is. absurd cc

pub returns-in-Err-Memory-clause-fault : goal.returns-in-Err-Memory-clause-fault
returns-in-Err-Memory-clause-fault g c = λ is. absurd cc

pub returns-in-Err-Fault-clause-outcome : goal.returns-in-Err-Fault-clause-outcome
returns-in-Err-Fault-clause-outcome g c = tt

pub returns-in-Err-Fault-clause-left : goal.returns-in-Err-Fault-clause-left
returns-in-Err-Fault-clause-left g c = tt

pub returns-in-Err-Memory-clause-outcome : goal.returns-in-Err-Memory-clause-outcome
returns-in-Err-Memory-clause-outcome g c = tt

pub returns-in-Err-Memory-clause-left : goal.returns-in-Err-Memory-clause-left
returns-in-Err-Memory-clause-left g c = tt
