use Rattle.std.proofs.Common.{◌+◌, arith}
use Rattle.wb_command.specs.declared.TheConstants.{MAX_INPUT}
use Rattle.wb_command.proofs.TaskLemmas.{left-short, front-short, left-long}
use Rattle.wb_reverse.proofs.reverse_check.ReverseCheckStreamed.perform.Goals as goal

pub returns-in-Ok-clause-left : goal.returns-in-Ok-clause-left
returns-in-Ok-clause-left g c =
    let (bytes, within, all, is) = c.in-Ok.ensures.checked in left-short _ _ bytes MAX_INPUT all within

pub returns-in-Ok-clause-front : goal.returns-in-Ok-clause-front
returns-in-Ok-clause-front g c =
    let (bytes, within, all, is) = c.in-Ok.ensures.checked in front-short _ _ bytes MAX_INPUT all within

pub returns-in-Err-Refused-clause-left : goal.returns-in-Err-Refused-clause-left
returns-in-Err-Refused-clause-left g c =
    let (bytes, within, all, is) = rw c.in-Err-Refused.field-0-is at c.in-Err-Refused.ensures.checked in
    left-short _ _ bytes MAX_INPUT all within

pub returns-in-Err-Refused-clause-front : goal.returns-in-Err-Refused-clause-front
returns-in-Err-Refused-clause-front g c =
    let (bytes, within, all, is) = rw c.in-Err-Refused.field-0-is at c.in-Err-Refused.ensures.checked in
    front-short _ _ bytes MAX_INPUT all within

pub returns-in-Err-TooLarge-clause-left : goal.returns-in-Err-TooLarge-clause-left
returns-in-Err-TooLarge-clause-left g c =
    left-long _ _ (MAX_INPUT + 1) (rw c.in-Err-TooLarge.field-0-is at c.in-Err-TooLarge.ensures.checked)

pub returns-in-Err-TooLarge-clause-front : goal.returns-in-Err-TooLarge-clause-front
returns-in-Err-TooLarge-clause-front g c =
    (MAX_INPUT + 1, omega arith, rw c.in-Err-TooLarge.field-0-is at c.in-Err-TooLarge.ensures.checked)
