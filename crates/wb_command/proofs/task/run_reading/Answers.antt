use Rattle.wb_command.proofs.TaskLemmas.{HasPassed-ended, HasRun-read}
use Rattle.wb_command.proofs.task.run_reading.Goals as goal

pub returns-in-Ok-clause-ran : goal.returns-in-Ok-clause-ran
returns-in-Ok-clause-ran g c =
    HasRun-read _ _ _ _ _ _ _ _ _ c.law_sound.ensures c.requires.reads c.in-Ok.ensures.outcome
    (HasPassed-ended _ _ _ _ c.write.ensures.told c.write.ensures.ending c.write.ensures.fault
    c.write.ensures.later
    c.write.ensures.waits)
    c.perform_reading.ensures.later c.in-Ok.ensures.left c.perform_reading.ensures.front
    c.perform_reading.ensures.calls
