use Rattle.wb_command.proofs.TaskLemmas.{HasPassed-ended, HasRun-read}
use Rattle.wb_command.proofs.streamed.run_streamed.Goals as goal

pub returns-in-Ok-clause-ran : goal.returns-in-Ok-clause-ran
returns-in-Ok-clause-ran g c =
    HasRun-read _ _ _ _ _ _ _ _ _ c.law_streamed.ensures.sound c.law_streamed.ensures.reads c.in-Ok.ensures.outcome
    (HasPassed-ended _ _ _ _ c.write.ensures.told c.write.ensures.ending c.write.ensures.fault
    c.write.ensures.later
    c.write.ensures.waits)
    c.perform.ensures.later c.in-Ok.ensures.left c.perform.ensures.front
    c.perform.ensures.calls
