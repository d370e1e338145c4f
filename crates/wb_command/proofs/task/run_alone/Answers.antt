use Rattle.std.proofs.Common.{refl}
use Rattle.wb_command.proofs.TaskLemmas.{HasPassed-ended, HasRun-alone}
use Rattle.wb_command.proofs.task.run_alone.Goals as goal

pub returns-in-Ok-clause-ran : goal.returns-in-Ok-clause-ran
returns-in-Ok-clause-ran g c =
    HasRun-alone _ _ _ _ _ _ _ _ c.law_sound.ensures c.requires.alone c.in-Ok.ensures
    (HasPassed-ended _ _ _ _ c.write.ensures.told c.write.ensures.ending c.write.ensures.fault
    c.write.ensures.later
    c.write.ensures.waits)
    refl refl refl
