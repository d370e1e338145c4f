use Rattle.wb_compare.proofs.CheckLemmas.{IsSound-check}
use Rattle.wb_compare.proofs.check.CheckStreamed.law_streamed.Goals as goal

pub returns-clause-sound : goal.returns-clause-sound
returns-clause-sound c = IsSound-check
