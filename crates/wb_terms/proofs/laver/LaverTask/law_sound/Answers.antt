use Rattle.wb_terms.proofs.LaverCommandLemmas.{IsSound-laver}
use Rattle.wb_terms.proofs.laver.LaverTask.law_sound.Goals as goal

pub returns : goal.returns
returns c = IsSound-laver _
