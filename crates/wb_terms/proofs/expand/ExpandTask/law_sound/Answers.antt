use Rattle.wb_terms.proofs.ExpandLemmas.{IsSound-expand}
use Rattle.wb_terms.proofs.expand.ExpandTask.law_sound.Goals as goal

pub returns : goal.returns
returns c = IsSound-expand _
