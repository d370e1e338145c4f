use Rattle.wb_terms.proofs.LaverCommandLemmas.{IsSound-row}
use Rattle.wb_terms.proofs.row.RowTask.law_sound.Goals as goal

pub returns : goal.returns
returns c = IsSound-row _
