use Rattle.wb_terms.proofs.ValueLemmas.{IsSound-value}
use Rattle.wb_terms.proofs.value.ValuationTask.law_sound.Goals as goal

pub returns : goal.returns
returns c = IsSound-value _
