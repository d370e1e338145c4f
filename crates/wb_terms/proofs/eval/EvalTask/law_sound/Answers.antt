use Rattle.wb_terms.proofs.EvalLemmas.{IsSound-eval}
use Rattle.wb_terms.proofs.eval.EvalTask.law_sound.Goals as goal

pub returns : goal.returns
returns c = IsSound-eval _
