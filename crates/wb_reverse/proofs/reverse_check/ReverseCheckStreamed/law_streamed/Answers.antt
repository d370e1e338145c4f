use Rattle.wb_reverse.proofs.ReverseCheckLemmas.{IsSound-reverse_check}
use Rattle.wb_reverse.proofs.reverse_check.ReverseCheckStreamed.law_streamed.Goals as goal

pub returns-clause-sound : goal.returns-clause-sound
returns-clause-sound c = IsSound-reverse_check
