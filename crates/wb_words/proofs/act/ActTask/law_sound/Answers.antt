use Rattle.wb_words.proofs.ActLemmas.{IsSound-act}
use Rattle.wb_words.proofs.act.ActTask.law_sound.Goals as goal

pub returns : goal.returns
returns c = IsSound-act _
