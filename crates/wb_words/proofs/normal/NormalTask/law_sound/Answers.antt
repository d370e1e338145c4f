use Rattle.wb_words.proofs.NormalCommandLemmas.{IsSound-normal}
use Rattle.wb_words.proofs.normal.NormalTask.law_sound.Goals as goal

pub returns : goal.returns
returns c = rw (← c.self.view_is) (IsSound-normal _ c.self.invariant.0)
