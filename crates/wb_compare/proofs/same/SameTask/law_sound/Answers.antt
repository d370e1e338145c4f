use Rattle.wb_compare.proofs.SameLemmas.{IsSound-same}
use Rattle.wb_compare.proofs.same.SameTask.law_sound.Goals as goal

pub returns : goal.returns
returns c = rw (← c.self.view_is) (IsSound-same _ c.self.invariant.1)
