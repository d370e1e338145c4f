use Rattle.wb_compare.proofs.CompareLemmas.{IsSound-compare}
use Rattle.wb_compare.proofs.compare.CompareTask.law_sound.Goals as goal

pub returns : goal.returns
returns c = rw (← c.self.view_is) (IsSound-compare _ c.self.invariant)
