use Rattle.wb_reverse.proofs.ReverseLemmas.{IsSound-reverse}
use Rattle.wb_reverse.proofs.reverse.ReverseTask.law_sound.Goals as goal

pub returns : goal.returns
returns c = rw (← c.self.view_is) (IsSound-reverse _ c.self.invariant)
