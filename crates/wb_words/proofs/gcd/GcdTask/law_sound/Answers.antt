use Rattle.wb_words.proofs.GcdLemmas.{IsSound-gcd}
use Rattle.wb_words.proofs.gcd.GcdTask.law_sound.Goals as goal

pub returns : goal.returns
returns c = rw (← c.self.view_is) (IsSound-gcd _ c.self.invariant.0)
