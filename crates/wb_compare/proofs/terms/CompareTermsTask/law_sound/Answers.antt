use Rattle.wb_compare.proofs.TermsLemmas.{IsSound-terms}
use Rattle.wb_compare.proofs.terms.CompareTermsTask.law_sound.Goals as goal

pub returns : goal.returns
returns c = rw (← c.self.view_is) (IsSound-terms _ c.self.invariant)
