use Rattle.wb_terms.proofs.ListingLemmas.{IsSound-derive}
use Rattle.wb_terms.proofs.derive.DeriveTask.law_sound.Goals as goal

pub returns : goal.returns
returns c = IsSound-derive
