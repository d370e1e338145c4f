use Rattle.std.proofs.Common.{refl}
use Rattle.wb_base.proofs.StreamLemmas.{Puts-stopped, Puts-more}
use Rattle.wb_words.proofs.act.put_image.Goals as goal

pub returns-in_err-put_free-clause-took : goal.returns-in_err-put_free-clause-took
returns-in_err-put_free-clause-took g c =
    Puts-stopped _ _ _ _ _ _ refl c.from_residual.ensures.0 c.in_err-put_free.ensures.took

pub returns-clause-took : goal.returns-clause-took
returns-clause-took g c =
    Puts-more _ _ _ _ _ _ _ refl c.in_ok-put_free.ensures.took c.give_all.ensures.took
