use Rattle.std.proofs.Common.{[], ◌∷◌, refl}
use Rattle.wb_base.proofs.StreamLemmas.{Puts-stopped, Puts-more}
use Rattle.wb_base.proofs.WaitingLemmas.{waits-stopped, waits-more}
use Rattle.wb_base.proofs.text.put_line.Goals as goal

pub returns-in_err-give_all-clause-took : goal.returns-in_err-give_all-clause-took
returns-in_err-give_all-clause-took g c =
    Puts-stopped _ _ _ _ c.args.text.now (10 ∷ []) refl c.from_residual.ensures.0
    c.in_err-give_all.ensures.took

pub returns-clause-took : goal.returns-clause-took
returns-clause-took g c =
    Puts-more _ _ _ _ _ c.args.text.now (10 ∷ []) refl c.in_ok-give_all.ensures.took c.give_all-2.ensures.took

pub returns-in_err-give_all-clause-waits : goal.returns-in_err-give_all-clause-waits
returns-in_err-give_all-clause-waits g c =
    waits-stopped _ _ _ c.args.text.now (10 ∷ []) refl c.in_err-give_all.ensures.waits

pub returns-clause-waits : goal.returns-clause-waits
returns-clause-waits g c =
    waits-more _ _ _ _ c.args.text.now (10 ∷ []) refl c.in_ok-give_all.ensures.waits
    c.give_all-2.ensures.waits
