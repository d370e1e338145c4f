use Rattle.std.proofs.Common.{[], ◌∷◌, ◌++◌, decimal, refl}
use Rattle.wb_base.proofs.StreamLemmas.{Puts-stopped, Puts-more}
use Rattle.wb_base.proofs.WaitingLemmas.{waits-stopped, waits-more}
use Rattle.wb_base.proofs.text.put_numbered_line.Goals as goal

pub returns-in_err-put_numbered-clause-took : goal.returns-in_err-put_numbered-clause-took
returns-in_err-put_numbered-clause-took g c =
    Puts-stopped _ _ _ _ (c.args.text.now ++ decimal c.args.number) (10 ∷ []) refl c.from_residual.ensures.0
    c.in_err-put_numbered.ensures.took

pub returns-clause-took : goal.returns-clause-took
returns-clause-took g c =
    Puts-more _ _ _ _ _ (c.args.text.now ++ decimal c.args.number) (10 ∷ []) refl
    c.in_ok-put_numbered.ensures.took c.give_all.ensures.took

pub returns-in_err-put_numbered-clause-waits : goal.returns-in_err-put_numbered-clause-waits
returns-in_err-put_numbered-clause-waits g c =
    waits-stopped _ _ _ (c.args.text.now ++ decimal c.args.number) (10 ∷ []) refl
    c.in_err-put_numbered.ensures.waits

pub returns-clause-waits : goal.returns-clause-waits
returns-clause-waits g c =
    waits-more _ _ _ _ (c.args.text.now ++ decimal c.args.number) (10 ∷ []) refl
    c.in_ok-put_numbered.ensures.waits c.give_all.ensures.waits
