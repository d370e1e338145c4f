use Rattle.std.proofs.Common.{decimal, refl}
use Rattle.wb_base.proofs.StreamLemmas.{Puts-stopped, Puts-more}
use Rattle.wb_base.proofs.WaitingLemmas.{waits-stopped, waits-more}
use Rattle.wb_base.specs.Numbers.{sign_text}
use Rattle.wb_base.proofs.number.put_signed.Goals as goal

pub returns-in_err-put_sign-clause-took : goal.returns-in_err-put_sign-clause-took
returns-in_err-put_sign-clause-took g c =
    Puts-stopped _ _ _ _ (sign_text c.args.negative) (decimal c.args.value) refl c.from_residual.ensures.0
    c.in_err-put_sign.ensures.took

pub returns-clause-took : goal.returns-clause-took
returns-clause-took g c =
    Puts-more _ _ _ _ _ (sign_text c.args.negative) (decimal c.args.value) refl c.in_ok-put_sign.ensures.took
    c.put_number.ensures.took

pub returns-in_err-put_sign-clause-waits : goal.returns-in_err-put_sign-clause-waits
returns-in_err-put_sign-clause-waits g c =
    waits-stopped _ _ _ (sign_text c.args.negative) (decimal c.args.value) refl
    c.in_err-put_sign.ensures.waits

pub returns-clause-waits : goal.returns-clause-waits
returns-clause-waits g c =
    waits-more _ _ _ _ (sign_text c.args.negative) (decimal c.args.value) refl
    c.in_ok-put_sign.ensures.waits c.put_number.ensures.waits
