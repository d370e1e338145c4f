use Rattle.std.proofs.Common.{◌++◌, [], ◌∷◌, codes, refl, append_assoc}
use Rattle.wb_base.proofs.StreamLemmas.{Puts-stopped, Puts-stopped_after, Puts-more, append_known-two}
use Rattle.wb_base.specs.Numbers.{signed_text}
use Rattle.garside_form.proofs.writer.put_delta.Goals as goal

pub returns-in_err-give_all-clause-took : goal.returns-in_err-give_all-clause-took
returns-in_err-give_all-clause-took g c =
    let rest = signed_text c.args.negative c.args.size in
    Puts-stopped _ _ _ _ (codes "delta ") (rest ++ 10 ∷ []) (append_assoc (codes "delta ") rest (10 ∷ []))
    c.from_residual.ensures.0 c.in_err-give_all.ensures.took

pub returns-in_err-put_signed-clause-took : goal.returns-in_err-put_signed-clause-took
returns-in_err-put_signed-clause-took g c =
    Puts-stopped_after _ _ _ _ _ (codes "delta ") (signed_text c.args.negative c.args.size) (10 ∷ []) refl
    c.from_residual-in_err-put_signed.ensures.0 c.in_ok-give_all.ensures.took
    (rw c.from.ensures at c.in_err-put_signed.ensures.took)

pub returns-clause-took : goal.returns-clause-took
returns-clause-took g c =
    let rest = signed_text c.args.negative c.args.size in
    Puts-more _ _ _ _ _ (codes "delta " ++ rest) (10 ∷ []) refl
    (append_known-two _ _ _ (codes "delta ") rest c.in_ok-give_all.ensures.took
    (rw c.from.ensures at c.in_ok-put_signed.ensures.took)) c.give_all-2.ensures.took
