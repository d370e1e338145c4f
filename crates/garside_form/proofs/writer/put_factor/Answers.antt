use Rattle.std.proofs.Common.{◌++◌, [], ◌∷◌, codes, flat_map, append_assoc, refl, ◌∙◌}
use Rattle.wb_base.proofs.StreamLemmas.{Puts-stopped, Puts-stopped_after, Puts-more, append_known-two}
use Rattle.wb_base.proofs.WaitingLemmas.{waits-stopped, waits-stopped_after, waits-more}
use Rattle.wb_base.specs.Numbers.{spaced_number}
use Rattle.garside_form.proofs.NormalTextLemmas.{factor_line-parts}
use Rattle.garside_form.proofs.writer.put_factor.Goals as goal

pub returns-in_err-give_all-clause-took : goal.returns-in_err-give_all-clause-took
returns-in_err-give_all-clause-took g c =
    let rest = flat_map spaced_number c.args.factor.now in
    Puts-stopped _ _ _ _ (codes "factor") (rest ++ 10 ∷ [])
    (factor_line-parts c.args.factor.now ∙ append_assoc (codes "factor") rest (10 ∷ []))
    c.from_residual.ensures.0 c.in_err-give_all.ensures.took

pub returns-in_err-give_all-clause-waits : goal.returns-in_err-give_all-clause-waits
returns-in_err-give_all-clause-waits g c =
    let rest = flat_map spaced_number c.args.factor.now in
    waits-stopped _ _ _ (codes "factor") (rest ++ 10 ∷ [])
    (factor_line-parts c.args.factor.now ∙ append_assoc (codes "factor") rest (10 ∷ []))
    c.in_err-give_all.ensures.waits

pub returns-in_err-put_entries-clause-took : goal.returns-in_err-put_entries-clause-took
returns-in_err-put_entries-clause-took g c =
    let p = c.args.factor.now in
    Puts-stopped_after _ _ _ _ _ (codes "factor") (flat_map spaced_number p) (10 ∷ []) (factor_line-parts p)
    c.from_residual-in_err-put_entries.ensures.0 c.in_ok-give_all.ensures.took
    c.in_err-put_entries.ensures.took

pub returns-in_err-put_entries-clause-waits : goal.returns-in_err-put_entries-clause-waits
returns-in_err-put_entries-clause-waits g c =
    let p = c.args.factor.now in
    waits-stopped_after _ _ _ _ (codes "factor") (flat_map spaced_number p) (10 ∷ []) (factor_line-parts p)
    c.in_ok-give_all.ensures.waits c.in_err-put_entries.ensures.waits

pub returns-clause-took : goal.returns-clause-took
returns-clause-took g c =
    let p = c.args.factor.now in
    let rest = flat_map spaced_number p in
    Puts-more _ _ _ _ _ (codes "factor" ++ rest) (10 ∷ []) (factor_line-parts p)
    (append_known-two _ _ _ (codes "factor") rest c.in_ok-give_all.ensures.took
    c.in_ok-put_entries.ensures.took) c.give_all-2.ensures.took

pub returns-clause-waits : goal.returns-clause-waits
returns-clause-waits g c =
    let p = c.args.factor.now in
    let rest = flat_map spaced_number p in
    waits-more _ _ _ _ (codes "factor" ++ rest) (10 ∷ []) (factor_line-parts p)
    (waits-more _ _ _ _ (codes "factor") rest refl c.in_ok-give_all.ensures.waits
    c.in_ok-put_entries.ensures.waits) c.give_all-2.ensures.waits
