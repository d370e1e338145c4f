use Rattle.std.proofs.Common.{[], ◌∷◌, ◌++◌, codes, refl}
use Rattle.wb_base.proofs.StreamLemmas.{Puts-stopped, Puts-stopped_after, Puts-more, append_known-two}
use Rattle.wb_base.proofs.WaitingLemmas.{waits-stopped, waits-more, waits-stopped_after}
use Rattle.braid_word.specs.Notation.{word_field}
use Rattle.trace_format.proofs.trace.put_witness.Goals as goal

pub returns-in_err-give_all-clause-took : goal.returns-in_err-give_all-clause-took
returns-in_err-give_all-clause-took g c =
    let letters = word_field (g.A.Account.current c.args.account.now) in
    Puts-stopped _ _ _ _ (codes "witness") (letters ++ 10 ∷ []) refl c.from_residual.ensures.0
    c.in_err-give_all.ensures.took

pub returns-in_err-put_current-clause-took : goal.returns-in_err-put_current-clause-took
returns-in_err-put_current-clause-took g c =
    let letters = word_field (g.A.Account.current c.args.account.now) in
    Puts-stopped_after _ _ _ _ _ (codes "witness") letters (10 ∷ []) refl
    c.from_residual-in_err-put_current.ensures.0 c.in_ok-give_all.ensures.took
    c.in_err-put_current.ensures.took

pub returns-clause-took : goal.returns-clause-took
returns-clause-took g c =
    let letters = word_field (g.A.Account.current c.args.account.now) in
    Puts-more _ _ _ _ _ (codes "witness" ++ letters) (10 ∷ []) refl
    (append_known-two _ _ _ (codes "witness") letters c.in_ok-give_all.ensures.took
    c.in_ok-put_current.ensures.took) c.give_all-2.ensures.took

pub returns-in_err-give_all-clause-waits : goal.returns-in_err-give_all-clause-waits
returns-in_err-give_all-clause-waits g c =
    let letters = word_field (g.A.Account.current c.args.account.now) in
    waits-stopped _ _ _ (codes "witness") (letters ++ 10 ∷ []) refl c.in_err-give_all.ensures.waits

pub returns-in_err-put_current-clause-waits : goal.returns-in_err-put_current-clause-waits
returns-in_err-put_current-clause-waits g c =
    let letters = word_field (g.A.Account.current c.args.account.now) in
    waits-stopped_after _ _ _ _ (codes "witness") letters (10 ∷ []) refl
    c.in_ok-give_all.ensures.waits c.in_err-put_current.ensures.waits

pub returns-clause-waits : goal.returns-clause-waits
returns-clause-waits g c =
    let letters = word_field (g.A.Account.current c.args.account.now) in
    let both = waits-more _ _ _ _ (codes "witness") letters refl c.in_ok-give_all.ensures.waits
    c.in_ok-put_current.ensures.waits in
    waits-more _ _ _ _ (codes "witness" ++ letters) (10 ∷ []) refl both c.give_all-2.ensures.waits
