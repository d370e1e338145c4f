use Rattle.std.proofs.Common.{[], ◌∷◌, append_assoc}
use Rattle.wb_base.proofs.StreamLemmas.{Puts-stopped, Puts-more}
use Rattle.wb_base.proofs.WaitingLemmas.{waits-stopped, waits-more}
use Rattle.wb_base.specs.Lines.{line}
use Rattle.trace_format.proofs.trace.put_term_line.Goals as goal

pub returns-in_err-give_all-clause-took : goal.returns-in_err-give_all-clause-took
returns-in_err-give_all-clause-took g c =
    Puts-stopped _ _ _ _ c.args.keyword.now _ (append_assoc c.args.keyword.now c.args.term.now (10 ∷ []))
    c.from_residual.ensures.0 c.in_err-give_all.ensures.took

pub returns-clause-took : goal.returns-clause-took
returns-clause-took g c =
    Puts-more _ _ _ _ _ c.args.keyword.now (line c.args.term.now)
    (append_assoc c.args.keyword.now c.args.term.now (10 ∷ [])) c.in_ok-give_all.ensures.took
    c.put_line.ensures.took

pub returns-in_err-give_all-clause-waits : goal.returns-in_err-give_all-clause-waits
returns-in_err-give_all-clause-waits g c =
    waits-stopped _ _ _ c.args.keyword.now _ (append_assoc c.args.keyword.now c.args.term.now (10 ∷ []))
    c.in_err-give_all.ensures.waits

pub returns-clause-waits : goal.returns-clause-waits
returns-clause-waits g c =
    waits-more _ _ _ _ c.args.keyword.now (line c.args.term.now)
    (append_assoc c.args.keyword.now c.args.term.now (10 ∷ [])) c.in_ok-give_all.ensures.waits
    c.put_line.ensures.waits
