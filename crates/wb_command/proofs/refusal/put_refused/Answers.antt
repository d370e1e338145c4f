use Rattle.std.proofs.Common.{◌≡◌, ◌∷◌, [], ◌++◌, codes, decimal, refl}
use Rattle.wb_base.specs.Lines.{line}
use Rattle.wb_base.proofs.StreamLemmas.{Puts-stopped, Puts-stopped_after, Puts-more, append_known-two}
use Rattle.wb_command.proofs.TextLemmas.{line-append, refused_line-parts}
use Rattle.wb_command.proofs.refusal.put_refused.Goals as goal

pub returns-in_err-put_numbered-clause-took : goal.returns-in_err-put_numbered-clause-took
returns-in_err-put_numbered-clause-took g c =
    Puts-stopped _ _ _ _ _ _
    (line-append (codes "refused " ++ decimal c.args.line) (32 ∷ c.args.why.now)) c.from_residual.ensures.0
    c.in_err-put_numbered.ensures.took

pub returns-in_err-give_all-clause-took : goal.returns-in_err-give_all-clause-took
returns-in_err-give_all-clause-took g c =
    Puts-stopped_after _ _ _ _ _ (codes "refused " ++ decimal c.args.line) (32 ∷ []) (line c.args.why.now)
    (refused_line-parts c.args.line c.args.why.now) c.from_residual-in_err-give_all.ensures.0
    c.in_ok-put_numbered.ensures.took c.in_err-give_all.ensures.took

pub returns-clause-took : goal.returns-clause-took
returns-clause-took g c =
    Puts-more _ _ _ _ _ ((codes "refused " ++ decimal c.args.line) ++ 32 ∷ []) (line c.args.why.now)
    (refused_line-parts c.args.line c.args.why.now)
    (append_known-two _ _ _ (codes "refused " ++ decimal c.args.line) (32 ∷ [])
    c.in_ok-put_numbered.ensures.took c.in_ok-give_all.ensures.took) c.put_line.ensures.took
