use Rattle.std.proofs.Common.{◌++◌, codes, decimal}
use Rattle.wb_base.proofs.StreamLemmas.{Puts-stopped, Puts-more}
use Rattle.wb_command.proofs.TextLemmas.{line-append}
use Rattle.wb_command.proofs.refusal.put_needed.Goals as goal

pub returns-in_err-put_numbered-clause-took : goal.returns-in_err-put_numbered-clause-took
returns-in_err-put_numbered-clause-took g c =
    Puts-stopped _ _ _ _ _ _
    (line-append (codes "limit length " ++ decimal c.args.limit) (codes " needs " ++ decimal c.args.count))
    c.from_residual.ensures.0 c.in_err-put_numbered.ensures.took

pub returns-clause-took : goal.returns-clause-took
returns-clause-took g c =
    Puts-more _ _ _ _ _ _ _
    (line-append (codes "limit length " ++ decimal c.args.limit) (codes " needs " ++ decimal c.args.count))
    c.in_ok-put_numbered.ensures.took c.put_numbered_line.ensures.took
