use Rattle.std.proofs.Common.{◌++◌, codes, decimal}
use Rattle.wb_base.proofs.StreamLemmas.{Puts-stopped, Puts-more}
use Rattle.wb_command.proofs.TextLemmas.{line-append}
use Rattle.wb_command.proofs.fault.put_bare.Goals as goal

pub returns-in_err-put_numbered-clause-took : goal.returns-in_err-put_numbered-clause-took
returns-in_err-put_numbered-clause-took g c =
    Puts-stopped _ _ _ _ _ _ (line-append (codes "input " ++ decimal c.args.line) c.args.name.now)
    c.from_residual.ensures.0 c.in_err-put_numbered.ensures.took

pub returns-clause-took : goal.returns-clause-took
returns-clause-took g c =
    Puts-more _ _ _ _ _ _ _ (line-append (codes "input " ++ decimal c.args.line) c.args.name.now)
    c.in_ok-put_numbered.ensures.took c.put_line.ensures.took
