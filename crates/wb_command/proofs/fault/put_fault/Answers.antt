use Rattle.wb_base.proofs.StreamLemmas.{Puts-stopped, Puts-more}
use Rattle.wb_command.proofs.TextLemmas.{numbered_fault-parts}
use Rattle.wb_command.proofs.fault.put_fault.Goals as goal

pub returns-in_err-put_numbered-clause-took : goal.returns-in_err-put_numbered-clause-took
returns-in_err-put_numbered-clause-took g c =
    Puts-stopped _ _ _ _ _ _ (numbered_fault-parts c.args.line c.args.name.now c.args.number)
    c.from_residual.ensures.0 c.in_err-put_numbered.ensures.took

pub returns-clause-took : goal.returns-clause-took
returns-clause-took g c =
    Puts-more _ _ _ _ _ _ _ (numbered_fault-parts c.args.line c.args.name.now c.args.number)
    c.in_ok-put_numbered.ensures.took c.put_numbered_line.ensures.took
