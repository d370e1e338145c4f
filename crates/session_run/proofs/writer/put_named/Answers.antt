use Rattle.std.proofs.Common.{refl}
use Rattle.wb_base.specs.Lines.{line}
use Rattle.wb_base.proofs.StreamLemmas.{Puts-stopped, Puts-more}
use Rattle.session_run.proofs.writer.put_named.Goals as goal

pub returns-in_err-give_all-clause-took : goal.returns-in_err-give_all-clause-took
returns-in_err-give_all-clause-took g c =
    Puts-stopped _ _ _ _ c.args.text.now (line c.args.name) refl c.from_residual.ensures.0
    c.in_err-give_all.ensures.took

pub returns-clause-took : goal.returns-clause-took
returns-clause-took g c =
    Puts-more _ _ _ _ _ c.args.text.now (line c.args.name) refl c.in_ok-give_all.ensures.took
    (rw c.bytes.ensures.bytes at c.put_line.ensures.took)
