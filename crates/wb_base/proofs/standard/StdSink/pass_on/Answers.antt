use Rattle.std.proofs.Common.{arith, ap}
use Rattle.wb_base.specs.StreamStates.{WriterState}
use Rattle.wb_base.proofs.WriterLemmas.{Keeps-passed}
use Rattle.wb_base.proofs.standard.StdSink.pass_on.Goals as goal

pub returns-then-left-gt0-clause-kept : goal.returns-then-left-gt0-clause-kept
returns-then-left-gt0-clause-kept g c =
    let wrote = c.write_out-written.ensures in
    let view = ap (λ (s : WriterState). s.taken) c.self.view_is in
    Keeps-passed _ _ _ _ _ _ _ view wrote.written c.copy_within.ensures.after wrote.within (omega arith)
