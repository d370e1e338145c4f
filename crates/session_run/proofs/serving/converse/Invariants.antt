-- The bytes taken were heard, and no more of them than the limit.
use Rattle.std.proofs.Common.{◌-◌}
use Rattle.session_run.specs.declared.TheConstants.{MAX_INPUT}
use Rattle.session_run.specs.Serving.{HasHeard}
use Rattle.session_run.proofs.serving.converse.Given as goal

abbrev pub invariant-hearing : goal.invariant-hearing
invariant-hearing g l =
    let source = g.S.Source in
    let sink = g.K.Sink in
    HasHeard
    (record {
      left = source.left l.fn.source;
      reads = source.faults l.fn.source;
      calls = source.calls l.fn.source;
      taken = sink.taken l.fn.sink;
      waiting = sink.waiting l.fn.sink;
      writes = sink.faults l.fn.sink;
    })
    (record {
      left = source.left l.source;
      reads = source.faults l.source;
      calls = source.calls l.source;
      taken = sink.taken l.sink;
      waiting = sink.waiting l.sink;
      writes = sink.faults l.sink;
    })
    l.session l.rest.items l.count

abbrev pub decreases-hearing : goal.decreases-hearing
decreases-hearing g l = MAX_INPUT - l.count
