-- The sink has taken the bytes before the place that was reached.
use Rattle.std.proofs.Common.{◌≡◌, ◌+◌, ◌-◌, ◌≤◌, length, take}
use Rattle.std.specs.Io.KnownBytes.{append_known}
use Rattle.wb_base.proofs.stream.give_all.Given as goal

abbrev pub invariant-loop-given : goal.invariant-loop-given
invariant-loop-given g l =
    let sink = g.K.Sink in
    record {
      within : l.given ≤ length l.bytes;
      took : sink.taken l.sink ≡ append_known (sink.taken l.fn.sink) (take l.given l.bytes);
      waits : sink.waiting l.sink ≤ sink.waiting l.fn.sink + l.given;
      later : sink.faults l.fn.sink ≤ sink.faults l.sink;
    }

abbrev pub decreases-loop-given : goal.decreases-loop-given
decreases-loop-given g l = length l.bytes - l.given
