use Rattle.std.proofs.Common.{◌≡◌, ◌+◌, ◌≤◌, length, take, flat_map}
use Rattle.std.specs.Io.KnownBytes.{append_known}
use Rattle.wb_base.specs.Numbers.{spaced_number}
use Rattle.garside_form.proofs.writer.put_entries.Given as goal

-- The sink has taken the entries before this one.
abbrev pub invariant-loop-k : goal.invariant-loop-k
invariant-loop-k g l =
    let sink = g.K.Sink in
    let given = flat_map spaced_number (take l.k l.factor) in
    record {
      took : sink.taken l.sink ≡ append_known (sink.taken l.fn.sink) given;
      later : sink.faults l.fn.sink ≤ sink.faults l.sink;
      waits : sink.waiting l.sink ≤ sink.waiting l.fn.sink + length given;
    }
