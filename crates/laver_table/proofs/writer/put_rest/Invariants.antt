-- The sink has taken the entries before this one, and each was a step.
use Rattle.std.proofs.Common.{◌≡◌, ◌+◌, ◌≤◌, length, take, drop, flat_map}
use Rattle.std.specs.Io.KnownBytes.{append_known}
use Rattle.laver_table.specs.Table.{row_of}
use Rattle.wb_base.specs.Numbers.{spaced_number}
use Rattle.laver_table.proofs.writer.put_rest.Given as goal

abbrev pub invariant-loop-k : goal.invariant-loop-k
invariant-loop-k g l =
    let sink = g.K.Sink in
    let given = flat_map spaced_number (take l.k (drop 1 (row_of l.table l.p))) in
    record {
      took : sink.taken l.sink ≡ append_known (sink.taken l.fn.sink) given;
      later : sink.faults l.fn.sink ≤ sink.faults l.sink;
      waits : sink.waiting l.sink ≤ sink.waiting l.fn.sink + length given;
      counted : l.steps ≡ l.fn.steps + l.k;
    }
