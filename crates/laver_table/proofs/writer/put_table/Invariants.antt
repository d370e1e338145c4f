-- The sink has taken the rows before this one, and each entry was a step.
use Rattle.std.proofs.Common.{◌≡◌, ◌+◌, ◌*◌, ◌≤◌, length, take, flat_map}
use Rattle.std.specs.Io.KnownBytes.{append_known}
use Rattle.laver_table.specs.TableText.{row_line}
use Rattle.laver_table.proofs.writer.put_table.Given as goal

abbrev pub invariant-loop-k : goal.invariant-loop-k
invariant-loop-k g l =
    let sink = g.K.Sink in
    let given = flat_map row_line (take l.k l.table) in
    record {
      took : sink.taken l.sink ≡ append_known (sink.taken l.fn.sink) given;
      later : sink.faults l.fn.sink ≤ sink.faults l.sink;
      waits : sink.waiting l.sink ≤ sink.waiting l.fn.sink + length given;
      counted : l.steps ≡ l.fn.steps + l.k * length l.table;
    }
