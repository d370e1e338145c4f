use Rattle.std.proofs.Common.{◌≡◌, ◌+◌, ◌≤◌, length, take}
use Rattle.std.specs.List.{flat_map}
use Rattle.std.specs.Io.KnownBytes.{append_known}
use Rattle.free_word.specs.FreeText.{next_text}
use Rattle.free_word.proofs.writer.put_rest.Given as goal

-- The sink has taken the generators before this one.
abbrev pub invariant-loop-x : goal.invariant-loop-x
invariant-loop-x g l =
    let sink = g.K.Sink in
    let text = flat_map next_text (take l.x-index l.letters) in
    record {
      took : sink.taken l.sink ≡ append_known (sink.taken l.fn.sink) text;
      waits : sink.waiting l.sink ≤ sink.waiting l.fn.sink + length text;
      later : sink.faults l.fn.sink ≤ sink.faults l.sink;
    }
