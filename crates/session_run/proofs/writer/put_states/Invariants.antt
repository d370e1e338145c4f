-- The sink has taken the lines of the jobs before this one.
use Rattle.std.proofs.Common.{◌≡◌, ◌≤◌, map, take}
use Rattle.std.specs.List.{flat_map}
use Rattle.std.specs.Io.KnownBytes.{append_known}
use Rattle.session_run.specs.Replies.{line_of}
use Rattle.session_run.specs.ReplyText.{state_text}
use Rattle.session_run.proofs.writer.put_states.Given as goal

abbrev pub invariant-loop-k : goal.invariant-loop-k
invariant-loop-k g l =
    let sink = g.K.Sink in
    record {
      took : sink.taken l.sink
          ≡ append_known (sink.taken l.fn.sink) (flat_map state_text (take l.k (map line_of l.session)));
      later : sink.faults l.fn.sink ≤ sink.faults l.sink;
    }
