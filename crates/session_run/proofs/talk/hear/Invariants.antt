-- The session has heard the bytes before this one.
use Rattle.std.proofs.Common.{◌≡◌, ◌≤◌, [], take}
use Rattle.std.specs.Io.KnownBytes.{append_known}
use Rattle.session_run.specs.Conversation.{Talk, heard_all}
use Rattle.session_run.proofs.talk.hear.Given as goal

abbrev pub invariant-loop-byte : goal.invariant-loop-byte
invariant-loop-byte g l =
    let sink = g.K.Sink in
    let start : Talk = record { jobs = l.fn.session; rest = l.fn.rest.items; text = [] } in
    let now = heard_all start (take l.byte-index l.bytes) in
    record {
      jobs : l.session ≡ now.jobs;
      rest : l.rest.items ≡ now.rest;
      took : sink.taken l.sink ≡ append_known (sink.taken l.fn.sink) now.text;
      waits : sink.waiting l.fn.sink ≡ 0 → sink.waiting l.sink ≡ 0;
      later : sink.faults l.fn.sink ≤ sink.faults l.sink;
    }
