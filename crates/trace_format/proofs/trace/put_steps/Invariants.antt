-- The sink has taken the lines of the steps before this one.
use Rattle.std.proofs.Common.{◌≡◌, ◌+◌, ◌-◌, ◌≤◌, length, take}
use Rattle.std.specs.List.{flat_map}
use Rattle.std.specs.Io.KnownBytes.{append_known}
use Rattle.trace_format.specs.TraceText.{handle_line}
use Rattle.trace_format.proofs.trace.put_steps.Given as goal

abbrev pub invariant-putting : goal.invariant-putting
invariant-putting g l =
    let sink = g.K.Sink in
    let text = flat_map handle_line (take l.put (g.A.Account.steps l.account)) in
    record {
      within : l.put ≤ length (g.A.Account.steps l.account);
      took : sink.taken l.sink ≡ append_known (sink.taken l.fn.sink) text;
      waits : sink.waiting l.sink ≤ sink.waiting l.fn.sink + length text;
      later : sink.faults l.fn.sink ≤ sink.faults l.sink;
    }

abbrev pub decreases-putting : goal.decreases-putting
decreases-putting g l = length (g.A.Account.steps l.account) - l.put
