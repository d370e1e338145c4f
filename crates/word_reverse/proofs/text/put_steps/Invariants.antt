-- The sink has taken the lines of the steps before this one.
use Rattle.std.proofs.Common.{◌≡◌, ◌+◌, ◌-◌, ◌≤◌, length, take}
use Rattle.std.specs.List.{flat_map}
use Rattle.std.specs.Io.KnownBytes.{append_known}
use Rattle.word_reverse.specs.ReverseText.{step_line}
use Rattle.word_reverse.proofs.text.put_steps.Given as goal

abbrev pub invariant-putting : goal.invariant-putting
invariant-putting g l =
    let sink = g.K.Sink in
    let text = flat_map step_line (take l.put l.run.run.places) in
    record {
      within : l.put ≤ length l.run.run.places;
      took : sink.taken l.sink ≡ append_known (sink.taken l.fn.sink) text;
      waits : sink.waiting l.sink ≤ sink.waiting l.fn.sink + length text;
      later : sink.faults l.fn.sink ≤ sink.faults l.sink;
    }

abbrev pub decreases-putting : goal.decreases-putting
decreases-putting g l = length l.run.run.places - l.put
