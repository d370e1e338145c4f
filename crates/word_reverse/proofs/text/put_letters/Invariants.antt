-- The sink has taken the letters before this one.
use Rattle.std.proofs.Common.{◌≡◌, ◌+◌, ◌-◌, ◌≤◌, length, take}
use Rattle.std.specs.List.{flat_map}
use Rattle.std.specs.Io.KnownBytes.{append_known}
use Rattle.braid_word.specs.Notation.{next_text}
use Rattle.word_reverse.specs.Written.{side_of}
use Rattle.word_reverse.proofs.text.put_letters.Given as goal

abbrev pub invariant-putting : goal.invariant-putting
invariant-putting g l =
    let sink = g.K.Sink in
    let text = flat_map next_text (take l.put (side_of l.side l.run.run.present)) in
    record {
      within : l.put ≤ length (side_of l.side l.run.run.present);
      took : sink.taken l.sink ≡ append_known (sink.taken l.fn.sink) text;
      waits : sink.waiting l.sink ≤ sink.waiting l.fn.sink + length text;
      later : sink.faults l.fn.sink ≤ sink.faults l.sink;
    }

abbrev pub decreases-putting : goal.decreases-putting
decreases-putting g l = length (side_of l.side l.run.run.present) - l.put
