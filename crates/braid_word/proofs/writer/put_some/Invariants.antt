-- The chunk has the letters before this one.
use Rattle.std.proofs.Common.{◌≡◌, ◌*◌, ◌≤◌, length, take}
use Rattle.std.specs.List.{flat_map}
use Rattle.braid_word.specs.Notation.{next_text}
use Rattle.braid_word.proofs.writer.put_some.Given as goal

abbrev pub invariant-loop-letter : goal.invariant-loop-letter
invariant-loop-letter g l =
    record {
      text : l.text ≡ flat_map next_text (take l.letter-index l.letters);
      size : length l.text ≤ 22 * l.letter-index;
    }
