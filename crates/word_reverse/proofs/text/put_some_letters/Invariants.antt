-- The chunk has the letters before this one.
use Rattle.std.proofs.Common.{◌≡◌, ◌*◌, ◌≤◌, length, take, drop}
use Rattle.std.specs.List.{flat_map}
use Rattle.braid_word.specs.Notation.{next_text}
use Rattle.word_reverse.specs.Written.{side_of}
use Rattle.word_reverse.proofs.text.put_some_letters.Given as goal

abbrev pub invariant-loop-k : goal.invariant-loop-k
invariant-loop-k g l =
    record {
      text : l.text ≡ flat_map next_text (take l.k (drop l.from (side_of l.side l.run.run.present)));
      size : length l.text ≤ 22 * l.k;
    }
