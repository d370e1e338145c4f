-- The chunk has the lines of the steps before this one.
use Rattle.std.proofs.Common.{◌≡◌, ◌*◌, ◌≤◌, length, take, drop}
use Rattle.std.specs.List.{flat_map}
use Rattle.word_reverse.specs.ReverseText.{step_line}
use Rattle.word_reverse.proofs.text.put_some_steps.Given as goal

abbrev pub invariant-loop-k : goal.invariant-loop-k
invariant-loop-k g l =
    record {
      text : l.text ≡ flat_map step_line (take l.k (drop l.from l.run.run.places));
      size : length l.text ≤ 23 * l.k;
    }
