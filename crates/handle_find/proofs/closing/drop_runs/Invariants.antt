-- What was dropped stood at the end.
use Rattle.std.proofs.Common.{◌≡◌, ◌+◌, ◌++◌, ℕ, List, length}
use Rattle.gap_word.specs.Gap.{room}
use Rattle.handle_find.proofs.closing.drop_runs.Given as goal

abbrev pub invariant-loop : goal.invariant-loop
invariant-loop l = record {
  back : List ℕ;
  left : l.fn.runs.left ≡ l.runs.left ++ back;
  right : l.runs.right ≡ l.fn.runs.right;
  moved : length l.runs.left + l.counter ≡ length l.fn.runs.left + l.from;
  same_room : room l.runs ≡ room l.fn.runs;
}
