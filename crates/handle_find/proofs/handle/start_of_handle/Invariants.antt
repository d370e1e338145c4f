-- The letters that were passed have higher indices than the last.
use Rattle.std.proofs.Common.{◌≡◌, ℕ, ◌<◌, ◌≤◌}
use Rattle.handle_find.specs.Handles.{at}
use Rattle.handle_find.proofs.handle.start_of_handle.Given as goal

abbrev pub invariant-loop-start : goal.invariant-loop-start
invariant-loop-start l = record {
  last : l.last ≡ at l.word l.end;
  higher : (k : ℕ) → l.start ≤ k → k < l.end → l.last.index < (at l.word k).index;
}
