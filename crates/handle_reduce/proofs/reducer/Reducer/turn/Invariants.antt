-- The turns so far were made.
use Rattle.std.proofs.Common.{◌≡◌}
use Rattle.handle_reduce.specs.Runs.{turned}
use Rattle.handle_reduce.proofs.reducer.Reducer.turn.Given as goal

abbrev pub invariant-loop : goal.invariant-loop
invariant-loop l = l.self ≡ turned l.fn.self l.counter
