-- The turns so far were made.
use Rattle.std.proofs.Common.{◌≡◌}
use Rattle.word_reverse.specs.RevRuns.{turned}
use Rattle.word_reverse.proofs.reverser.Reverser.turn.Given as goal

abbrev pub invariant-loop : goal.invariant-loop
invariant-loop l = l.self ≡ turned l.fn.self l.counter
