-- What was taken back stands in front of right, replaced.
use Rattle.std.proofs.Common.{◌≡◌, ◌+◌, length}
use Rattle.handle_find.proofs.BackLemmas.{TakenBack}
use Rattle.handle_find.proofs.closing.take_back.Given as goal

abbrev pub invariant-loop : goal.invariant-loop
invariant-loop l = record {
  taken : TakenBack l.first.index l.first.negative l.fn.letters l.letters;
  moved : length l.letters.left + l.counter ≡ length l.fn.letters.left + l.from;
}
