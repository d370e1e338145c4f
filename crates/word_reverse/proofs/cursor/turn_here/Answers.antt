-- A front of left has no corner.
use Rattle.std.proofs.Common.{arith}
use Rattle.word_reverse.proofs.CursorLemmas.{passed-front}
use Rattle.word_reverse.proofs.cursor.turn_here.Goals as goal

pub returns-clause-turned : goal.returns-clause-turned
returns-clause-turned c = λ _. (
  omega (arith, c.turned_len.ensures, c.if-turned_len-limit.false),
  c.turn_pair.ensures.word,
  passed-front _ _ c.requires.corner.passed c.turn_pair.ensures.front,
)
