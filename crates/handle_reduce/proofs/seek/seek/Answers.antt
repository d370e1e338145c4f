-- No handle ends before the cursor: one that ends there is the leftmost, and at the end there is none.
use Rattle.handle_reduce.proofs.SeekLemmas.{leftmost-closes, leftmost-end}
use Rattle.handle_reduce.proofs.seek.seek.Goals as goal

pub returns-in-End-clause-found : goal.returns-in-End-clause-found
returns-in-End-clause-found c =
    let answer = c.in-End.ensures.answer in
    rw answer.1 (answer.0, leftmost-end _ _ (rw answer.1 at c.in-End.ensures.none) answer.0)

pub returns-in-Closes-clause-found : goal.returns-in-Closes-clause-found
returns-in-Closes-clause-found c =
    let answer = c.in-Closes.ensures.answer in
    rw answer.1 (leftmost-closes _ _ _ (rw answer.1 at c.in-Closes.ensures.none) answer.0)
