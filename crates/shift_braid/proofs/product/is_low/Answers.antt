use Rattle.std.proofs.Common.{◌≤◌, ap, arith}
use Rattle.braid_word.specs.Words.{Letter}
use Rattle.braid_word.specs.declared.TheConstants.{MAX_INDEX}
use Rattle.shift_braid.proofs.BracketLemmas.{some_at}
use Rattle.shift_braid.proofs.product.is_low.Goals as goal

pub returns-then-letter-ge-MAX_INDEX-clause-high : goal.returns-then-letter-ge-MAX_INDEX-clause-high
returns-then-letter-ge-MAX_INDEX-clause-high c =
    let index = ap (λ (x : Letter). x.index) c.letter.view_is in
    λ _. some_at (λ x. MAX_INDEX ≤ x.index) _ _ _ _ (omega arith) c.letter-item.is (omega arith)
