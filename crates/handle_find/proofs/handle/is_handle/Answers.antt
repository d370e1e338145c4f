-- The letters between two that fit are tested for their indices.
use Rattle.std.proofs.Common.{arith}
use Rattle.handle_find.proofs.HandleLemmas.{IsHandle-by_inside}
use Rattle.handle_find.proofs.handle.is_handle.Goals as goal

pub returns-then-are_opposite : goal.returns-then-are_opposite
returns-then-are_opposite c =
    IsHandle-by_inside _ _ _ _ _ _
    (omega arith)
    (omega arith)
    c.index-word-p.is
    c.index-word-q.is
    (c.are_opposite.ensures.0 c.if-are_opposite.true)
    c.all_higher.ensures
