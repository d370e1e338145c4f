use Rattle.std.proofs.Common.{rules, arith}
use Rattle.trace_check.proofs.TakingLemmas.{Took-two, Puts-none, IsPresent-step, stepped-inverse}
use Rattle.trace_check.proofs.steps.delete.Goals as goal

pub returns-clause-word : goal.returns-clause-word
returns-clause-word c =
    stepped-inverse _ _ _ _ _ (Took-two _ _ _ _ _ _ _ c.go_to.ensures c.in_ok-x.ensures c.in_ok-y.ensures)
    c.requires.present (search rules)

pub returns-clause-present : goal.returns-clause-present
returns-clause-present c =
    IsPresent-step _ _ _ _ _ _ (Took-two _ _ _ _ _ _ _ c.go_to.ensures c.in_ok-x.ensures c.in_ok-y.ensures)
    (Puts-none _) (omega arith) c.requires.present
