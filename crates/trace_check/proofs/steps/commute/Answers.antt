use Rattle.std.proofs.Common.{rules, ◌-◌, [], ◌∷◌, arith}
use Rattle.trace_check.proofs.TakingLemmas.{Took, Took-two, Puts, Puts-none, Puts-more, IsPresent-step, stepped-far}
use Rattle.trace_check.proofs.steps.commute.Goals as goal

-- the letters are taken out
took
    : (c : goal.After-nothing)
    → Took c.args.word.now (c.args.place - 1) (c.in_ok-x.x ∷ c.in_ok-y.y ∷ []) c.take_letter-2.new.word
took c =
    Took-two _ _ _ _ _ _ _ c.go_to.ensures c.in_ok-x.ensures c.in_ok-y.ensures

-- and others are put in
puts
    : (c : goal.After-nothing)
    → Puts c.take_letter-2.new.word (c.in_ok-y.y ∷ c.in_ok-x.x ∷ []) c.push_right-2.new.self
puts c =
    let room = (took c).spare in
    Puts-more _ _ _ _ _ (Puts-more _ _ _ _ _ (Puts-none _) (omega (arith, room)) c.push_right.ensures)
    (omega (arith, room)) c.push_right-2.ensures

pub returns-clause-word : goal.returns-clause-word
returns-clause-word c =
    stepped-far _ _ _ _ _ _ (took c) (puts c) c.requires.present (search rules)

pub returns-clause-present : goal.returns-clause-present
returns-clause-present c =
    IsPresent-step _ _ _ _ _ _ (took c) (puts c) (omega arith) c.requires.present
