use Rattle.std.proofs.Common.{rules, ◌-◌, [], ◌∷◌, arith}
use Rattle.trace_check.proofs.TakingLemmas.{Took, Took-three, Puts, Puts-none, Puts-more, IsPresent-step, stepped-braided}
use Rattle.trace_check.proofs.steps.swap.Goals as goal

-- the letters are taken out
took
    : (c : goal.After-nothing)
    → Took c.args.word.now (c.args.place - 1) (c.in_ok-x.x ∷ c.in_ok-y.y ∷ c.in_ok-z.z ∷ [])
    c.take_letter-3.new.word
took c =
    Took-three _ _ _ _ _ _ _ _ _ c.go_to.ensures c.in_ok-x.ensures c.in_ok-y.ensures c.in_ok-z.ensures

-- and others are put in
puts
    : (c : goal.After-nothing)
    → Puts c.take_letter-3.new.word (c.in_ok-y.y ∷ c.in_ok-x.x ∷ c.in_ok-y.y ∷ []) c.push_right-3.new.self
puts c =
    let room = (took c).spare in
    Puts-more _ _ _ _ _
    (Puts-more _ _ _ _ _ (Puts-more _ _ _ _ _ (Puts-none _) (omega (arith, room)) c.push_right.ensures)
    (omega (arith, room)) c.push_right-2.ensures)
    (omega (arith, room)) c.push_right-3.ensures

pub returns-clause-word : goal.returns-clause-word
returns-clause-word c =
    stepped-braided _ _ _ _ _ _ _ (took c) (puts c) c.requires.present (search rules)

pub returns-clause-present : goal.returns-clause-present
returns-clause-present c =
    IsPresent-step _ _ _ _ _ _ (took c) (puts c) (omega arith) c.requires.present
