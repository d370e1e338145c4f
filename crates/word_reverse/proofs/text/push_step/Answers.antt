use Rattle.word_reverse.proofs.TextLemmas.{step-pushed}
use Rattle.word_reverse.proofs.text.push_step.Goals as goal

pub returns-clause-text : goal.returns-clause-text
returns-clause-text c =
    step-pushed _ _ _ _ c.args.place c.push.ensures (rw c.from.ensures at c.push_number.ensures.text)
    c.push-2.ensures
