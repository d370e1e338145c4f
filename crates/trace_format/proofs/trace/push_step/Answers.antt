use Rattle.trace_format.proofs.TraceLemmas.{step-pushed}
use Rattle.trace_format.proofs.trace.push_step.Goals as goal

pub returns-clause-text : goal.returns-clause-text
returns-clause-text c =
    step-pushed _ _ _ _ _ _ c.args.step.0 c.args.step.1 c.push.ensures
    (rw c.from.ensures at c.push_number.ensures.text) c.push-2.ensures
    (rw c.from-2.ensures at c.push_number-2.ensures.text) c.push-3.ensures
