use Rattle.std.specs.List.{flat_map}
use Rattle.std.proofs.Common.{refl}
use Rattle.wb_base.proofs.StreamLemmas.{Puts-stopped, Puts-more}
use Rattle.wb_base.proofs.WaitingLemmas.{waits-stopped, waits-more}
use Rattle.word_reverse.specs.ReverseText.{step_line}
use Rattle.word_reverse.proofs.text.put_body.Goals as goal

pub returns-in_err-put_steps-clause-took : goal.returns-in_err-put_steps-clause-took
returns-in_err-put_steps-clause-took g c =
    let steps = flat_map step_line c.args.run.now.run.places in
    Puts-stopped _ _ _ _ steps _ refl c.from_residual.ensures.0 c.in_err-put_steps.ensures.took

pub returns-clause-took : goal.returns-clause-took
returns-clause-took g c =
    let steps = flat_map step_line c.args.run.now.run.places in
    Puts-more _ _ _ _ _ steps _ refl c.in_ok-put_steps.ensures.took c.put_tail.ensures.took

pub returns-in_err-put_steps-clause-waits : goal.returns-in_err-put_steps-clause-waits
returns-in_err-put_steps-clause-waits g c =
    let steps = flat_map step_line c.args.run.now.run.places in
    waits-stopped _ _ _ steps _ refl c.in_err-put_steps.ensures.waits

pub returns-clause-waits : goal.returns-clause-waits
returns-clause-waits g c =
    let steps = flat_map step_line c.args.run.now.run.places in
    waits-more _ _ _ _ steps _ refl c.in_ok-put_steps.ensures.waits c.put_tail.ensures.waits
