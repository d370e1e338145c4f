use Rattle.std.proofs.Common.{arith}
use Rattle.wb_base.proofs.StreamLemmas.{Puts-stopped_part, append_known-part}
use Rattle.wb_base.proofs.WaitingLemmas.{waits-stopped_part, waits-part}
use Rattle.word_reverse.specs.ReverseText.{step_line}
use Rattle.word_reverse.proofs.text.put_steps.Goals as goal

pub returns-in_err-put_some_steps-clause-took : goal.returns-in_err-put_some_steps-clause-took
returns-in_err-put_some_steps-clause-took g c =
    Puts-stopped_part _ _ _ _ step_line _ c.putting.put _ c.from_residual.ensures.0
    c.putting.invariant.took c.in_err-put_some_steps.ensures.took

pub putting-preserved : goal.putting-preserved
putting-preserved g c =
    record {
      within = omega (arith, c.min-count.ensures, c.steps_done-in-putting.ensures);
      took = append_known-part _ _ _ step_line _ c.putting.put _ c.putting.invariant.took
          c.in_ok-put_some_steps.ensures.took;
      waits = waits-part _ _ _ step_line _ c.putting.put _ c.putting.invariant.waits
          c.in_ok-put_some_steps.ensures.waits;
      later = omega (arith, c.putting.invariant.later, c.in_ok-put_some_steps.ensures.cause.later);
    }

pub returns-in_err-put_some_steps-clause-waits : goal.returns-in_err-put_some_steps-clause-waits
returns-in_err-put_some_steps-clause-waits g c =
    waits-stopped_part _ _ _ step_line _ c.putting.put _ c.putting.invariant.waits
    c.in_err-put_some_steps.ensures.waits
