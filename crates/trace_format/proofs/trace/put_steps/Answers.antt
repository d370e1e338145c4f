use Rattle.std.proofs.Common.{◌≡◌, take, ap, sym, ◌∙◌, arith}
use Rattle.std.proofs.lemmas.List.{take_all}
use Rattle.std.specs.List.{flat_map}
use Rattle.std.specs.Io.KnownBytes.{append_known}
use Rattle.wb_base.proofs.StreamLemmas.{Puts-stopped_part, append_known-part}
use Rattle.wb_base.proofs.WaitingLemmas.{waits-stopped_part, waits-part}
use Rattle.trace_format.specs.TraceText.{handle_line}
use Rattle.trace_format.proofs.TraceLemmas.{flat_map-handle_line}
use Rattle.trace_format.proofs.trace.put_steps.Goals as goal

pub returns-in_err-put_some_steps-clause-took : goal.returns-in_err-put_some_steps-clause-took
returns-in_err-put_some_steps-clause-took g c =
    rw (flat_map-handle_line (g.A.Account.steps c.args.account.now))
    (Puts-stopped_part _ _ _ _ handle_line _ c.putting.put _ c.from_residual.ensures.0
    c.putting.invariant.took c.in_err-put_some_steps.ensures.took)

pub putting-preserved : goal.putting-preserved
putting-preserved g c =
    record {
      within = omega (arith, c.min-count.ensures, c.steps_done-in-putting.ensures);
      took = append_known-part _ _ _ handle_line _ c.putting.put _ c.putting.invariant.took
          c.in_ok-put_some_steps.ensures.took;
      waits = waits-part _ _ _ handle_line _ c.putting.put _ c.putting.invariant.waits
          c.in_ok-put_some_steps.ensures.waits;
      later = omega (arith, c.putting.invariant.later, c.in_ok-put_some_steps.ensures.cause.later);
    }

pub returns-clause-took : goal.returns-clause-took
returns-clause-took g c =
    let steps = g.A.Account.steps c.args.account.now in
    let all : take c.putting.put steps ≡ steps = take_all c.putting.put steps
    (omega (arith, c.steps_done.ensures)) in
    c.putting.invariant.took
    ∙ ap (append_known _) (ap (flat_map handle_line) all ∙ sym (flat_map-handle_line steps))

pub returns-in_err-put_some_steps-clause-waits : goal.returns-in_err-put_some_steps-clause-waits
returns-in_err-put_some_steps-clause-waits g c =
    rw (flat_map-handle_line (g.A.Account.steps c.args.account.now))
    (waits-stopped_part _ _ _ handle_line _ c.putting.put _ c.putting.invariant.waits
    c.in_err-put_some_steps.ensures.waits)

pub returns-clause-waits : goal.returns-clause-waits
returns-clause-waits g c =
    let steps = g.A.Account.steps c.args.account.now in
    let all : take c.putting.put steps ≡ steps = take_all c.putting.put steps
    (omega (arith, c.steps_done.ensures)) in
    rw (flat_map-handle_line steps) (rw all at c.putting.invariant.waits)
