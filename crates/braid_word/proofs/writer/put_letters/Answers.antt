use Rattle.std.proofs.Common.{◌≡◌, ◌+◌, ◌-◌, arith}
use Rattle.wb_base.proofs.StreamLemmas.{Puts-stopped_part, append_known-part}
use Rattle.wb_base.proofs.WaitingLemmas.{waits-stopped_part, waits-part}
use Rattle.braid_word.specs.Notation.{next_text}
use Rattle.braid_word.proofs.writer.put_letters.Goals as goal

pub putting-preserved : goal.putting-preserved
putting-preserved g c =
    let k = c.putting.put in
    let n = (k + c.min-count.result) - k in
    let all : k + n ≡ k + c.min-count.result = omega arith in
    record {
      within = omega (arith, c.min-count.ensures);
      took = rw all at
          (append_known-part _ _ _ next_text c.args.letters.now k n c.putting.invariant.took
          c.in_ok-put_some.ensures.took);
      waits = rw all at
          (waits-part _ _ _ next_text c.args.letters.now k n c.putting.invariant.waits
          c.in_ok-put_some.ensures.waits);
      later = omega (arith, c.putting.invariant.later, c.in_ok-put_some.ensures.cause.later);
    }

pub returns-in_err-put_some-clause-took : goal.returns-in_err-put_some-clause-took
returns-in_err-put_some-clause-took g c =
    Puts-stopped_part _ _ _ _ next_text c.args.letters.now c.putting.put _ c.from_residual.ensures.0
    c.putting.invariant.took c.in_err-put_some.ensures.took

pub returns-in_err-put_some-clause-waits : goal.returns-in_err-put_some-clause-waits
returns-in_err-put_some-clause-waits g c =
    waits-stopped_part _ _ _ next_text c.args.letters.now c.putting.put _ c.putting.invariant.waits
    c.in_err-put_some.ensures.waits
