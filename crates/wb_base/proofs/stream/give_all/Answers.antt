use Rattle.wb_base.proofs.StreamLemmas.{took_more, within_rest, Puts-take}
use Rattle.std.proofs.Common.{arith, ◌∙◌}
use Rattle.wb_base.proofs.stream.give_all.Goals as goal

pub returns-in_err-given-clause-took : goal.returns-in_err-given-clause-took
returns-in_err-given-clause-took g c =
    Puts-take _ _ _ _ c.loop-given.given c.from_residual.ensures.0
    (c.in_err-given.ensures.took ∙ c.loop-given.invariant.took)

pub loop-given-preserved : goal.loop-given-preserved
loop-given-preserved g c =
    record {
      within = within_rest _ _ _ (omega arith) c.in_ok-given.ensures.within;
      took = took_more _ _ _ _ _ _ c.loop-given.invariant.took c.in_ok-given.ensures.took.0;
      waits = omega (arith, c.loop-given.invariant.waits, c.in_ok-given.ensures.waits);
      later = omega (arith, c.loop-given.invariant.later, c.in_ok-given.ensures.cause.later);
    }
