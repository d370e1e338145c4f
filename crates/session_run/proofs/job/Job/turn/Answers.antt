use Rattle.std.proofs.Common.{arith}
use Rattle.braid_word.specs.Words.{quotient}
use Rattle.session_run.proofs.JobLemmas.{Works-turned}
use Rattle.session_run.proofs.job.Job.turn.Goals as goal

pub invariant_of-self : goal.invariant_of-self
invariant_of-self c =
    let inside = c.self.inside in
    Works-turned _ _ _ c.args.count _ c.self.invariant
    (c.turn.ensures.run (quotient inside.left inside.right) inside.handles inside.limit inside.turns)
    (omega (
      arith,
      c.self.invariant.few_handles,
      c.saturating_add.ensures,
      c.min-self-inside.ensures,
      c.ranges.count.fits,
    ))
