use Rattle.std.proofs.Common.{arith, ap}
use Rattle.std.specs.Prelude.{length}
use Rattle.braid_word.proofs.WordLemmas.{length-quotient}
use Rattle.session_run.proofs.job.Job.begin.Goals as goal

pub of_quotient-requires-clause-words : goal.of_quotient-requires-clause-words
of_quotient-requires-clause-words c =
    let left = ap length c.letters.ensures in
    let right = ap length c.letters-2.ensures in
    let size = length-quotient c.args.words.0 c.args.words.1 in
    omega (arith, left, right, size, c.requires.short)
