use Rattle.ld_cert.proofs.DifferenceLemmas.{equivalent-AreAlikeIn}
use Rattle.ld_cert.proofs.difference.differ.Goals as goal

pub returns-then-not-branch-clause-apart : goal.returns-then-not-branch-clause-apart
returns-then-not-branch-clause-apart c = λ equivalent.
    let alike = c.in_ok-are_alike.ensures.1 (equivalent-AreAlikeIn c.loop-m.m _ _ equivalent) in
    let not = c.if-not-branch.true in
    absurd (cc)
