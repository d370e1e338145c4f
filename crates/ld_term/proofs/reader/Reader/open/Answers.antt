use Rattle.std.proofs.Common.{subst}
use Rattle.ld_term.specs.Held.{IsHeld}
use Rattle.ld_term.proofs.HeldLemmas.{moves-open}
use Rattle.ld_term.proofs.reader.Reader.open.Goals as goal

pub returns : goal.returns
returns c = λ strict s held.
    let old = c.args.self.now in
    rw (c.in-None.is, c.in_ok-push.ensures)
    (moves-open strict s old.left old.outer
    (subst (λ h. IsHeld h old.left old.outer s) c.in-None.is held))
