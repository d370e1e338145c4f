use Rattle.std.proofs.Common.{subst}
use Rattle.ld_term.specs.Held.{IsHeld}
use Rattle.ld_term.proofs.HeldLemmas.{moves-variable, moves-name}
use Rattle.ld_term.proofs.reader.Reader.leaf.Goals as goal

pub returns-clause-variable : goal.returns-clause-variable
returns-clause-variable c = λ strict s held.
    moves-variable strict s c.args.self.now.left c.args.self.now.outer
    (subst (λ h. IsHeld h c.args.self.now.left c.args.self.now.outer s) c.in-None.is held)

pub returns-clause-name : goal.returns-clause-name
returns-clause-name c = λ strict bytes place s held.
    moves-name strict bytes place s c.args.self.now.left c.args.self.now.outer
    (subst (λ h. IsHeld h c.args.self.now.left c.args.self.now.outer s) c.in-None.is held)
