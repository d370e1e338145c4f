-- Right has no letter.
use Rattle.std.proofs.Common.{sym, refl, ◌∙◌}
use Rattle.handle_find.proofs.CursorLemmas.{empty-right}
use Rattle.handle_find.proofs.scan.Scan.advance.Goals as goal

pub returns-in_default-clause-answer : goal.returns-in_default-clause-answer
returns-in_default-clause-answer c =
    (rw (← c.self.view_is) (empty-right _ (sym c.right_at.ensures ∙ c.in_default.is)), refl)
