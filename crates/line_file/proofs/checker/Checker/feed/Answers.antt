use Rattle.std.proofs.Common.{ap, ◌∙◌}
use Rattle.line_file.specs.CheckerView.{held_in}
use Rattle.line_file.proofs.PieceLaws.{Comes-stands}
use Rattle.line_file.proofs.checker.Checker.feed.Goals as goal

pub returns-clause-stands : goal.returns-clause-stands
returns-clause-stands g c =
    λ bytes stands. Comes-stands g.F.LineFormat.format _ _ bytes c.args.piece.now c.feed.ensures.held
    (ap held_in c.replace-kept.ensures.value ∙ c.self.view_is ∙ stands)
