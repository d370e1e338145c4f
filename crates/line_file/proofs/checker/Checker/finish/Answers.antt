use Rattle.std.proofs.Common.{◌∙◌}
use Rattle.line_file.proofs.PieceLaws.{Ends-stands}
use Rattle.line_file.proofs.checker.Checker.finish.Goals as goal

pub returns-clause-file : goal.returns-clause-file
returns-clause-file g c =
    λ bytes stands. Ends-stands g.F.LineFormat.format _ bytes _ c.end.ensures (c.self.view_is ∙ stands)
