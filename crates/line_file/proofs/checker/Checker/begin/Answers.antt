use Rattle.std.proofs.Common.{sym}
use Rattle.line_file.proofs.PieceLaws.{held_of-none}
use Rattle.line_file.proofs.checker.Checker.begin.Goals as goal

pub returns : goal.returns
returns g c = rw (c.in_ok-start.ensures, c.new.ensures.items) (sym (held_of-none g.F.LineFormat.format))
