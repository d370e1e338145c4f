use Rattle.std.proofs.Common.{ap, ◌∙◌, subst}
use Rattle.trace_format.specs.TraceLines.{Reads, line_of}
use Rattle.trace_format.proofs.LineLaws.{IfOk-reads, line_of-line_text}
use Rattle.trace_format.proofs.line.read_line.Goals as goal

pub returns-clause-text : goal.returns-clause-text
returns-clause-text c =
    IfOk-reads c.args.line.now c.read_by_keyword.result c.read_by_keyword.ensures.line
    c.read_by_keyword.ensures.nameless

pub returns-clause-only : goal.returns-clause-only
returns-clause-only c = λ l is text.
    subst (Reads c.read_by_keyword.result) (ap line_of text ∙ line_of-line_text l is)
    c.read_by_keyword.ensures.line
