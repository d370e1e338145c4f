-- What a line of a trace file says.
--
-- A reader gives it with the words and trees that it made. Two trees that are the same term are made in
-- different places; so what a line says is told by the term.
-- Source: this project's own.
--
--   Said            what a line says
--   said_by l       what a line that was read says
--   IsNameless l    its term has no names
use Rattle.std.specs.Prelude.{List}
use Rattle.braid_word.specs.Words.{Letter}
use Rattle.ld_term.specs.Terms.{Term}
use Rattle.ld_term.specs.Written.{HasNoName}
use Rattle.ld_term.specs.StrictTexts.{as_term}
use Rattle.ld_term.specs.TreeTexts.{written}
use Rattle.trace_format.specs.declared.line.StepLine.{StepLine}
use Rattle.trace_format.specs.declared.verdict.Verdict.{Verdict}
use Rattle.trace_format.specs.declared.line.Line.{Line}
use Rattle.trace_format.specs.declared.line.Line.TheVariants as lines

-- The start, the left or the right word, the left or the right term, a step, the verdict, the witness, or the
-- end.
pub data Said : Type 0 where
  start : Said
  left : (w : List Letter) → Said
  right : (w : List Letter) → Said
  left_term : (t : Term) → Said
  right_term : (t : Term) → Said
  step : (s : StepLine) → Said
  verdict : (v : Verdict) → Said
  witness : (w : List Letter) → Said
  finish : Said

-- What a line that was read says.
abbrev pub said_by : Line → Said
said_by lines.Start = start
said_by (lines.Left w) = left w
said_by (lines.Right w) = right w
said_by (lines.LeftTerm tree) = left_term (as_term (written tree))
said_by (lines.RightTerm tree) = right_term (as_term (written tree))
said_by (lines.Step s) = step s
said_by (lines.Verdict v) = verdict v
said_by (lines.Witness w) = witness w
said_by lines.Finish = finish

-- A term that was read has no names.
abbrev pub IsNameless : Line → Type 0
IsNameless (lines.LeftTerm tree) = HasNoName (written tree)
IsNameless (lines.RightTerm tree) = HasNoName (written tree)
IsNameless other = Unit {0}
