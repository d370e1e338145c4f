-- How the reduction of a quotient has ended. No public clause cites this.
--
-- Source: this project's own.
--
--   ended_answer text H L ended   the resulting answer, where `text` writes the trace
use Rattle.std.specs.Prelude.{ℕ, List, codes}
use Rattle.wb_base.specs.Status.{Answer, answer}
use Rattle.wb_base.specs.declared.status.Status.TheVariants.{Done}
use Rattle.handle_reduce.specs.Runs.{RunState}
use Rattle.trace_format.specs.declared.verdict.Verdict.{Verdict}
use Rattle.wb_command.specs.Answers.{limit_met}
use Rattle.wb_compare.specs.declared.reduce.Ended.{Ended}
use Rattle.wb_compare.specs.declared.reduce.Ended.TheVariants as endings

abbrev pub ended_answer : (RunState → Verdict → List ℕ) → ℕ → ℕ → Ended → Answer
ended_answer text handles limit (endings.Decided verdict reduction) = answer Done (text reduction.run verdict)
ended_answer text handles limit endings.HandlesMet = limit_met (codes "handles ") handles
ended_answer text handles limit endings.LengthMet = limit_met (codes "length ") limit
