-- The answer of the leftmost reduction of a quotient.
--
-- Source: this project's own; handle reduction is that of P. Dehornoy, A fast method for comparing braids,
-- 1997.
--
--   ended text H L p       the answer of a run that stands so, after H turns
--   run_answer text H L u v   the answer of the run of the quotient of u and v, where `text` writes its trace
--   trace_of h run d       the trace of what is compared
use Rattle.std.specs.Prelude.{ℕ, List, codes, map, Option, Some, None}
use Rattle.std.specs.Option.{option_map}
use Rattle.wb_base.specs.Status.{Answer, answer}
use Rattle.wb_base.specs.declared.status.Status.TheVariants.{Done}
use Rattle.braid_word.specs.Words.{Letter, quotient}
use Rattle.handle_reduce.specs.Runs.{RunState, run_after}
use Rattle.handle_reduce.specs.declared.progress.Progress.{Progress}
use Rattle.handle_reduce.specs.declared.progress.Progress.TheVariants as progress
use Rattle.trace_format.specs.declared.verdict.Verdict.{Verdict}
use Rattle.trace_format.specs.Verdicts.{verdict_of}
use Rattle.trace_format.specs.TraceText.{Header, Trace, handle_step}
use Rattle.wb_command.specs.Answers.{limit_met}

-- The answer of a run that stands so after as many turns as it may reduce handles, where `text` writes its
-- trace. Such a run isn't running, and its sign isn't mixed.
abbrev pub ended : (Verdict → List ℕ) → ℕ → ℕ → Progress → Option Answer
ended text handles limit progress.Running = None
ended text handles limit (progress.Done sign) =
    option_map (λ (verdict : Verdict). answer Done (text verdict)) (verdict_of sign)
ended text handles limit progress.HandlesMet = Some (limit_met (codes "handles ") handles)
ended text handles limit progress.LengthMet = Some (limit_met (codes "length ") limit)

-- The trace of the leftmost reduction of the quotient, as `text` writes it, where that ends within both
-- limits; else the limit that it meets.
unfoldable pub run_answer : (RunState → Verdict → List ℕ) → ℕ → ℕ → List Letter → List Letter → Option Answer
run_answer text handles limit u v =
    let run = run_after (quotient u v) handles limit handles in ended (text run) handles limit run.progress

-- The trace of what is compared, where the quotient has this run.
abbrev pub trace_of : Header → RunState → Verdict → Trace
trace_of header run verdict = record {
  header = header;
  steps = map handle_step run.steps;
  verdict = verdict;
  witness = run.present;
}
