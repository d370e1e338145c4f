-- Laws of the run of a quotient.
--
-- A run is over after as many turns as it may reduce handles, and its sign isn't mixed (`run-over`,
-- `run-decided`), so it has an answer (`ended-total`).
use Rattle.std.proofs.Common.{◌≡◌, ℕ, ◌+◌, ◌<◌, List, length, Option, Some, None, refl, ap, sym, ◌∙◌, zero-add, codes, arith}
use Rattle.std.specs.Option.{option_map}
use Rattle.wb_base.specs.Status.{Answer, answer}
use Rattle.wb_base.specs.declared.status.Status.TheVariants.{Done, Refused}
use Rattle.braid_word.specs.Words.{Letter, quotient}
use Rattle.braid_word.proofs.WordLemmas.{length-quotient}
use Rattle.braid_word.specs.declared.sign.Sign.{Sign}
use Rattle.braid_word.specs.declared.sign.Sign.TheVariants.{Empty, Positive, Negative, Mixed}
use Rattle.handle_reduce.specs.Runs.{RunState, LimitedRun, IsRunAfter, run_after}
use Rattle.handle_reduce.specs.declared.progress.Progress.{Progress}
use Rattle.handle_reduce.specs.declared.progress.Progress.TheVariants as progress
use Rattle.handle_reduce.proofs.RunLemmas.{run_after-ended, run_after-long}
use Rattle.handle_reduce.proofs.SignOfReduced.{run_after-Mixed}
use Rattle.trace_format.specs.Verdicts.{verdict_of}
use Rattle.trace_format.specs.declared.verdict.Verdict.{Verdict}
use Rattle.wb_command.specs.Answers.{limit_met}
use Rattle.wb_command.proofs.TermInputLemmas.{status-of}
use Rattle.wb_compare.specs.Reductions.{ended, run_answer}

-- the run of a reducer after all its turns, of the quotient of u and v
pub run-all
    : (w : List Letter) (handles limit : ℕ) (r : LimitedRun)
    → IsRunAfter w handles limit (0 + handles) r
    → r.run ≡ run_after w handles limit handles
run-all w handles limit r is =
    let now : r.run ≡ run_after w handles limit (0 + handles) = ap (λ (s : LimitedRun). s.run) is in
    now ∙ rw zero-add refl

-- what is answered by how the run stands
pub run_answer-stands
    : (text : RunState → Verdict → List ℕ) (handles limit : ℕ) (u v : List Letter) (run : RunState)
    (p : Progress)
    → run ≡ run_after (quotient u v) handles limit handles
    → p ≡ run.progress
    → run_answer text handles limit u v ≡ ended (text run) handles limit p
unfolding run_answer
run_answer-stands text handles limit u v run p is stands = rw (stands, is) refl

-- it doesn't go on
pub run-over
    : (w : List Letter) (handles limit : ℕ) (run : RunState)
    → run ≡ run_after w handles limit handles
    → run.progress ≡ progress.Running
    → ⊥
run-over w handles limit run is running =
    run_after-ended w handles limit (ap (λ (s : RunState). s.progress) (sym is) ∙ running)

-- a sign without a verdict is mixed
verdict_of-None : (sign : Sign) → verdict_of sign ≡ None → (i : ℕ) × (sign ≡ Mixed i)
verdict_of-None Empty none = absurd cc
verdict_of-None (Positive i) none = absurd cc
verdict_of-None (Negative i) none = absurd cc
verdict_of-None (Mixed i) none = (i, refl)

-- and isn't that of a run that is done
pub run-decided
    : (w : List Letter) (handles limit : ℕ) (run : RunState) (sign : Sign)
    → run ≡ run_after w handles limit handles
    → run.progress ≡ progress.Done sign
    → verdict_of sign ≡ None
    → ⊥
run-decided w handles limit run sign is done none =
    let (i, mixed) = verdict_of-None sign none in
    run_after-Mixed w handles limit handles i
    (ap (λ (s : RunState). s.progress) (sym is) ∙ done ∙ ap progress.Done mixed)

-- a quotient that is too long meets the length at once
pub run_answer-long
    : (text : RunState → Verdict → List ℕ) (u v : List Letter) (handles limit : ℕ)
    → limit < length u + length v
    → run_answer text handles limit u v ≡ Some (limit_met (codes "length ") limit)
unfolding run_answer
run_answer-long text u v handles limit long =
    let size = length-quotient u v in
    let met = run_after-long (quotient u v) handles limit handles (omega (arith, long, size)) in rw met refl

-- a run that is over has an answer
pub ended-total
    : (text : Verdict → List ℕ) (handles limit : ℕ) (w : List Letter) (run : RunState) (p : Progress)
    → run ≡ run_after w handles limit handles
    → run.progress ≡ p
    → (a : Answer) × (ended text handles limit p ≡ Some a)
ended-total text handles limit w run progress.Running is stands =
    absurd (run-over w handles limit run is stands)
ended-total text handles limit w run (progress.Done Empty) is stands = (_, refl)
ended-total text handles limit w run (progress.Done (Positive i)) is stands = (_, refl)
ended-total text handles limit w run (progress.Done (Negative i)) is stands = (_, refl)
ended-total text handles limit w run (progress.Done (Mixed i)) is stands =
    absurd (run-decided w handles limit run (Mixed i) is stands refl)
ended-total text handles limit w run progress.HandlesMet is stands = (_, refl)
ended-total text handles limit w run progress.LengthMet is stands = (_, refl)

-- a run that has ended isn't refused
pub ended-Refused
    : (text : Verdict → List ℕ) (handles limit : ℕ) (p : Progress) (a : Answer)
    → ended text handles limit p ≡ Some a
    → a.status ≡ Refused
    → ⊥
ended-Refused text handles limit progress.Running a is refused = cc
ended-Refused text handles limit (progress.Done sign) a is refused = decided (verdict_of sign) is
  where
    decided : (o : Option Verdict) → option_map (λ (d : Verdict). answer Done (text d)) o ≡ Some a → ⊥
    decided None is = cc
    decided (Some verdict) is = let other = status-of _ a Refused is refused in cc
ended-Refused text handles limit progress.HandlesMet a is refused =
    let other = status-of _ a Refused is refused in cc
ended-Refused text handles limit progress.LengthMet a is refused =
    let other = status-of _ a Refused is refused in cc
