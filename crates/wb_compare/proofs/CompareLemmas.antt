-- Laws of the command `compare`.
--
-- It has an answer to any input (`compare_meaning-total`), and the text of one that is done is an accepted
-- trace of
-- the two words (`HasVerdict-compared`).
use Rattle.std.proofs.Common.{◌≡◌, ℕ, ◌+◌, ◌≤◌, List, length, Option, Some, None, Result, Ok, Err, refl, ap, sym, subst, ◌∙◌, arith}
use Rattle.std.specs.Option.{option_map}
use Rattle.wb_base.specs.Status.{Answer, answer}
use Rattle.wb_base.specs.declared.status.Status.TheVariants.{Done, Refused}
use Rattle.braid_word.specs.Words.{Letter, quotient}
use Rattle.braid_word.specs.declared.TheConstants.{MAX_INDEX}
use Rattle.braid_word.specs.declared.sign.Sign.{Sign}
use Rattle.handle_reduce.specs.Runs.{RunState, run_after}
use Rattle.handle_reduce.specs.declared.TheConstants.{MAX_BOUND}
use Rattle.handle_reduce.specs.declared.progress.Progress.{Progress}
use Rattle.handle_reduce.specs.declared.progress.Progress.TheVariants as progress
use Rattle.handle_reduce.proofs.RunLemmas.{length-steps}
use Rattle.trace_format.specs.Verdicts.{verdict_of}
use Rattle.trace_format.specs.declared.verdict.Verdict.{Verdict}
use Rattle.trace_format.specs.TraceText.{words as of_words, Trace, trace_text}
use Rattle.trace_check.specs.Accepted.{IsAccepted}
use Rattle.trace_check.proofs.AcceptedLemmas.{IsValid-accepted, IsStepOn-handle_step}
use Rattle.wb_command.specs.declared.TheConstants.{MAX_INPUT}
use Rattle.wb_command.specs.declared.fault.Fault.{Fault}
use Rattle.wb_command.specs.Inputs.{two_words}
use Rattle.wb_command.specs.Meaning.{IsSound}
use Rattle.wb_command.proofs.InputLemmas.{two_words-IsReadOn}
use Rattle.wb_command.proofs.TermInputLemmas.{status-of}
use Rattle.wb_compare.specs.Limits.{Limits, AreLimits}
use Rattle.wb_compare.specs.Reductions.{ended, run_answer, trace_of}
use Rattle.wb_compare.specs.Compare.{compared_words, HasVerdict, compare_meaning}
use Rattle.wb_compare.proofs.TraceLengths.{length-trace_text}
use Rattle.wb_compare.proofs.AcceptedTraces.{IsAccepted-Done}
use Rattle.wb_compare.proofs.ReductionLemmas.{ended-total, ended-Refused}

-- `compare` has an answer to any input
compared_words-total
    : (handles limit : ℕ) (words : Result (List Letter × List Letter) Fault)
    → (a : Answer) × (compared_words handles limit words ≡ Some a)
unfolding run_answer
compared_words-total handles limit (Err fault) = (_, refl)
compared_words-total handles limit (Ok (u, v)) = ended-total _ handles limit (quotient u v) _ _ refl refl

-- a run that is done
HasVerdict-Done
    : (handles limit : ℕ) (input : List ℕ) (u v : List Letter) (sign : Sign) (o : Option Verdict)
    (a : Answer)
    → let run = run_after (quotient u v) handles limit handles in
    handles ≤ MAX_BOUND
    → limit ≤ MAX_BOUND
    → two_words (MAX_INDEX + 1) input ≡ Ok (u, v)
    → run.progress ≡ progress.Done sign
    → verdict_of sign ≡ o
    → option_map (λ (d : Verdict). answer Done (trace_text (trace_of (of_words u v) run d))) o ≡ Some a
    → HasVerdict input a.text
HasVerdict-Done handles limit input u v sign None a few bounded read stands gives is = cc
HasVerdict-Done handles limit input u v sign (Some verdict) a few bounded read stands gives is =
    let (left, right) = two_words-IsReadOn (MAX_INDEX + 1) input u v read in
    let run : RunState = run_after (quotient u v) handles limit handles in
    let trace : Trace = trace_of (of_words u v) run verdict in
    let text : trace_text trace ≡ a.text =
    ap (λ (b : Answer). b.text) (let same : answer Done (trace_text trace) ≡ a = cc in same) in
    let accepted : IsAccepted a.text trace
    = subst (λ bytes. IsAccepted bytes trace) text
    (IsAccepted-Done (of_words u v) handles limit handles sign verdict
    (left.readable, right.readable) bounded stands gives) in
    record {
      left = u;
      right = v;
      read = read;
      trace = trace;
      header = refl;
      accepted = accepted;
      short = subst (λ bytes. length bytes ≤ MAX_INPUT) text
          (length-trace_text trace run.steps accepted.bounds refl
          (omega (arith, length-steps (quotient u v) handles limit handles)));
      valid = IsValid-accepted a.text trace accepted;
      equal = λ n left right.
          (IsValid-accepted a.text trace accepted).equal n left right (IsStepOn-handle_step n run.steps);
    }

-- what a run gives that stands so
HasVerdict-ended
    : (handles limit : ℕ) (input : List ℕ) (u v : List Letter) (p : Progress) (a : Answer)
    → let run = run_after (quotient u v) handles limit handles in
    handles ≤ MAX_BOUND
    → limit ≤ MAX_BOUND
    → two_words (MAX_INDEX + 1) input ≡ Ok (u, v)
    → run.progress ≡ p
    → ended (λ (d : Verdict). trace_text (trace_of (of_words u v) run d)) handles limit p ≡ Some a
    → a.status ≡ Done
    → HasVerdict input a.text
HasVerdict-ended handles limit input u v progress.Running a few bounded read stands is done = cc
HasVerdict-ended handles limit input u v (progress.Done sign) a few bounded read stands is done =
    HasVerdict-Done handles limit input u v sign _ a few bounded read stands refl is
HasVerdict-ended handles limit input u v progress.HandlesMet a few bounded read stands is done =
    let other = status-of _ a Done is done in cc
HasVerdict-ended handles limit input u v progress.LengthMet a few bounded read stands is done =
    let other = status-of _ a Done is done in cc

-- `compare` on the words of an input
HasVerdict-compared
    : (handles limit : ℕ) (input : List ℕ) (found : Result (List Letter × List Letter) Fault)
    (a : Answer)
    → handles ≤ MAX_BOUND
    → limit ≤ MAX_BOUND
    → two_words (MAX_INDEX + 1) input ≡ found
    → compared_words handles limit found ≡ Some a
    → a.status ≡ Done
    → HasVerdict input a.text
unfolding run_answer
HasVerdict-compared handles limit input (Err fault) a few bounded read is done =
    let other = status-of _ a Done is done in cc
HasVerdict-compared handles limit input (Ok (u, v)) a few bounded read is done =
    HasVerdict-ended handles limit input u v _ a few bounded read refl is done

-- it isn't refused
compared_words-Refused
    : (handles limit : ℕ) (words : Result (List Letter × List Letter) Fault) (a : Answer)
    → compared_words handles limit words ≡ Some a
    → a.status ≡ Refused
    → ⊥
unfolding run_answer
compared_words-Refused handles limit (Err fault) a is refused =
    let other = status-of _ a Refused is refused in cc
compared_words-Refused handles limit (Ok (u, v)) a is refused =
    ended-Refused _ handles limit (run_after (quotient u v) handles limit handles).progress a is refused

-- so its meaning has one
pub compare_meaning-total
    : (limits : Limits) (input : List ℕ)
    → (a : Answer) × (compare_meaning limits).answers input a
compare_meaning-total limits input =
    compared_words-total limits.handles limits.letters (two_words (MAX_INDEX + 1) input)

-- `compare` is sound
pub IsSound-compare : (limits : Limits) → AreLimits limits → IsSound (compare_meaning limits)
IsSound-compare limits bounds = record {
  one = λ input a b first second. let both : Some a ≡ Some b = sym first ∙ second in cc;
  promised = λ input a is done.
      HasVerdict-compared limits.handles limits.letters input
      (two_words (MAX_INDEX + 1) input) a bounds.handles
      bounds.letters refl is done;
  refused = λ input a is refused.
      compared_words-Refused limits.handles limits.letters (two_words (MAX_INDEX + 1) input) a is refused;
  alone = λ nothing. absurd cc;
  plain = λ pieces before now s. tt;
}
