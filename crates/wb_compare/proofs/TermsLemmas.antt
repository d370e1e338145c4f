-- Laws of the command `terms`.
--
-- The text of one that is done is an accepted trace of the two terms (`HasTermVerdict-AreCompared`).
use Rattle.std.proofs.Common.{◌≡◌, ◌≢◌, ◌⊎◌, inl, inr, ℕ, ◌+◌, ◌≤◌, max, map, List, length, ltb, Option, Some, None, refl, ap, sym, subst, ◌∙◌, arith}
use Rattle.std.specs.Option.{option_map}
use Rattle.std.proofs.lemmas.Bool.{cond_both, ltb-false}
use Rattle.std.proofs.Math.Nat.{le-max_left, le-max_right}
use Rattle.wb_base.specs.Lines.{lines_of}
use Rattle.wb_base.specs.Status.{Answer, answer}
use Rattle.wb_base.specs.declared.status.Status.TheVariants.{Done, Refused}
use Rattle.braid_word.specs.Words.{quotient}
use Rattle.braid_word.specs.declared.TheConstants.{MAX_INDEX}
use Rattle.braid_word.specs.declared.sign.Sign.{Sign}
use Rattle.handle_reduce.specs.Runs.{RunState, run_after}
use Rattle.handle_reduce.specs.declared.TheConstants.{MAX_BOUND}
use Rattle.handle_reduce.specs.declared.progress.Progress.{Progress}
use Rattle.handle_reduce.specs.declared.progress.Progress.TheVariants as progress
use Rattle.handle_reduce.proofs.RunLemmas.{length-steps}
use Rattle.ld_term.specs.Terms.{Term, variable, multiply, height, leaf_count}
use Rattle.term_graph.specs.TermLists.{term_at, braid_length}
use Rattle.term_graph.specs.TermFiles.{IsTermFile, IsFileRefusal}
use Rattle.term_graph.specs.declared.file_error.DefsErr.{DefsErr}
use Rattle.term_graph.specs.declared.file_error.DefsErr.TheVariants.{Memory}
use Rattle.term_graph.proofs.FileLemmas.{IsFileRefusal-unique, IsFileRefusal-file, IsTermFile-terms}
use Rattle.term_eval.specs.Braids.{braid}
use Rattle.trace_format.specs.declared.verdict.Verdict.{Verdict}
use Rattle.trace_format.specs.Verdicts.{verdict_of}
use Rattle.trace_format.specs.TraceText.{terms, Trace, trace_text, term_trace_text, handle_step}
use Rattle.trace_format.specs.TraceLines.{IsShortTerm}
use Rattle.trace_format.proofs.TraceLaws.{term_trace_text-strict_text}
use Rattle.trace_check.specs.Accepted.{IsAccepted, IsValid}
use Rattle.trace_check.proofs.AcceptedLemmas.{IsValid-accepted, IsStepOn-handle_step}
use Rattle.wb_command.specs.declared.TheConstants.{MAX_INPUT}
use Rattle.wb_command.specs.Meaning.{IsSound}
use Rattle.wb_command.specs.TermInputs.{file_refused}
use Rattle.wb_command.proofs.TermInputLemmas.{status-of, file_refused-Done, file_refused-Refused}
use Rattle.wb_compare.specs.Limits.{Limits, AreLimits}
use Rattle.wb_compare.specs.Reductions.{ended, run_answer, trace_of}
use Rattle.wb_compare.specs.Terms.{term_trace_of, terms_compared, AreCompared, terms_refused, terms_read, HasTermVerdict, terms_meaning}
use Rattle.wb_compare.proofs.TraceLengths.{length-trace_text}
use Rattle.wb_compare.proofs.AcceptedTraces.{IsAccepted-Done}
use Rattle.wb_compare.proofs.ReductionLemmas.{ended-Refused}

-- ---- Answers ----

-- a term has one leaf more than its braid word has letters, at most
pub leaf_count-le : (t : Term) → leaf_count t ≤ braid_length t + 1
leaf_count-le variable = omega arith
leaf_count-le (multiply t u) = omega (arith, leaf_count-le t, leaf_count-le u)

-- a file that is refused is answered so
pub AreCompared-refused
    : (handles limit : ℕ) (input : List ℕ) (error : DefsErr) (a : Answer)
    → (error ≡ Memory) ⊎ IsFileRefusal 2 (lines_of input) error
    → (error ≢ Memory) × (file_refused error ≡ a)
    → AreCompared handles limit input a
AreCompared-refused handles limit input error a (inl memory) (other, is) = absurd (other memory)
AreCompared-refused handles limit input error a (inr refused) (other, is) = terms_refused error refused is

-- the terms of a file are answered for it
pub AreCompared-read
    : (handles limit : ℕ) (input : List ℕ) (made : List Term) (first second : ℕ) (o : Option ℕ)
    (a : Answer)
    → IsTermFile 2 (lines_of input) made first o
    → o ≡ Some second
    → terms_compared handles limit (term_at made first) (term_at made second) ≡ Some a
    → AreCompared handles limit input a
AreCompared-read handles limit input made first second o a file some is =
    terms_read made first second (subst (IsTermFile 2 (lines_of input) made first) some file) is

-- a file of two terms has one answer
AreCompared-one
    : (handles limit : ℕ) (input : List ℕ) (a b : Answer)
    → AreCompared handles limit input a
    → AreCompared handles limit input b
    → a ≡ b
AreCompared-one handles limit input a b (terms_refused e refused is) (terms_refused f also f_is) =
    sym is ∙ ap file_refused (IsFileRefusal-unique 2 (lines_of input) e f refused also) ∙ f_is
AreCompared-one handles limit input a b (terms_refused e refused is)
    (terms_read made first second file f_is) =
    absurd (IsFileRefusal-file 2 (lines_of input) made first (Some second) e file refused)
AreCompared-one handles limit input a b (terms_read made first second file is)
    (terms_refused e refused f_is) =
    absurd (IsFileRefusal-file 2 (lines_of input) made first (Some second) e file refused)
AreCompared-one handles limit input a b (terms_read made first second file is)
    (terms_read again other next also f_is) =
    let same = IsTermFile-terms 2 (lines_of input) made again first other (Some second)
    (Some next) file also in
    let one : term_at made first ≡ term_at again other = cc in
    let two : term_at made second ≡ term_at again next = cc in
    let both : Some a ≡ Some b = sym is ∙ rw (one, two) f_is in
    cc

-- ---- Verdicts ----

-- a term whose braid word is neither too long nor has too great an index is short
IsShortTerm-braid : (t : Term) → braid_length t ≤ MAX_BOUND → height t ≤ MAX_INDEX → IsShortTerm t
IsShortTerm-braid t short low = record { low = low; few = omega (arith, leaf_count-le t, short) }

-- a run of the quotient of two braid words that is done
HasTermVerdict-Done
    : (handles limit : ℕ) (input : List ℕ) (made : List Term) (first second : ℕ) (sign : Sign)
    (o : Option Verdict) (a : Answer)
    → let t = term_at made first in
    let u = term_at made second in
    let run = run_after (quotient (braid t) (braid u)) handles limit handles in
    handles ≤ MAX_BOUND
    → limit ≤ MAX_BOUND
    → IsTermFile 2 (lines_of input) made first (Some second)
    → IsShortTerm t
    → IsShortTerm u
    → run.progress ≡ progress.Done sign
    → verdict_of sign ≡ o
    → option_map (λ (d : Verdict). answer Done (term_trace_text (term_trace_of t u run d))) o ≡ Some a
    → HasTermVerdict input a.text
HasTermVerdict-Done handles limit input made first second sign None a few bounded file left right stands
    gives is = cc
HasTermVerdict-Done handles limit input made first second sign
    (Some verdict) a few bounded file left right stands gives is =
    let t : Term = term_at made first in
    let u : Term = term_at made second in
    let run : RunState = run_after (quotient (braid t) (braid u)) handles limit handles in
    let trace : Trace = trace_of (terms t u) run verdict in
    let written : term_trace_text (term_trace_of t u run verdict) ≡ trace_text trace
    = term_trace_text-strict_text t u (map handle_step run.steps) verdict run.present in
    let text : trace_text trace ≡ a.text
    = sym written ∙ ap (λ (b : Answer). b.text)
    (let same : answer Done (term_trace_text (term_trace_of t u run verdict)) ≡ a = cc in same) in
    let accepted : IsAccepted a.text trace
    = subst (λ bytes. IsAccepted bytes trace) text
    (IsAccepted-Done (terms t u) handles limit handles sign verdict (left, right) bounded stands gives) in
    let valid : IsValid trace = IsValid-accepted a.text trace accepted in
    record {
      made = made;
      first = first;
      second = second;
      file = file;
      trace = trace;
      header = refl;
      accepted = accepted;
      short = subst (λ bytes. length bytes ≤ MAX_INPUT) text
          (length-trace_text trace run.steps accepted.bounds refl
          (omega (arith, length-steps (quotient (braid t) (braid u)) handles limit handles)));
      valid = valid;
      equal = λ n left right. valid.equal n left right (IsStepOn-handle_step n run.steps);
    }

-- what such a run gives that stands so
HasTermVerdict-ended
    : (handles limit : ℕ) (input : List ℕ) (made : List Term) (first second : ℕ) (p : Progress)
    (a : Answer)
    → let t = term_at made first in
    let u = term_at made second in
    let run = run_after (quotient (braid t) (braid u)) handles limit handles in
    handles ≤ MAX_BOUND
    → limit ≤ MAX_BOUND
    → IsTermFile 2 (lines_of input) made first (Some second)
    → IsShortTerm t
    → IsShortTerm u
    → run.progress ≡ p
    → ended (λ (d : Verdict). term_trace_text (term_trace_of t u run d)) handles limit p ≡ Some a
    → a.status ≡ Done
    → HasTermVerdict input a.text
HasTermVerdict-ended handles limit input made first second progress.Running a few bounded file left right
    stands is done = cc
HasTermVerdict-ended handles limit input made first second
    (progress.Done sign) a few bounded file left right stands is done =
    HasTermVerdict-Done handles limit input made first second sign _ a few bounded file left right stands
    refl is
HasTermVerdict-ended handles limit input made first second progress.HandlesMet a few bounded file left right
    stands is done =
    let other = status-of _ a Done is done in cc
HasTermVerdict-ended handles limit input made first second progress.LengthMet a few bounded file left right
    stands is done =
    let other = status-of _ a Done is done in cc

-- `terms` on two terms
HasTermVerdict-compared
    : (handles limit : ℕ) (input : List ℕ) (made : List Term) (first second : ℕ) (a : Answer)
    → handles ≤ MAX_BOUND
    → limit ≤ MAX_BOUND
    → IsTermFile 2 (lines_of input) made first (Some second)
    → terms_compared handles limit (term_at made first) (term_at made second) ≡ Some a
    → a.status ≡ Done
    → HasTermVerdict input a.text
unfolding run_answer
HasTermVerdict-compared handles limit input made first second a few bounded file is done =
    let t : Term = term_at made first in
    let u : Term = term_at made second in
    let Holds : Option Answer → Type 0 = λ o. o ≡ Some a → HasTermVerdict input a.text in
    cond_both (ltb limit (braid_length t + braid_length u)) _ _ Holds
    (λ long met. let other = status-of _ a Done met done in cc)
    (λ short. let short = ltb-false limit (braid_length t + braid_length u) short in
    cond_both (ltb MAX_INDEX (max (height t) (height u))) _ _ Holds
    (λ high met. let other = status-of _ a Done met done in cc)
    (λ low met. let low = ltb-false MAX_INDEX (max (height t) (height u)) low in
    HasTermVerdict-ended handles limit input made first second _ a few bounded file
    (IsShortTerm-braid t (omega arith) (omega (arith, le-max_left (height t) (height u))))
    (IsShortTerm-braid u (omega arith) (omega (arith, le-max_right (height t) (height u))))
    refl met done))
    is

-- `terms` on an input
HasTermVerdict-AreCompared
    : (handles limit : ℕ) (input : List ℕ) (a : Answer)
    → handles ≤ MAX_BOUND
    → limit ≤ MAX_BOUND
    → AreCompared handles limit input a
    → a.status ≡ Done
    → HasTermVerdict input a.text
HasTermVerdict-AreCompared handles limit input a few bounded (terms_refused e refused is) done =
    absurd (file_refused-Done e (ap (λ (b : Answer). b.status) is ∙ done))
HasTermVerdict-AreCompared handles limit input a few bounded (terms_read made first second file is) done =
    HasTermVerdict-compared handles limit input made first second a few bounded file is done

-- it isn't refused as a trace file is
AreCompared-Refused
    : (handles limit : ℕ) (input : List ℕ) (a : Answer)
    → AreCompared handles limit input a
    → a.status ≡ Refused
    → ⊥
unfolding run_answer
AreCompared-Refused handles limit input a (terms_refused e file is) refused =
    file_refused-Refused e (ap (λ (b : Answer). b.status) is ∙ refused)
AreCompared-Refused handles limit input a (terms_read made first second file is) refused =
    let t : Term = term_at made first in
    let u : Term = term_at made second in
    cond_both (ltb limit (braid_length t + braid_length u)) _ _ (λ (o : Option Answer). o ≡ Some a → ⊥)
    (λ long met. let other = status-of _ a Refused met refused in cc)
    (λ short. cond_both (ltb MAX_INDEX (max (height t) (height u))) _ _
    (λ (o : Option Answer). o ≡ Some a → ⊥)
    (λ high met. let other = status-of _ a Refused met refused in cc)
    (λ low met. ended-Refused _ handles limit
    (run_after (quotient (braid t) (braid u)) handles limit handles).progress a met refused))
    is

-- `terms` is sound
pub IsSound-terms : (limits : Limits) → AreLimits limits → IsSound (terms_meaning limits)
IsSound-terms limits bounds = record {
  one = AreCompared-one limits.handles limits.letters;
  promised = λ input a is done.
      HasTermVerdict-AreCompared limits.handles limits.letters input a bounds.handles bounds.letters is done;
  refused = AreCompared-Refused limits.handles limits.letters;
  alone = λ nothing. absurd cc;
  plain = λ pieces before now s. tt;
}
