-- Laws of the command `reverse`.
--
-- The text of a run that is done is an accepted reverse file of the word of the input
-- (`HasFraction-reversed_word`).
use Rattle.std.proofs.Common.{◌≡◌, ℕ, ◌+◌, ◌≤◌, List, Option, Some, None, Result, Ok, Err, refl, sym, ap, subst, ◌∙◌, zero-add, arith, length}
use Rattle.wb_base.specs.Status.{Answer, answer}
use Rattle.wb_base.specs.declared.status.Status.TheVariants.{Done, Refused}
use Rattle.braid_word.specs.Words.{Letter}
use Rattle.braid_word.specs.declared.TheConstants.{MAX_INDEX}
use Rattle.word_reverse.specs.declared.TheConstants.{MAX_BOUND}
use Rattle.word_reverse.specs.declared.progress.RevProgress.{RevProgress}
use Rattle.word_reverse.specs.declared.progress.RevProgress.TheVariants as progress
use Rattle.word_reverse.specs.RevRuns.{RevState, RevRun, rev_after, IsRevAfter}
use Rattle.word_reverse.specs.ReverseText.{Reversal, reverse_text}
use Rattle.word_reverse.specs.Written.{reversal_of}
use Rattle.word_reverse.specs.Accepted.{IsAccepted}
use Rattle.word_reverse.proofs.RevRunLemmas.{rev_after-ended, length-places}
use Rattle.word_reverse.proofs.WrittenLemmas.{IsAccepted-written}
use Rattle.word_reverse.proofs.AcceptedLemmas.{IsValid-accepted}
use Rattle.wb_command.specs.declared.TheConstants.{MAX_INPUT}
use Rattle.wb_command.specs.declared.fault.Fault.{Fault}
use Rattle.wb_command.specs.Inputs.{one_word}
use Rattle.wb_command.specs.Meaning.{IsSound}
use Rattle.wb_command.proofs.InputLemmas.{one_word-IsReadOn}
use Rattle.wb_command.proofs.TermInputLemmas.{status-of}
use Rattle.wb_reverse.specs.Reverse.{Limits, AreLimits, ended, reversed, reversed_word, reversed_answer, HasFraction, reverse_meaning}
use Rattle.wb_reverse.proofs.ReverseLengths.{length-reverse_text}

-- ---- Runs ----

-- the run of a reverser after all its turns
pub run-all
    : (w : List Letter) (steps limit : ℕ) (r : RevRun)
    → IsRevAfter w steps limit (0 + steps) r
    → r.run ≡ rev_after w steps limit steps
run-all w steps limit r is =
    let now : r.run ≡ rev_after w steps limit (0 + steps) = ap (λ (s : RevRun). s.run) is in
    now ∙ rw zero-add refl

-- what is answered by how it stands
pub reversed-stands
    : (w : List Letter) (steps limit : ℕ) (run : RevState) (p : RevProgress)
    → run ≡ rev_after w steps limit steps
    → p ≡ run.progress
    → reversed steps limit w ≡ ended steps limit w run p
unfolding reversed
reversed-stands w steps limit run p is stands = rw (stands, is) refl

-- it doesn't go on
pub run-over
    : (w : List Letter) (steps limit : ℕ) (run : RevState)
    → run ≡ rev_after w steps limit steps
    → run.progress ≡ progress.Running
    → ⊥
run-over w steps limit run is running =
    rev_after-ended w steps limit (ap (λ (s : RevState). s.progress) (sym is) ∙ running)

-- ---- What is said ----

-- the file of a run that is done
HasFraction-Done
    : (steps limit : ℕ) (input : List ℕ) (w : List Letter) (a : Answer)
    → let run = rev_after w steps limit steps in
    steps ≤ MAX_BOUND
    → limit ≤ MAX_BOUND
    → one_word (MAX_INDEX + 1) input ≡ Ok w
    → run.progress ≡ progress.Done
    → reversed_answer (reversal_of w run) ≡ a
    → HasFraction input a.text
HasFraction-Done steps limit input w a few bounded read done is =
    let run : RevState = rev_after w steps limit steps in
    let r : Reversal = reversal_of w run in
    let text : reverse_text r ≡ a.text = ap (λ (b : Answer). b.text) is in
    let readable = (one_word-IsReadOn (MAX_INDEX + 1) input w read).readable in
    let accepted : IsAccepted a.text r
    = subst (λ bytes. IsAccepted bytes r) text
    (IsAccepted-written w steps limit steps readable bounded done) in
    record {
      word = w;
      read = read;
      reversal = r;
      of = refl;
      accepted = accepted;
      short = subst (λ bytes. length bytes ≤ MAX_INPUT) text
          (length-reverse_text r accepted.bounds (omega (arith, length-places w steps limit steps)));
      valid = IsValid-accepted a.text r accepted;
    }

-- what a run gives that stands so
HasFraction-ended
    : (steps limit : ℕ) (input : List ℕ) (w : List Letter) (p : RevProgress) (a : Answer)
    → let run = rev_after w steps limit steps in
    steps ≤ MAX_BOUND
    → limit ≤ MAX_BOUND
    → one_word (MAX_INDEX + 1) input ≡ Ok w
    → run.progress ≡ p
    → ended steps limit w run p ≡ Some a
    → a.status ≡ Done
    → HasFraction input a.text
HasFraction-ended steps limit input w progress.Running a few bounded read stands is done = cc
HasFraction-ended steps limit input w progress.Done a few bounded read stands is done =
    let same : reversed_answer (reversal_of w (rev_after w steps limit steps)) ≡ a = cc in
    HasFraction-Done steps limit input w a few bounded read stands same
HasFraction-ended steps limit input w progress.StepsMet a few bounded read stands is done =
    let other = status-of _ a Done is done in cc
HasFraction-ended steps limit input w progress.LengthMet a few bounded read stands is done =
    let other = status-of _ a Done is done in cc

-- `reverse` on the word of an input
HasFraction-reversed_word
    : (steps limit : ℕ) (input : List ℕ) (found : Result (List Letter) Fault) (a : Answer)
    → steps ≤ MAX_BOUND
    → limit ≤ MAX_BOUND
    → one_word (MAX_INDEX + 1) input ≡ found
    → reversed_word steps limit found ≡ Some a
    → a.status ≡ Done
    → HasFraction input a.text
unfolding reversed
HasFraction-reversed_word steps limit input (Err fault) a few bounded read is done =
    let other = status-of _ a Done is done in cc
HasFraction-reversed_word steps limit input (Ok w) a few bounded read is done =
    HasFraction-ended steps limit input w _ a few bounded read refl is done

-- it isn't refused
ended-Refused
    : (steps limit : ℕ) (w : List Letter) (run : RevState) (p : RevProgress) (a : Answer)
    → ended steps limit w run p ≡ Some a
    → a.status ≡ Refused
    → ⊥
ended-Refused steps limit w run progress.Running a is refused = cc
ended-Refused steps limit w run progress.Done a is refused =
    let other = status-of _ a Refused is refused in cc
ended-Refused steps limit w run progress.StepsMet a is refused =
    let other = status-of _ a Refused is refused in cc
ended-Refused steps limit w run progress.LengthMet a is refused =
    let other = status-of _ a Refused is refused in cc

reversed_word-Refused
    : (steps limit : ℕ) (found : Result (List Letter) Fault) (a : Answer)
    → reversed_word steps limit found ≡ Some a
    → a.status ≡ Refused
    → ⊥
unfolding reversed
reversed_word-Refused steps limit (Err fault) a is refused =
    let other = status-of _ a Refused is refused in cc
reversed_word-Refused steps limit (Ok w) a is refused =
    let run : RevState = rev_after w steps limit steps in
    ended-Refused steps limit w run run.progress a is refused

-- `reverse` is sound
pub IsSound-reverse : (limits : Limits) → AreLimits limits → IsSound (reverse_meaning limits)
IsSound-reverse limits bounds = record {
  one = λ input a b first second. let both : Some a ≡ Some b = sym first ∙ second in cc;
  promised = λ input a is done.
      HasFraction-reversed_word limits.steps limits.letters input (one_word (MAX_INDEX + 1) input) a
      bounds.steps bounds.letters refl is done;
  refused = λ input a is refused.
      reversed_word-Refused limits.steps limits.letters (one_word (MAX_INDEX + 1) input) a is refused;
  alone = λ nothing. absurd cc;
  plain = λ pieces before now s. tt;
}
