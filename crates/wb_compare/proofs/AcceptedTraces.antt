-- The trace of a run that is done is accepted.
--
-- The steps of a run lead from its first word to the one that it has reached (`IsSteps-run_after`), and
-- the places of these are places (`IsStepLine-steps`). A run that is done has begun with a word within
-- its limit and has reached another (`length-begun`, `length-reached`). So the trace of a run of the
-- quotient of what is compared is accepted, if that can be read (`IsAccepted-Done`).
use Rattle.std.proofs.Common.{◌≡◌, ℕ, zero, suc, ◌+◌, ◌≤◌, ltb, List, [], ◌∷◌, ◌++◌, length, Option, Some, None, refl, sym, subst, inl, inr, arith, map}
use Rattle.std.specs.List.{AllByRecursion}
use Rattle.std.proofs.lemmas.Bool.{cond_both, cases_lt, ltb-false}
use Rattle.std.proofs.lemmas.List.{map-append}
use Rattle.std.proofs.lemmas.List.Elements.{recursion_from_All, All-map, All-weaker}
use Rattle.braid_word.specs.Words.{Letter, IsOn}
use Rattle.braid_word.specs.declared.TheConstants.{MAX_INDEX, MAX_LETTERS}
use Rattle.braid_word.specs.declared.sign.Sign.{Sign}
use Rattle.braid_word.proofs.WordLemmas.{on_quotient}
use Rattle.braid_word.proofs.EquivalenceLemmas.{on_last}
use Rattle.handle_find.specs.Handles.{leftmost_of, reduct}
use Rattle.handle_find.proofs.HandleLemmas.{leftmost_of-Some}
use Rattle.handle_reduce.specs.Runs.{RunState, begun, reduced, turn_by, turn_of, turns, run_after}
use Rattle.handle_reduce.specs.declared.progress.Progress.{Progress}
use Rattle.handle_reduce.specs.declared.progress.Progress.TheVariants.{Running, Done, HandlesMet, LengthMet}
use Rattle.handle_reduce.proofs.RunLemmas as runs
use Rattle.handle_reduce.proofs.RunEquivalence.{EquivalentOn-run_after}
use Rattle.trace_format.specs.declared.verdict.Verdict.{Verdict}
use Rattle.trace_format.specs.Verdicts.{verdict_of}
use Rattle.trace_format.specs.TraceText.{Header, trace_text, handle_step}
use Rattle.trace_format.specs.TraceLines.{IsStepLine, IsHeader, IsTrace}
use Rattle.trace_check.specs.Accepted.{left_word, right_word, quotient_of, IsSteps, IsAccepted}
use Rattle.trace_check.proofs.AcceptedLemmas.{IsStep-reduct, IsSteps-append, on_words}
use Rattle.trace_check.proofs.VerdictLemmas.{Shows-verdict_of}
use Rattle.wb_compare.specs.Reductions.{trace_of}

-- ---- The steps of a run ----

-- the steps that a run has made lead from a word to the one that it has reached
abbrev Leads : List Letter → RunState → Type 0
Leads w s = IsSteps w (map handle_step s.steps) s.present

-- one more step
Leads-step
    : (w : List Letter) (limit : ℕ) (s : RunState) (p q : ℕ)
    → limit ≤ MAX_LETTERS
    → leftmost_of s.present ≡ Some (p, q)
    → length (reduct s.present p q) ≤ limit
    → Leads w s
    → IsSteps w (map handle_step (s.steps ++ (p + 1, q + 1) ∷ [])) (reduct s.present p q)
Leads-step w limit s p q small found short leads =
    let next : List Letter = reduct s.present p q in
    let step = IsStep-reduct s.present p q (leftmost_of-Some s.present p q found).handle in
    subst (λ ss. IsSteps w ss next) (sym (map-append handle_step s.steps ((p + 1, q + 1) ∷ [])))
    (IsSteps-append w (map handle_step s.steps) s.present _ next leads step (omega arith))

-- a turn of a running word
Leads-reduced
    : (w : List Letter) (handles limit : ℕ) (s : RunState) (o : Option (ℕ × ℕ))
    → limit ≤ MAX_LETTERS
    → leftmost_of s.present ≡ o
    → Leads w s
    → Leads w (reduced handles limit s o)
Leads-reduced w handles limit s None small found leads = leads
Leads-reduced w handles limit s (Some (p, q)) small found leads =
    cond_both (ltb limit (length (reduct s.present p q))) _ _ (Leads w)
    (λ _. leads)
    (λ short. Leads-step w limit s p q small found (ltb-false _ _ short) leads)

-- a turn, by the progress
Leads-turn_by
    : (w : List Letter) (handles limit : ℕ) (s : RunState) (p : Progress)
    → limit ≤ MAX_LETTERS
    → Leads w s
    → Leads w (turn_by handles limit s p)
Leads-turn_by w handles limit s Running small leads =
    Leads-reduced w handles limit s (leftmost_of s.present) small refl leads
Leads-turn_by w handles limit s (Done sign) small leads = leads
Leads-turn_by w handles limit s HandlesMet small leads = leads
Leads-turn_by w handles limit s LengthMet small leads = leads

-- turns
Leads-turns
    : (w : List Letter) (handles limit t : ℕ)
    → limit ≤ MAX_LETTERS
    → Leads w (turns handles limit t (begun w handles limit))
unfolding turn_of
Leads-turns w handles limit zero small = refl
Leads-turns w handles limit (suc t) small =
    let s = turns handles limit t (begun w handles limit) in
    Leads-turn_by w handles limit s s.progress small (Leads-turns w handles limit t small)

-- the steps of a run lead from its first word to the one that it has reached
pub IsSteps-run_after
    : (w : List Letter) (handles limit t : ℕ)
    → limit ≤ MAX_LETTERS
    → let run = run_after w handles limit t in
    IsSteps w (map handle_step run.steps) run.present
unfolding run_after
IsSteps-run_after w handles limit t small = Leads-turns w handles limit t small

-- ---- The bounds of a run ----

-- the places of a step within a word that isn't too long are places
IsStepLine-placed
    : (limit : ℕ) (s : ℕ × ℕ)
    → limit ≤ MAX_LETTERS
    → runs.HasPlaces limit s
    → IsStepLine (handle_step s)
IsStepLine-placed limit (p, q) small (low, ordered, within) =
    ((omega arith, omega arith), (omega arith, omega arith))

-- those of the steps of a run are places
IsStepLine-steps
    : (w : List Letter) (handles limit t : ℕ)
    → limit ≤ MAX_LETTERS
    → AllByRecursion IsStepLine (map handle_step (run_after w handles limit t).steps)
IsStepLine-steps w handles limit t small =
    let steps : List (ℕ × ℕ) = (run_after w handles limit t).steps in
    recursion_from_All IsStepLine _
    (All-map IsStepLine handle_step steps
    (All-weaker (runs.HasPlaces limit) _ (λ s placed. IsStepLine-placed limit s small placed) steps
    (runs.places-steps w handles limit t)))

-- a run that hasn't met the length has begun with a word within its limit
length-begun
    : (w : List Letter) (handles limit t : ℕ)
    → ((run_after w handles limit t).progress ≡ LengthMet → ⊥)
    → length w ≤ limit
length-begun w handles limit t short = elim (cases_lt limit (length w)) [
  | inl long ↦ absurd (short (runs.run_after-long w handles limit t long))
  | inr within ↦ within
]

-- and has reached another
length-reached
    : (w : List Letter) (handles limit t : ℕ)
    → ((run_after w handles limit t).progress ≡ LengthMet → ⊥)
    → length (run_after w handles limit t).present ≤ limit
length-reached w handles limit t short = elim (runs.length-present w handles limit t) [
  | inl within ↦ within
  | inr same ↦ rw same (length-begun w handles limit t short)
]

-- ---- The trace of a run ----

-- what it has can be read, and its places are places
IsTrace-run_after
    : (h : Header) (handles limit t : ℕ) (verdict : Verdict)
    → let run = run_after (quotient_of h) handles limit t in
    IsHeader h
    → limit ≤ MAX_LETTERS
    → length run.present ≤ limit
    → IsTrace (trace_of h run verdict)
IsTrace-run_after h handles limit t verdict is small short =
    let n : ℕ = MAX_INDEX + 1 in
    let (left, right) = on_words h is in
    let on : IsOn n (quotient_of h) = on_quotient n (left_word h) (right_word h) left right in
    record {
      header = is;
      steps = IsStepLine-steps (quotient_of h) handles limit t small;
      witness = record {
        short = omega arith;
        on = on_last (EquivalentOn-run_after n (quotient_of h) handles limit t on);
      };
    }

-- the trace of a run that is done is accepted
pub IsAccepted-Done
    : (h : Header) (handles limit t : ℕ) (sign : Sign) (verdict : Verdict)
    → let run = run_after (quotient_of h) handles limit t in
    IsHeader h
    → limit ≤ MAX_LETTERS
    → run.progress ≡ Done sign
    → verdict_of sign ≡ Some verdict
    → IsAccepted (trace_text (trace_of h run verdict)) (trace_of h run verdict)
IsAccepted-Done h handles limit t sign verdict is small done gives =
    let w : List Letter = quotient_of h in
    let run : RunState = run_after w handles limit t in
    let within : run.progress ≡ LengthMet → ⊥ = λ met. absurd (cc) in
    let begun_short : length w ≤ limit = length-begun w handles limit t within in
    record {
      text = refl;
      bounds = IsTrace-run_after h handles limit t verdict is small (length-reached w handles limit t within);
      short = omega arith;
      steps = IsSteps-run_after w handles limit t small;
      shown = Shows-verdict_of sign verdict run.present
          (sym (runs.run_after-Done w handles limit t sign done).1) gives;
    }
