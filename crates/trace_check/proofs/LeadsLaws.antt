-- What the steps, the verdict, the witness and the end of a file lead to.
use Rattle.std.proofs.Common.{◌≡◌, ℕ, List, [], ◌∷◌, Some, refl, sym, ap, ap₂, subst}
use Rattle.std.specs.List.{AllByRecursion}
use Rattle.wb_base.specs.Streams.{one_more}
use Rattle.wb_base.proofs.PartLemmas.{Some-injective}
use Rattle.line_file.specs.Grammars as grammars
use Rattle.braid_word.specs.Words.{Letter}
use Rattle.braid_word.specs.Notation.{IsReadable}
use Rattle.braid_word.specs.Sign.{sign_of}
use Rattle.trace_format.specs.declared.verdict.Verdict.{Verdict}
use Rattle.trace_format.specs.declared.line.StepLine.{StepLine}
use Rattle.trace_format.specs.Said.{Said}
use Rattle.trace_format.specs.Said as said
use Rattle.trace_format.specs.Verdicts.{verdict_of}
use Rattle.trace_format.specs.TraceLines.{IsStepLine}
use Rattle.trace_format.proofs.TraceLaws.{tail_lines, step_lines}
use Rattle.trace_check.specs.Accepted.{IsSteps, Claim}
use Rattle.trace_check.specs.Checking.{claimed, trace_file}
use Rattle.trace_check.specs.States.{Replay, State}
use Rattle.trace_check.specs.States as due
use Rattle.trace_check.proofs.KeptLaws.{at_word, trace_grammar}

-- The lines lead from what is due to the end of the file, and to what it claims.
abbrev pub Leads : State → List Said → Claim → Type 0
Leads now all claim = grammars.Leads trace_file trace_grammar now all claim

-- ---- Steps, verdict, witness and end ----

-- The number of steps, counted up to the greatest of 64 bits.
abbrev pub counted : ℕ → List StepLine → ℕ
counted n [] = n
counted n (step ∷ steps) = counted (one_more n) steps

-- What a replay claims with these steps more.
abbrev claim_from : Replay → List StepLine → Verdict → List Letter → Claim
claim_from replay steps verdict witness = record {
  left = replay.left;
  right = replay.right;
  verdict = verdict;
  witness = witness;
  steps = counted replay.steps steps;
}

-- Lines from a replay on are those of steps that lead to a witness of the verdict.
pub record IsReplayed (replay : Replay) (all : List Said) (claim : Claim) : Type 0 where
  pub steps : List StepLine
  pub verdict : Verdict
  pub witness : List Letter
  pub lines_are : all ≡ step_lines steps (tail_lines verdict witness)
  pub bounds : AllByRecursion IsStepLine steps
  pub readable : IsReadable witness
  pub leads : IsSteps replay.present steps witness
  pub sign : verdict_of (sign_of witness) ≡ Some verdict
  pub claims : claim ≡ claim_from replay steps verdict witness

-- the end leads to what is claimed
Leads-Passed
    : (c : Claim) (all : List Said) (claim : Claim)
    → Leads (due.passed c) all claim
    → (all ≡ []) × (claim ≡ c)
Leads-Passed c [] claim leads = (refl, sym (Some-injective leads))
Leads-Passed c (l ∷ all) claim (next, bounds, follows, leads) = absurd follows

-- so does the line of the end
Leads-Finish
    : (replay : Replay) (verdict : Verdict) (all : List Said) (claim : Claim)
    → Leads (due.finish replay verdict) all claim
    → (all ≡ said.finish ∷ []) × (claim ≡ claimed replay verdict)
Leads-Finish replay verdict [] claim leads = absurd (cc)
Leads-Finish replay verdict (said.finish ∷ all) claim (next, bounds, follows, leads) =
    let (none, same) = Leads-Passed (claimed replay verdict) all claim
    (subst (λ d. Leads d all claim) follows leads) in
    (ap (λ rest. said.finish ∷ rest) none, same)
Leads-Finish replay verdict (l ∷ all) claim (next, bounds, follows, leads) = absurd follows

-- What a witness line and the end show.
record IsShown (replay : Replay) (verdict : Verdict) (all : List Said) (claim : Claim) : Type 0 where
  lines_are : all ≡ said.witness replay.present ∷ said.finish ∷ []
  readable : IsReadable replay.present
  sign : verdict_of (sign_of replay.present) ≡ Some verdict
  claims : claim ≡ claimed replay verdict

-- so do the lines of the witness and of the end
Leads-Witness
    : (replay : Replay) (verdict : Verdict) (all : List Said) (claim : Claim)
    → Leads (due.witness replay verdict) all claim
    → IsShown replay verdict all claim
Leads-Witness replay verdict [] claim leads = absurd (cc)
Leads-Witness replay verdict (said.witness w ∷ all) claim (next, bounds, (same, sign, follows), leads) =
    let (last, claims) = Leads-Finish replay verdict all claim
    (subst (λ d. Leads d all claim) follows leads) in
    record {
      lines_are = ap₂ (λ w rest. said.witness w ∷ rest) same last;
      readable = subst IsReadable same bounds;
      sign = subst (λ w. verdict_of (sign_of w) ≡ Some verdict) same sign;
      claims = claims;
    }
Leads-Witness replay verdict (l ∷ all) claim (next, bounds, follows, leads) = absurd follows

-- the lines from a replay on
pub Leads-Step
    : (replay : Replay) (all : List Said) (claim : Claim)
    → Leads (due.step replay) all claim
    → IsReplayed replay all claim
Leads-Step replay [] claim leads = absurd (cc)
Leads-Step replay (said.step step ∷ all) claim (next, bounds, follows, leads) =
    let more = Leads-Step (at_word replay follows.word) all claim
    (subst (λ d. Leads d all claim) follows.due leads) in
    record {
      steps = step ∷ more.steps;
      verdict = more.verdict;
      witness = more.witness;
      lines_are = ap (λ rest. said.step step ∷ rest) more.lines_are;
      bounds = (bounds, more.bounds);
      readable = more.readable;
      leads = (follows.word, follows.leads, follows.short, more.leads);
      sign = more.sign;
      claims = more.claims;
    }
Leads-Step replay (said.verdict verdict ∷ all) claim (next, bounds, follows, leads) =
    let last = Leads-Witness replay verdict all claim
    (subst (λ d. Leads d all claim) follows leads) in
    record {
      steps = [];
      verdict = verdict;
      witness = replay.present;
      lines_are = ap (λ rest. said.verdict verdict ∷ rest) last.lines_are;
      bounds = tt;
      readable = last.readable;
      leads = refl;
      sign = last.sign;
      claims = last.claims;
    }
Leads-Step replay (l ∷ all) claim (next, bounds, follows, leads) = absurd follows

-- and back
pub IsSteps-Leads
    : (replay : Replay) (steps : List StepLine) (verdict : Verdict) (witness : List Letter)
    → AllByRecursion IsStepLine steps
    → IsReadable witness
    → IsSteps replay.present steps witness
    → verdict_of (sign_of witness) ≡ Some verdict
    → Leads (due.step replay) (step_lines steps (tail_lines verdict witness))
    (claim_from replay steps verdict witness)
IsSteps-Leads replay [] verdict witness bounds readable leads sign = (
  due.witness replay verdict,
  tt,
  refl,
  (
    due.finish replay verdict,
    readable,
    (leads, sign, refl),
    (
      due.passed (claimed replay verdict),
      tt,
      refl,
      ap (λ w. Some (record (claimed replay verdict) { witness = w })) (sym leads),
    ),
  ),
)
IsSteps-Leads replay (step ∷ steps) verdict witness bounds readable (word, leads, short, more) sign = (
  due.step (at_word replay word),
  bounds.0,
  record { word = word; leads = leads; short = short; due = refl },
  IsSteps-Leads (at_word replay word) steps verdict witness bounds.1 readable more sign,
)
