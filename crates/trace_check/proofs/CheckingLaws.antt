-- Laws of the check of a file.
--
-- It claims something exactly where it is accepted (`checked_of-IsAccepted`). What it claims is then what the
-- trace claims (`counted-claim`).
use Rattle.std.proofs.Common.{◌≡◌, ◌↔◌, ℕ, ◌+◌, ◌-◌, ◌^◌, ◌<◌, ◌≤◌, min, List, [], ◌∷◌, length, length-append, map, flat_map, Some, Result, Ok, Err, IfOk, refl, sym, ap, ◌∙◌, subst, arith}
use Rattle.std.proofs.lemmas.List.{length-map}
use Rattle.wb_base.specs.Streams.{one_more}
use Rattle.wb_base.specs.Lines.{line}
use Rattle.line_file.proofs.GrammarLaws.{checked_of-IsSaid, IsSaid-checked_of}
use Rattle.braid_word.specs.Words.{Letter, quotient}
use Rattle.braid_word.specs.Notation.{IsReadable}
use Rattle.braid_word.proofs.WordLemmas.{length-quotient}
use Rattle.braid_word.specs.Sign.{sign_of}
use Rattle.braid_word.specs.declared.TheConstants.{MAX_LETTERS}
use Rattle.ld_term.specs.Terms.{Term}
use Rattle.term_eval.specs.Braids.{braid}
use Rattle.trace_format.specs.declared.line.StepLine.{StepLine}
use Rattle.trace_format.specs.Said.{Said}
use Rattle.trace_format.specs.Said as said
use Rattle.trace_format.specs.Verdicts.{verdict_of}
use Rattle.trace_format.specs.TraceText.{Header, words, terms, Trace, trace_text}
use Rattle.trace_format.specs.TraceLines.{line_text, IsShortTerm, IsHeader, IsTrace}
use Rattle.trace_format.proofs.TraceLaws.{tail_lines, step_lines, left_line, right_line, trace_lines, trace_text-lines}
use Rattle.trace_check.specs.Accepted.{left_word, right_word, quotient_of, IsSteps, IsAccepted, Claim, claim_of, counted_claim, IsValid}
use Rattle.line_file.specs.Keeping.{Gives}
use Rattle.trace_check.specs.Checking.{trace_file, checked_of}
use Rattle.line_file.specs.declared.format.FileErr.{FileErr}
use Rattle.trace_check.specs.declared.checked.Why.{Why}
use Rattle.trace_check.specs.States.{State}
use Rattle.trace_check.specs.States as due
use Rattle.trace_check.proofs.AcceptedLemmas.{IsValid-accepted}
use Rattle.trace_check.proofs.VerdictLemmas.{Shows-verdict_of, verdict_of-Shows}
use Rattle.trace_check.proofs.KeptLaws.{begun, trace_grammar}
use Rattle.trace_check.proofs.FollowsLaws.{IsGrammarOf-trace}
use Rattle.trace_check.proofs.LeadsLaws.{Leads, counted, Leads-Step, IsSteps-Leads}

-- ---- The number of steps ----

-- steps are counted up to the greatest of 64 bits
counted-min
    : (n : ℕ) (steps : List StepLine)
    → n ≤ 2 ^ 64 - 1
    → counted n steps ≡ min (n + length steps) (2 ^ 64 - 1)
counted-min n [] low = omega arith
counted-min n (step ∷ steps) low =
    let more = counted-min (one_more n) steps (omega arith) in omega (arith, more)

-- a text has no fewer bytes than lines
length-lines : (texts : List (List ℕ)) → length texts ≤ length (flat_map line texts)
length-lines [] = omega arith
length-lines (text ∷ texts) =
    let rest = length-lines texts in
    let first = length-append text (10 ∷ []) in
    omega (arith, rest, first, length-append (line text) (flat_map line texts))

-- a trace has no more steps than its text has bytes
length-steps : (t : Trace) → length t.steps ≤ length (trace_text t)
length-steps t =
    let all = length-lines (map line_text (trace_lines t)) in
    let text = ap length (trace_text-lines t) in
    let tail = tail_lines t.verdict t.witness in
    let texts = length-map (trace_lines t) line_text in
    let steps = length-append (map said.step t.steps) tail in
    let many = length-map t.steps said.step in
    omega (arith, all, text, texts, steps, many)

-- of a file of fewer bytes than 64 bits can count all steps are counted
pub counted-claim
    : (bytes : List ℕ) (t : Trace)
    → bytes ≡ trace_text t
    → length bytes < 2 ^ 64
    → counted_claim t ≡ claim_of t
counted-claim bytes t text short =
    let steps = length-steps t in
    let size = ap length text in
    let all : min (length t.steps) (2 ^ 64 - 1) ≡ length t.steps = omega (arith, steps, size) in
    ap (λ n. record (claim_of t) { steps = n }) all

-- What a trace claims whose steps are counted one by one.
abbrev stepwise_claim : Trace → Claim
stepwise_claim t = record (claim_of t) { steps = counted 0 t.steps }

-- it is what is counted at once
stepwise-counted : (t : Trace) → stepwise_claim t ≡ counted_claim t
stepwise-counted t =
    let all : counted 0 t.steps ≡ min (length t.steps) (2 ^ 64 - 1)
    = counted-min 0 t.steps (omega arith) ∙ omega arith in
    ap (λ n. record (claim_of t) { steps = n }) all

-- ---- A whole file ----

-- The lines of a file that claims something are those of a trace that is accepted.
record IsTraced (all : List Said) (claim : Claim) : Type 0 where
  trace : Trace
  lines_are : all ≡ trace_lines trace
  bounds : IsTrace trace
  short : length (quotient_of trace.header) ≤ MAX_LETTERS
  steps : IsSteps (quotient_of trace.header) trace.steps trace.witness
  sign : verdict_of (sign_of trace.witness) ≡ Some trace.verdict
  claims : claim ≡ stepwise_claim trace

-- the lines from the right word on
Leads-Right
    : (u : List Letter) (all : List Said) (claim : Claim)
    → IsReadable u
    → Leads (due.right u) all claim
    → IsTraced (said.start ∷ said.left u ∷ all) claim
Leads-Right u [] claim readable leads = absurd (cc)
Leads-Right u (said.right v ∷ all) claim readable (next, bounds, (short, follows), leads) =
    let more = Leads-Step (begun u v) all claim (subst (λ d. Leads d all claim) follows leads) in
    record {
      trace = record {
        header = words u v;
        steps = more.steps;
        verdict = more.verdict;
        witness = more.witness;
      };
      lines_are = ap (λ rest. said.start ∷ said.left u ∷ said.right v ∷ rest) more.lines_are;
      bounds = record {
        header = (readable, bounds);
        steps = more.bounds;
        witness = more.readable;
      };
      short = short;
      steps = more.leads;
      sign = more.sign;
      claims = more.claims;
    }
Leads-Right u (l ∷ all) claim readable (next, bounds, follows, leads) = absurd follows

-- from the right term on
Leads-RightTerm
    : (t : Term) (all : List Said) (claim : Claim)
    → IsShortTerm t
    → Leads (due.right_term (braid t)) all claim
    → IsTraced (said.start ∷ said.left_term t ∷ all) claim
Leads-RightTerm t [] claim small leads = absurd (cc)
Leads-RightTerm t (said.right_term u ∷ all) claim small (next, bounds, (few, short, follows), leads) =
    let more = Leads-Step (begun (braid t) (braid u)) all claim
    (subst (λ d. Leads d all claim) follows leads) in
    record {
      trace = record {
        header = terms t u;
        steps = more.steps;
        verdict = more.verdict;
        witness = more.witness;
      };
      lines_are = ap (λ rest. said.start ∷ said.left_term t ∷ said.right_term u ∷ rest) more.lines_are;
      bounds = record {
        header = (small, bounds);
        steps = more.bounds;
        witness = more.readable;
      };
      short = short;
      steps = more.leads;
      sign = more.sign;
      claims = more.claims;
    }
Leads-RightTerm t (l ∷ all) claim small (next, bounds, follows, leads) = absurd follows

-- from the left line on
Leads-Left
    : (all : List Said) (claim : Claim)
    → Leads due.left all claim
    → IsTraced (said.start ∷ all) claim
Leads-Left [] claim leads = absurd (cc)
Leads-Left (said.left u ∷ all) claim (next, bounds, follows, leads) =
    Leads-Right u all claim bounds (subst (λ d. Leads d all claim) follows leads)
Leads-Left (said.left_term t ∷ all) claim (next, bounds, (short, follows), leads) =
    Leads-RightTerm t all claim bounds (subst (λ d. Leads d all claim) follows leads)
Leads-Left (l ∷ all) claim (next, bounds, follows, leads) = absurd follows

-- from the first line on
Leads-Start : (all : List Said) (claim : Claim) → Leads due.start all claim → IsTraced all claim
Leads-Start [] claim leads = absurd (cc)
Leads-Start (said.start ∷ all) claim (next, bounds, follows, leads) =
    Leads-Left all claim (subst (λ d. Leads d all claim) follows leads)
Leads-Start (l ∷ all) claim (next, bounds, follows, leads) = absurd follows

-- the two parts of a quotient are no longer than it
shorter_parts
    : (u v : List Letter)
    → length (quotient u v) ≤ MAX_LETTERS
    → (length u ≤ MAX_LETTERS) × (length v ≤ MAX_LETTERS)
shorter_parts u v short =
    let whole = length-quotient u v in (omega (arith, whole, short), omega (arith, whole, short))

-- and back: the lines from the left one on lead to where the replay begins
IsHeader-Leads
    : (h : Header) (all : List Said) (claim : Claim)
    → IsHeader h
    → length (quotient_of h) ≤ MAX_LETTERS
    → Leads (due.step (begun (left_word h) (right_word h))) all claim
    → Leads due.left (left_line h ∷ right_line h ∷ all) claim
IsHeader-Leads (words u v) all claim is short leads = (
  due.right u,
  is.0,
  refl,
  (due.step (begun u v), is.1, (short, refl), leads),
)
IsHeader-Leads (terms t u) all claim is short leads =
    let (first, second) = shorter_parts (braid t) (braid u) short in (
      due.right_term (braid t),
      is.0,
      (first, refl),
      (due.step (begun (braid t) (braid u)), is.1, (second, short, refl), leads),
    )

-- from the first line on
IsAccepted-Leads
    : (bytes : List ℕ) (t : Trace)
    → IsAccepted bytes t
    → Leads due.start (trace_lines t) (stepwise_claim t)
IsAccepted-Leads bytes t is = (
  due.left,
  tt,
  refl,
  IsHeader-Leads t.header (step_lines t.steps (tail_lines t.verdict t.witness)) (stepwise_claim t)
      is.bounds.header is.short
      (IsSteps-Leads (begun (left_word t.header) (right_word t.header)) t.steps t.verdict t.witness
      is.bounds.steps is.bounds.witness is.steps (verdict_of-Shows t.verdict t.witness is.shown)),
)

-- a file that claims something is accepted
pub checked_of-accepted
    : (bytes : List ℕ) (claim : Claim)
    → checked_of bytes ≡ Ok claim
    → (t : Trace) × IsAccepted bytes t × (claim ≡ counted_claim t)
checked_of-accepted bytes claim is =
    let said = checked_of-IsSaid trace_file trace_grammar bytes claim IsGrammarOf-trace is in
    let traced = Leads-Start said.all claim said.leads in
    let accepted : IsAccepted bytes traced.trace = record {
      text = said.text ∙ ap (λ all. flat_map line (map line_text all)) traced.lines_are
          ∙ sym (trace_text-lines traced.trace);
      bounds = traced.bounds;
      short = traced.short;
      steps = traced.steps;
      shown = Shows-verdict_of _ _ traced.trace.witness refl traced.sign;
    } in
    (traced.trace, accepted, traced.claims ∙ stepwise-counted traced.trace)

-- a file that is accepted claims what its trace claims
pub accepted-checked_of
    : (bytes : List ℕ) (t : Trace)
    → IsAccepted bytes t
    → checked_of bytes ≡ Ok (counted_claim t)
accepted-checked_of bytes t is =
    IsSaid-checked_of trace_file trace_grammar bytes (stepwise_claim t) IsGrammarOf-trace (record {
      all = trace_lines t;
      text = is.text ∙ trace_text-lines t;
      leads = IsAccepted-Leads bytes t is;
    })
    ∙ ap (λ claim. Ok claim) (stepwise-counted t)

-- a file claims something exactly where it is accepted
pub checked_of-IsAccepted
    : (bytes : List ℕ) (claim : Claim)
    → (checked_of bytes ≡ Ok claim) ↔ ((t : Trace) × IsAccepted bytes t × (claim ≡ counted_claim t))
checked_of-IsAccepted bytes claim = (checked_of-accepted bytes claim, back)
  where
    back : (t : Trace) × IsAccepted bytes t × (claim ≡ counted_claim t) → checked_of bytes ≡ Ok claim
    back (t, is, claims) = accepted-checked_of bytes t is ∙ ap (λ c. Ok c) (sym claims)

-- ---- What a checker answers ----

-- what it claims is what an accepted trace claims, which is valid
pub IfOk-accepted
    : (bytes : List ℕ) (result : Result Claim (FileErr Why))
    → length bytes < 2 ^ 64
    → Gives result (checked_of bytes)
    → IfOk result (λ claim. (t : Trace) × IsAccepted bytes t × IsValid t × (claim ≡ claim_of t))
IfOk-accepted bytes (Ok claim) short gives =
    let (t, accepted, claims) = checked_of-accepted bytes claim gives in
    (t, accepted, IsValid-accepted bytes t accepted, claims ∙ counted-claim bytes t accepted.text short)
IfOk-accepted bytes (Err e) short gives = tt

-- what is accepted isn't refused
pub Gives-accepted
    : (bytes : List ℕ) (result : Result Claim (FileErr Why))
    → length bytes < 2 ^ 64
    → Gives result (checked_of bytes)
    → (t : Trace)
    → IsAccepted bytes t
    → Gives result (Ok (claim_of t))
Gives-accepted bytes result short gives t accepted =
    let claims : checked_of bytes ≡ Ok (claim_of t)
    = accepted-checked_of bytes t accepted
    ∙ ap (λ claim. Ok claim) (counted-claim bytes t accepted.text short) in
    subst (λ file. Gives result file) claims gives
