-- Laws of accepted trace files.
--
-- A step of a trace leads from a word to an equivalent one (`EquivalentOn-IsStep`), so all steps do
-- (`EquivalentOn-IsSteps`), and steps can be continued by one (`IsSteps-append`). So what an accepted
-- trace claims is true (`IsValid-accepted`). And a file is accepted as one trace at most
-- (`IsAccepted-unique`).
use Rattle.std.proofs.Common.{◌≡◌, ℕ, ◌+◌, ◌-◌, ◌≤◌, List, [], ◌∷◌, ◌++◌, length, map, refl, sym, subst, ◌∙◌, arith}
use Rattle.std.specs.List.{AllByRecursion}
use Rattle.braid_word.specs.Words.{Letter, letter, opposite, IsOn}
use Rattle.braid_word.specs.Equivalence.{EquivalentOn, stay, Equivalent}
use Rattle.braid_word.specs.declared.TheConstants.{MAX_INDEX, MAX_LETTERS}
use Rattle.braid_word.proofs.WordLemmas.{on_left, on_right, on_quotient}
use Rattle.braid_word.proofs.EquivalenceLemmas.{on_last, EquivalentOn-sym, EquivalentOn-trans, EquivalentOn-between, EquivalentOn-opposite}
use Rattle.braid_word.proofs.CommutingLemmas.{EquivalentOn-swap_far, EquivalentOn-braid}
use Rattle.handle_find.specs.Handles.{IsHandle, reduct}
use Rattle.handle_find.proofs.ReductLemmas.{EquivalentOn-reduct}
use Rattle.term_eval.specs.Braids.{braid}
use Rattle.term_eval.proofs.BraidLemmas.{on-written}
use Rattle.trace_format.specs.declared.line.StepLine.{StepLine}
use Rattle.trace_format.specs.declared.line.StepLine.TheVariants.{Handle, Commute, Swap, Delete, Insert}
use Rattle.trace_format.specs.TraceText.{Header, words, terms, Trace, handle_step}
use Rattle.trace_format.specs.TraceLines.{IsStepLine, IsHeader}
use Rattle.trace_format.proofs.TraceLaws.{trace_text-injective}
use Rattle.trace_check.specs.Accepted.{left_word, right_word, quotient_of, IsStep, IsSteps, IsStepOn, IsAccepted, IsValid}
use Rattle.trace_check.proofs.VerdictLemmas.{Holds-Shows, Holds-unique, Equal-EquivalentOn}

-- ---- Steps ----

-- the reduct of a word at a handle is what the step of that handle leads to
pub IsStep-reduct
    : (w : List Letter) (p q : ℕ)
    → IsHandle w p q
    → IsStep w (Handle (p + 1) (q + 1)) (reduct w p q)
IsStep-reduct w p q handle =
    let first : (p + 1) - 1 ≡ p = omega arith in
    let last : (q + 1) - 1 ≡ q = omega arith in
    (omega arith, rw (first, last) handle, rw (first, last) refl)

-- The letter that a step inserts, if it inserts one, is one on n strands.
abbrev pub InsertsOn : ℕ → StepLine → Type 0
InsertsOn n (Insert p x) = IsOn n (x ∷ [])
InsertsOn n step = Unit {0}

-- it is where it can be written, and its index is below n
InsertsOn-IsStepOn : (n : ℕ) (s : StepLine) → IsStepLine s → IsStepOn n s → InsertsOn n s
InsertsOn-IsStepOn n (Handle p q) bounds on = tt
InsertsOn-IsStepOn n (Commute p) bounds on = tt
InsertsOn-IsStepOn n (Swap p) bounds on = tt
InsertsOn-IsStepOn n (Delete p) bounds on = tt
InsertsOn-IsStepOn n (Insert p x) bounds on = ((bounds.1.0.0, on), tt)

-- so it is on as many strands as letters that can be read
IsStepOn-IsStepLine : (s : StepLine) → IsStepLine s → IsStepOn (MAX_INDEX + 1) s
IsStepOn-IsStepLine (Handle p q) bounds = tt
IsStepOn-IsStepLine (Commute p) bounds = tt
IsStepOn-IsStepLine (Swap p) bounds = tt
IsStepOn-IsStepLine (Delete p) bounds = tt
IsStepOn-IsStepLine (Insert p x) bounds = bounds.1.0.1

-- the same of several steps
AllInsertsOn
    : (n : ℕ) (ss : List StepLine)
    → AllByRecursion IsStepLine ss
    → AllByRecursion (IsStepOn n) ss
    → AllByRecursion (InsertsOn n) ss
AllInsertsOn n [] bounds on = tt
AllInsertsOn n (s ∷ ss) bounds on =
    (InsertsOn-IsStepOn n s bounds.0 on.0, AllInsertsOn n ss bounds.1 on.1)

AllStepsOn
    : (ss : List StepLine)
    → AllByRecursion IsStepLine ss
    → AllByRecursion (IsStepOn (MAX_INDEX + 1)) ss
AllStepsOn [] bounds = tt
AllStepsOn (s ∷ ss) bounds = (IsStepOn-IsStepLine s bounds.0, AllStepsOn ss bounds.1)

-- steps on handles insert nothing
pub IsStepOn-handle_step
    : (n : ℕ) (places : List (ℕ × ℕ))
    → AllByRecursion (IsStepOn n) (map handle_step places)
IsStepOn-handle_step n [] = tt
IsStepOn-handle_step n ((p, q) ∷ places) = (tt, IsStepOn-handle_step n places)

-- letters between two words, replaced by equivalent ones
EquivalentOn-local
    : (n : ℕ) (front u v back a b : List Letter)
    → a ≡ front ++ (u ++ back)
    → b ≡ front ++ (v ++ back)
    → IsOn n a
    → (IsOn n u → EquivalentOn n u v)
    → EquivalentOn n a b
EquivalentOn-local n front u v back a b before after on chain =
    let whole : IsOn n (front ++ (u ++ back)) = subst (IsOn n) before on in
    let behind = on_right n front (u ++ back) whole in
    subst (λ a. EquivalentOn n a b) (sym before) (subst (EquivalentOn n (front ++ (u ++ back))) (sym after)
    (EquivalentOn-between front back (on_left n front (u ++ back) whole) (on_right n u back behind)
    (chain (on_left n u back behind))))

-- a step leads from a word to one that is equivalent, on every number of strands that the word and what
-- the step inserts are on
pub EquivalentOn-IsStep
    : (n : ℕ) (a : List Letter) (s : StepLine) (b : List Letter)
    → IsOn n a
    → InsertsOn n s
    → IsStep a s b
    → EquivalentOn n a b
EquivalentOn-IsStep n a (Handle p q) b on inserts (low, handle, is) =
    subst (EquivalentOn n a) (sym is) (EquivalentOn-reduct n a (p - 1) (q - 1) handle on)
EquivalentOn-IsStep n a (Commute p) b on inserts step =
    let (x, y) : Letter × Letter = (step.x, step.y) in
    EquivalentOn-local n step.front (x ∷ y ∷ []) (y ∷ x ∷ []) step.back a b step.before step.after on
    (λ on. EquivalentOn-swap_far n x y step.far on)
EquivalentOn-IsStep n a (Swap p) b on inserts step =
    let x = letter step.i step.negative in
    let y = letter step.j step.negative in
    EquivalentOn-local n step.front (x ∷ y ∷ x ∷ []) (y ∷ x ∷ y ∷ []) step.back a b
    step.before step.after on
    (λ on. EquivalentOn-braid n step.i step.j step.negative step.near (on.0, (on.1.0, tt)))
EquivalentOn-IsStep n a (Delete p) b on inserts (x, step) =
    EquivalentOn-local n step.front (x ∷ opposite x ∷ []) [] step.back a b step.after step.before on
    (λ on. EquivalentOn-opposite n x (on.0, tt))
EquivalentOn-IsStep n a (Insert p x) b on inserts step =
    EquivalentOn-local n step.front [] (x ∷ opposite x ∷ []) step.back a b step.before step.after on
    (λ on. EquivalentOn-sym (EquivalentOn-opposite n x inserts))

-- so that one is on as few strands
pub IsOn-IsStep
    : (n : ℕ) (a : List Letter) (s : StepLine) (b : List Letter)
    → IsOn n a
    → InsertsOn n s
    → IsStep a s b
    → IsOn n b
IsOn-IsStep n a s b on inserts step = on_last (EquivalentOn-IsStep n a s b on inserts step)

-- all steps of a trace lead from a word to one that is equivalent
pub EquivalentOn-IsSteps
    : (n : ℕ) (a : List Letter) (ss : List StepLine) (b : List Letter)
    → IsOn n a
    → AllByRecursion (InsertsOn n) ss
    → IsSteps a ss b
    → EquivalentOn n a b
EquivalentOn-IsSteps n a [] b on inserts steps = subst (EquivalentOn n a) (sym steps) (stay on)
EquivalentOn-IsSteps n a (s ∷ ss) b on inserts (c, step, short, rest) =
    EquivalentOn-trans (EquivalentOn-IsStep n a s c on inserts.0 step)
    (EquivalentOn-IsSteps n c ss b (IsOn-IsStep n a s c on inserts.0 step) inserts.1 rest)

-- steps, and a step behind them
pub IsSteps-append
    : (a : List Letter) (ss : List StepLine) (b : List Letter) (s : StepLine) (c : List Letter)
    → IsSteps a ss b
    → IsStep b s c
    → length c ≤ MAX_LETTERS
    → IsSteps a (ss ++ s ∷ []) c
IsSteps-append a [] b s c is step short = (c, subst (λ z. IsStep z s c) is step, short, refl)
IsSteps-append a (t ∷ ss) b s c (d, first, within, rest) step short =
    (d, first, within, IsSteps-append d ss b s c rest step short)

-- ---- Acceptance ----

-- the words of a trace, or the braids of its terms, are on as many strands as letters that can be read
pub on_words
    : (h : Header)
    → IsHeader h
    → IsOn (MAX_INDEX + 1) (left_word h) × IsOn (MAX_INDEX + 1) (right_word h)
on_words (words u v) is = (is.0.on, is.1.on)
on_words (terms t u) is = (
  on-written t (braid t) MAX_INDEX refl is.0.low,
  on-written u (braid u) MAX_INDEX refl is.1.low,
)

-- the witness of an accepted trace is what the quotient is equivalent to
EquivalentOn-witness
    : (n : ℕ) (bytes : List ℕ) (t : Trace)
    → IsAccepted bytes t
    → IsOn n (left_word t.header)
    → IsOn n (right_word t.header)
    → AllByRecursion (IsStepOn n) t.steps
    → EquivalentOn n (quotient_of t.header) t.witness
EquivalentOn-witness n bytes t accepted left right on =
    EquivalentOn-IsSteps n (quotient_of t.header) t.steps t.witness
    (on_quotient n (left_word t.header) (right_word t.header) left right)
    (AllInsertsOn n t.steps accepted.bounds.steps on) accepted.steps

-- what an accepted trace claims is true
pub IsValid-accepted
    : (bytes : List ℕ) (t : Trace)
    → IsAccepted bytes t
    → IsValid t
IsValid-accepted bytes t accepted =
    let n : ℕ = MAX_INDEX + 1 in
    let u : List Letter = left_word t.header in
    let v : List Letter = right_word t.header in
    let (left, right) = on_words t.header accepted.bounds.header in
    let steps = AllStepsOn t.steps accepted.bounds.steps in
    let chain = EquivalentOn-witness n bytes t accepted left right steps in
    let stands : Equivalent t.witness (quotient_of t.header) = (n, EquivalentOn-sym chain) in
    let holds = Holds-Shows t.verdict u v t.witness stands accepted.shown in
    record {
      witness = stands;
      shown = accepted.shown;
      holds = holds;
      only = λ d other. Holds-unique d t.verdict u v other holds;
      equal = λ m on_u on_v on.
          Equal-EquivalentOn m t.verdict u v t.witness
          (EquivalentOn-witness m bytes t accepted on_u on_v on) accepted.shown;
    }

-- the bytes of a file are accepted as one trace at most
pub IsAccepted-unique
    : (bytes : List ℕ) (s t : Trace)
    → IsAccepted bytes s
    → IsAccepted bytes t
    → s ≡ t
IsAccepted-unique bytes s t first second =
    trace_text-injective s t first.bounds second.bounds (sym first.text ∙ second.text)
