-- What is due after a line that is kept.
--
-- A line is kept exactly where it is the text of what may be said there, and then what is due follows from
-- that: `kept_short-Follows`, and `kept_short-line_text` of `FollowsLaws`.
use Rattle.std.proofs.Common.{◌≡◌, ℕ, ◌≤◌, ◌||◌, Bool, true, false, cond, ltb, List, length, codes, Some, Result, Ok, Err, refl, sym}
use Rattle.std.specs.Str.{bytes_eq}
use Rattle.std.proofs.lemmas.Bool.{ltb-false}
use Rattle.std.proofs.lemmas.Slice.Eq.{bytes_eq-Decides}
use Rattle.wb_base.specs.Streams.{one_more}
use Rattle.line_file.specs.Grammars.{Grammar, Says}
use Rattle.braid_word.specs.Words.{Letter, quotient}
use Rattle.braid_word.specs.Sign.{sign_of}
use Rattle.braid_word.specs.declared.TheConstants.{MAX_LETTERS}
use Rattle.wb_base.proofs.PartLemmas.{Ok-injective}
use Rattle.trace_format.specs.declared.verdict.Verdict.{Verdict}
use Rattle.term_eval.specs.Braids.{braid}
use Rattle.trace_format.specs.declared.line.Kind.TheVariants as kinds
use Rattle.trace_format.specs.declared.line.StepLine.{StepLine}
use Rattle.trace_format.specs.Said.{Said}
use Rattle.trace_format.specs.Said as said
use Rattle.trace_format.specs.declared.line.LineErr.{LineErr}
use Rattle.trace_format.specs.Verdicts.{verdict_of}
use Rattle.trace_format.specs.TraceLines.{kind_of, line_of, line_text, IsStepLine, IsLine}
use Rattle.trace_format.proofs.LineLaws.{line_of-is}
use Rattle.trace_check.specs.Accepted.{IsStep}
use Rattle.trace_check.specs.Checking.{word_eq, gives_verdict, is_kind, stepped, stepped_to, with_word, begun_with, claimed, moved, shown, kept_start, kept_left, kept_right, kept_right_term, kept_step, kept_witness, kept_finish, of_kind, kept_short}
use Rattle.trace_check.specs.declared.checked.Why.{Why}
use Rattle.trace_check.specs.declared.checked.Why.TheVariants.{Long, Sign, Witness}
use Rattle.trace_check.specs.States.{Replay, State}
use Rattle.trace_check.specs.States as due
use Rattle.trace_check.proofs.KeepLemmas.{Decides-word_eq, Decides-gives_verdict}
use Rattle.trace_check.proofs.StepLaws.{stepped-IsStep}

-- ---- What may follow ----

-- The replay of two words begins.
abbrev pub begun : List Letter → List Letter → Replay
begun u v = record { left = u; right = v; present = quotient u v; steps = 0 }

-- It has moved to a word.
abbrev pub at_word : Replay → List Letter → Replay
at_word replay w = record replay { present = w; steps = one_more replay.steps }

-- A step may be said in a replay, and then this is due.
pub record FollowsStep (replay : Replay) (step : StepLine) (next : State) : Type 0 where
  pub word : List Letter
  pub leads : IsStep replay.present step word
  pub short : length word ≤ MAX_LETTERS
  pub due : next ≡ due.step (at_word replay word)

-- A line may be said where `now` is due, and then `next` is due.
abbrev pub Follows : State → Said → State → Type 0
Follows due.start said.start next = next ≡ due.left
Follows due.left (said.left w) next = next ≡ due.right w
Follows due.left (said.left_term t) next =
    (length (braid t) ≤ MAX_LETTERS) × (next ≡ due.right_term (braid t))
Follows (due.right u) (said.right v) next =
    (length (quotient u v) ≤ MAX_LETTERS) × (next ≡ due.step (begun u v))
Follows (due.right_term u) (said.right_term t) next =
    (length (braid t) ≤ MAX_LETTERS)
    × (length (quotient u (braid t)) ≤ MAX_LETTERS)
    × (next ≡ due.step (begun u (braid t)))
Follows (due.step replay) (said.step step) next = FollowsStep replay step next
Follows (due.step replay) (said.verdict verdict) next = next ≡ due.witness replay verdict
Follows (due.witness replay verdict) (said.witness w) next =
    (w ≡ replay.present) × (verdict_of (sign_of w) ≡ Some verdict) × (next ≡ due.finish replay verdict)
Follows (due.finish replay verdict) said.finish next = next ≡ due.passed (claimed replay verdict)
Follows now l next = ⊥

-- What the lines of a trace file may say.
abbrev pub trace_grammar : Grammar State Said
trace_grammar = record { text = line_text; can = IsLine; follows = Follows }

-- A line says something that may follow.
abbrev pub IsKept : State → List ℕ → State → Type 0
IsKept now line next = Says trace_grammar now line next

-- ---- What is kept may follow ----

-- what is read of a line that may stand there
said-kept
    : (now : State) (line : List ℕ) (l : Said) (next : State)
    → line_of line ≡ Ok l
    → Follows now l next
    → IsKept now line next
said-kept now line l next read follows =
    let is = line_of-is line l read in
    record { what = l; text = is.text; can = is.bounds; follows = follows }

-- a line of the kind that is due
of_kind-Ok
    : (right : Bool) (why : Why) (kept : Result State Why) (next : State)
    → of_kind right why kept ≡ Ok next
    → kept ≡ Ok next
of_kind-Ok true why kept next is = is
of_kind-Ok false why kept next is = absurd (cc)

-- a line with no reading of its own, by its text
text-kept
    : (now : State) (line : List ℕ) (l : Said) (next : State)
    → bytes_eq line (line_text l) ≡ true
    → IsLine l
    → Follows now l next
    → IsKept now line next
text-kept now line l next test bounds follows = record {
  what = l;
  text = (bytes_eq-Decides line (line_text l)).0 test;
  can = bounds;
  follows = follows;
}

-- the start
kept_start-Follows
    : (line : List ℕ) (next : State) (test : Bool)
    → bytes_eq line (codes "braid-trace 1") ≡ test
    → kept_start test ≡ Ok next
    → IsKept due.start line next
kept_start-Follows line next true test is =
    text-kept due.start line said.start next test tt (sym (Ok-injective _ _ is))
kept_start-Follows line next false test is = absurd (cc)

-- what is due with a word that isn't too long
with_word-Ok
    : (w : List Letter) (follow : List Letter → Result State Why) (next : State)
    → with_word (stepped_to w) follow ≡ Ok next
    → (length w ≤ MAX_LETTERS) × (follow w ≡ Ok next)
with_word-Ok w follow next is = go (ltb MAX_LETTERS (length w)) refl is
  where
    go
        : (long : Bool)
        → ltb MAX_LETTERS (length w) ≡ long
        → with_word (cond long (Err Long) (Ok w)) follow ≡ Ok next
        → (length w ≤ MAX_LETTERS) × (follow w ≡ Ok next)
    go true test is = absurd (cc)
    go false test is = (ltb-false _ _ test, is)

-- the left word, or the left term
kept_left-Follows
    : (line : List ℕ) (next : State) (read : Result Said LineErr)
    → line_of line ≡ read
    → kept_left read ≡ Ok next
    → IsKept due.left line next
kept_left-Follows line next (Ok (said.left w)) read is =
    said-kept due.left line (said.left w) next read (sym (Ok-injective _ _ is))
kept_left-Follows line next (Ok (said.left_term t)) read is =
    let (short, follows) = with_word-Ok (braid t) (λ w. Ok (due.right_term w)) next is in
    said-kept due.left line (said.left_term t) next read (short, sym (Ok-injective _ _ follows))
kept_left-Follows line next (Ok said.start) read is = absurd (cc)
kept_left-Follows line next (Ok (said.right_term t)) read is = absurd (cc)
kept_left-Follows line next (Ok (said.right w)) read is = absurd (cc)
kept_left-Follows line next (Ok (said.step step)) read is = absurd (cc)
kept_left-Follows line next (Ok (said.verdict v)) read is = absurd (cc)
kept_left-Follows line next (Ok (said.witness w)) read is = absurd (cc)
kept_left-Follows line next (Ok said.finish) read is = absurd (cc)
kept_left-Follows line next (Err e) read is = absurd (cc)

-- the right word
begun_with-Ok
    : (u v : List Letter) (next : State)
    → begun_with u v ≡ Ok next
    → (length (quotient u v) ≤ MAX_LETTERS) × (next ≡ due.step (begun u v))
begun_with-Ok u v next is = go (ltb MAX_LETTERS (length (quotient u v))) refl is
  where
    go
        : (long : Bool)
        → ltb MAX_LETTERS (length (quotient u v)) ≡ long
        → cond long (Err Long) (Ok (due.step (begun u v))) ≡ Ok next
        → (length (quotient u v) ≤ MAX_LETTERS) × (next ≡ due.step (begun u v))
    go true test is = absurd (cc)
    go false test is = (ltb-false _ _ test, sym (Ok-injective _ _ is))

kept_right-Follows
    : (u : List Letter) (line : List ℕ) (next : State) (read : Result Said LineErr)
    → line_of line ≡ read
    → kept_right u read ≡ Ok next
    → IsKept (due.right u) line next
kept_right-Follows u line next (Ok (said.right w)) read is =
    said-kept (due.right u) line (said.right w) next read (begun_with-Ok u w next is)
kept_right-Follows u line next (Ok said.start) read is = absurd (cc)
kept_right-Follows u line next (Ok (said.left_term t)) read is = absurd (cc)
kept_right-Follows u line next (Ok (said.right_term t)) read is = absurd (cc)
kept_right-Follows u line next (Ok (said.left w)) read is = absurd (cc)
kept_right-Follows u line next (Ok (said.step step)) read is = absurd (cc)
kept_right-Follows u line next (Ok (said.verdict v)) read is = absurd (cc)
kept_right-Follows u line next (Ok (said.witness w)) read is = absurd (cc)
kept_right-Follows u line next (Ok said.finish) read is = absurd (cc)
kept_right-Follows u line next (Err e) read is = absurd (cc)

-- the right term
kept_right_term-Follows
    : (u : List Letter) (line : List ℕ) (next : State) (read : Result Said LineErr)
    → line_of line ≡ read
    → kept_right_term u read ≡ Ok next
    → IsKept (due.right_term u) line next
kept_right_term-Follows u line next (Ok (said.right_term t)) read is =
    let (short, begins) = with_word-Ok (braid t) (begun_with u) next is in
    let (within, follows) = begun_with-Ok u (braid t) next begins in
    said-kept (due.right_term u) line (said.right_term t) next read (short, within, follows)
kept_right_term-Follows u line next (Ok said.start) read is = absurd (cc)
kept_right_term-Follows u line next (Ok (said.left w)) read is = absurd (cc)
kept_right_term-Follows u line next (Ok (said.right w)) read is = absurd (cc)
kept_right_term-Follows u line next (Ok (said.left_term t)) read is = absurd (cc)
kept_right_term-Follows u line next (Ok (said.step step)) read is = absurd (cc)
kept_right_term-Follows u line next (Ok (said.verdict v)) read is = absurd (cc)
kept_right_term-Follows u line next (Ok (said.witness w)) read is = absurd (cc)
kept_right_term-Follows u line next (Ok said.finish) read is = absurd (cc)
kept_right_term-Follows u line next (Err e) read is = absurd (cc)

-- a step
moved-Ok
    : (replay : Replay) (step : StepLine) (next : State) (to : Result (List Letter) Why)
    → IsStepLine step
    → stepped replay.present step ≡ to
    → moved replay to ≡ Ok next
    → FollowsStep replay step next
moved-Ok replay step next (Ok w) bounds leads is =
    let (step_is, short) = stepped-IsStep replay.present step w bounds leads in
    record { word = w; leads = step_is; short = short; due = sym (Ok-injective _ _ is) }
moved-Ok replay step next (Err why) bounds leads is = absurd (cc)

-- a step or the verdict
kept_step-Follows
    : (replay : Replay) (line : List ℕ) (next : State) (read : Result Said LineErr)
    → line_of line ≡ read
    → kept_step replay read ≡ Ok next
    → IsKept (due.step replay) line next
kept_step-Follows replay line next (Ok (said.step step)) read is =
    let bounds = (line_of-is line (said.step step) read).bounds in
    said-kept (due.step replay) line (said.step step) next read
    (moved-Ok replay step next _ bounds refl is)
kept_step-Follows replay line next (Ok (said.verdict v)) read is =
    said-kept (due.step replay) line (said.verdict v) next read (sym (Ok-injective _ _ is))
kept_step-Follows replay line next (Ok said.start) read is = absurd (cc)
kept_step-Follows replay line next (Ok (said.left_term t)) read is = absurd (cc)
kept_step-Follows replay line next (Ok (said.right_term t)) read is = absurd (cc)
kept_step-Follows replay line next (Ok (said.left w)) read is = absurd (cc)
kept_step-Follows replay line next (Ok (said.right w)) read is = absurd (cc)
kept_step-Follows replay line next (Ok (said.witness w)) read is = absurd (cc)
kept_step-Follows replay line next (Ok said.finish) read is = absurd (cc)
kept_step-Follows replay line next (Err e) read is = absurd (cc)

-- the witness
shown-Follows
    : (replay : Replay) (verdict : Verdict) (w : List Letter) (next : State)
    → shown replay verdict w ≡ Ok next
    → Follows (due.witness replay verdict) (said.witness w) next
shown-Follows replay verdict w next is =
    let same_word = Decides-word_eq w replay.present in
    let same_verdict = Decides-gives_verdict (verdict_of (sign_of w)) verdict in
    go (word_eq w replay.present) (gives_verdict (verdict_of (sign_of w)) verdict) same_word.0 same_verdict.0
    is
  where
    go
        : (same goes : Bool)
        → (same ≡ true → w ≡ replay.present)
        → (goes ≡ true → verdict_of (sign_of w) ≡ Some verdict)
        → cond same (cond goes (Ok (due.finish replay verdict)) (Err Sign)) (Err Witness) ≡ Ok next
        → Follows (due.witness replay verdict) (said.witness w) next
    go true true one two is = (one refl, two refl, sym (Ok-injective _ _ is))
    go true false one two is = absurd (cc)
    go false goes one two is = absurd (cc)

kept_witness-Follows
    : (replay : Replay) (verdict : Verdict) (line : List ℕ) (next : State) (read : Result Said LineErr)
    → line_of line ≡ read
    → kept_witness replay verdict read ≡ Ok next
    → IsKept (due.witness replay verdict) line next
kept_witness-Follows replay verdict line next (Ok (said.witness w)) read is =
    said-kept (due.witness replay verdict) line (said.witness w) next read
    (shown-Follows replay verdict w next is)
kept_witness-Follows replay verdict line next (Ok said.start) read is = absurd (cc)
kept_witness-Follows replay verdict line next (Ok (said.left_term t)) read is = absurd (cc)
kept_witness-Follows replay verdict line next (Ok (said.right_term t)) read is = absurd (cc)
kept_witness-Follows replay verdict line next (Ok (said.left w)) read is = absurd (cc)
kept_witness-Follows replay verdict line next (Ok (said.right w)) read is = absurd (cc)
kept_witness-Follows replay verdict line next (Ok (said.step step)) read is = absurd (cc)
kept_witness-Follows replay verdict line next (Ok (said.verdict v)) read is = absurd (cc)
kept_witness-Follows replay verdict line next (Ok said.finish) read is = absurd (cc)
kept_witness-Follows replay verdict line next (Err e) read is = absurd (cc)

-- the end
kept_finish-Follows
    : (replay : Replay) (verdict : Verdict) (line : List ℕ) (next : State) (test : Bool)
    → bytes_eq line (codes "end") ≡ test
    → kept_finish replay verdict test ≡ Ok next
    → IsKept (due.finish replay verdict) line next
kept_finish-Follows replay verdict line next true test is =
    text-kept (due.finish replay verdict) line said.finish next test tt (sym (Ok-injective _ _ is))
kept_finish-Follows replay verdict line next false test is = absurd (cc)

-- a line that is kept says something that may follow
pub kept_short-Follows
    : (now : State) (line : List ℕ) (next : State)
    → kept_short now line ≡ Ok next
    → IsKept now line next
kept_short-Follows due.start line next is = kept_start-Follows line next _ refl is
kept_short-Follows due.left line next is =
    kept_left-Follows line next _ refl
    (of_kind-Ok (is_kind (kind_of line) kinds.Left || is_kind (kind_of line) kinds.LeftTerm) _ _ next is)
kept_short-Follows (due.right u) line next is =
    kept_right-Follows u line next _ refl (of_kind-Ok (is_kind (kind_of line) kinds.Right) _ _ next is)
kept_short-Follows (due.right_term u) line next is =
    kept_right_term-Follows u line next _ refl
    (of_kind-Ok (is_kind (kind_of line) kinds.RightTerm) _ _ next is)
kept_short-Follows (due.step replay) line next is = kept_step-Follows replay line next _ refl is
kept_short-Follows (due.witness replay verdict) line next is =
    kept_witness-Follows replay verdict line next _ refl
    (of_kind-Ok (is_kind (kind_of line) kinds.Witness) _ _ next is)
kept_short-Follows (due.finish replay verdict) line next is =
    kept_finish-Follows replay verdict line next _ refl is
kept_short-Follows (due.passed claim) line next is = absurd (cc)
