-- How a file is checked, line by line, and its first refusal.
--
-- The lines are taken in order, each in a state that says which line is due. The first line that can't be
-- kept is refused, for the first cause that holds of it. Line numbers and numbers of steps are given up to
-- the greatest of 64 bits.
-- Source: this project's own.
--
--   stepped w step       the word that a step leads to, or why it leads to none
--   kept_short due line  what is due after a line that isn't too long, or why it can't be kept
--   trace_file           trace files as files of lines: with this, and the causes of what no file may have
--   checked_of bytes     what a file claims, or the line and the cause of its first refusal
--
-- The first refusal in the words of lines is `IsFirstRefusal` in `FirstRefusal.antt`.
-- That it claims something exactly where it is accepted is the law `law_checked`.
use Rattle.std.specs.Prelude.{ℕ, ◌+◌, ◌-◌, ◌==◌, ◌&&◌, ◌||◌, nat_lt, Bool, true, false, not, if◌then◌else◌, List, ◌∷◌, ◌++◌, length, take, drop, codes, Option, Some, None, Result, Ok, Err}
use Rattle.std.specs.Bool.{beq}
use Rattle.std.specs.Cmp.Lexicographic.{pointwise}
use Rattle.std.specs.Str.{bytes_eq}
use Rattle.wb_base.specs.Streams.{one_more}
use Rattle.line_file.specs.Formats.{Format}
use Rattle.line_file.specs.Formats as files
use Rattle.braid_word.specs.Words.{Letter, opposite, quotient}
use Rattle.braid_word.specs.Sign.{sign_of}
use Rattle.braid_word.specs.declared.TheConstants.{MAX_LETTERS}
use Rattle.term_eval.specs.Braids.{braid}
use Rattle.handle_find.specs.Handles.{is_handle_at, reduct}
use Rattle.trace_format.specs.declared.verdict.Verdict.{Verdict}
use Rattle.trace_format.specs.declared.verdict.Verdict.TheVariants as verdicts
use Rattle.trace_format.specs.declared.line.Kind.{Kind}
use Rattle.trace_format.specs.declared.line.Kind.TheVariants as kinds
use Rattle.trace_format.specs.declared.line.StepLine.{StepLine}
use Rattle.trace_format.specs.declared.line.StepLine.TheVariants.{Handle, Commute, Swap, Delete, Insert}
use Rattle.trace_format.specs.Said.{Said}
use Rattle.trace_format.specs.Said as said
use Rattle.trace_format.specs.declared.line.LineErr.{LineErr}
use Rattle.trace_format.specs.declared.line.LineErr.TheVariants as line_errors
use Rattle.trace_format.specs.Verdicts.{verdict_of}
use Rattle.trace_format.specs.TraceLines.{kind_of, line_of}
use Rattle.trace_check.specs.Accepted.{Claim}
use Rattle.trace_check.specs.declared.TheConstants.{MAX_LINE}
use Rattle.trace_check.specs.declared.checked.Why.{Why}
use Rattle.trace_check.specs.declared.checked.Why.TheVariants.{Form, Header, Step, Long, Witness, Sign, Truncated, Extra}
use Rattle.trace_check.specs.States.{Replay, State}
use Rattle.trace_check.specs.States as due

-- ---- Tests ----

-- Whether two letters, and two words, are one.
abbrev pub letter_eq : Letter → Letter → Bool
letter_eq x y = (x.index == y.index) && beq x.negative y.negative

abbrev pub word_eq : List Letter → List Letter → Bool
word_eq = pointwise letter_eq

-- Whether a verdict is this one.
abbrev pub verdict_eq : Verdict → Verdict → Bool
verdict_eq verdicts.Less verdicts.Less = true
verdict_eq verdicts.Equal verdicts.Equal = true
verdict_eq verdicts.Greater verdicts.Greater = true
verdict_eq v w = false

abbrev pub gives_verdict : Option Verdict → Verdict → Bool
gives_verdict None verdict = false
gives_verdict (Some v) verdict = verdict_eq v verdict

-- Whether the letters at two places, counted from 0, are a handle.
abbrev pub is_handle_within : List Letter → ℕ → ℕ → Bool
is_handle_within w p q = nat_lt p q && nat_lt q (length w) && is_handle_at w (p, q)

-- Whether the indices of two letters are 2 or more apart.
abbrev pub are_far : Letter → Letter → Bool
are_far x y = nat_lt (x.index + 1) y.index || nat_lt (y.index + 1) x.index

-- Whether they differ by 1.
abbrev pub are_near : Letter → Letter → Bool
are_near x y = (y.index == x.index + 1) || (x.index == y.index + 1)

-- Whether two letters have one sign.
abbrev pub have_one_sign : Letter → Letter → Bool
have_one_sign x y = beq y.negative x.negative

-- Whether three letters are a side of a braid relation: they have one sign, the first and the last one
-- index, and the second one that differs by 1.
abbrev pub are_braided : Letter → Letter → Letter → Bool
are_braided x y z = (z.index == x.index) && have_one_sign x y && have_one_sign x z && are_near x y

-- Whether two letters are inverse to each other.
abbrev pub are_inverse : Letter → Letter → Bool
are_inverse x y = (y.index == x.index) && not (have_one_sign x y)

-- Whether a line's kind is this one.
abbrev pub is_kind : Option Kind → Kind → Bool
is_kind (Some kinds.Start) kinds.Start = true
is_kind (Some kinds.Left) kinds.Left = true
is_kind (Some kinds.Right) kinds.Right = true
is_kind (Some kinds.LeftTerm) kinds.LeftTerm = true
is_kind (Some kinds.RightTerm) kinds.RightTerm = true
is_kind (Some kinds.Step) kinds.Step = true
is_kind (Some kinds.Verdict) kinds.Verdict = true
is_kind (Some kinds.Witness) kinds.Witness = true
is_kind (Some kinds.Finish) kinds.Finish = true
is_kind kind other = false

-- ---- Steps ----

-- A word that is come to, where it isn't too long.
abbrev pub stepped_to : List Letter → Result (List Letter) Why
stepped_to w = if nat_lt MAX_LETTERS (length w) then Err Long else Ok w

-- The word with two letters that commute, the first at a place, in the other order: by the letters before
-- that place, and those from there on.
abbrev pub commuted : List Letter → List Letter → Result (List Letter) Why
commuted front (x ∷ (y ∷ back)) = if are_far x y then stepped_to (front ++ (y ∷ x ∷ back)) else Err Step
commuted front behind = Err Step

-- The same with three letters that are a side of a braid relation as the other side.
abbrev pub braided : List Letter → List Letter → Result (List Letter) Why
braided front (x ∷ (y ∷ (z ∷ back))) =
    if are_braided x y z then stepped_to (front ++ (y ∷ x ∷ y ∷ back)) else Err Step
braided front behind = Err Step

-- The same without two letters that are inverse to each other.
abbrev pub deleted : List Letter → List Letter → Result (List Letter) Why
deleted front (x ∷ (y ∷ back)) = if are_inverse x y then stepped_to (front ++ back) else Err Step
deleted front behind = Err Step

-- The word that a step leads to. Places count from 1. A letter is inserted behind the last one at most.
abbrev pub stepped : List Letter → StepLine → Result (List Letter) Why
stepped w (Handle p q) =
    if is_handle_within w (p - 1) (q - 1) then stepped_to (reduct w (p - 1) (q - 1)) else Err Step
stepped w (Commute p) = commuted (take (p - 1) w) (drop (p - 1) w)
stepped w (Swap p) = braided (take (p - 1) w) (drop (p - 1) w)
stepped w (Delete p) = deleted (take (p - 1) w) (drop (p - 1) w)
stepped w (Insert p x) =
    if nat_lt (length w) (p - 1)
    then Err Step
    else stepped_to (take (p - 1) w ++ (x ∷ opposite x ∷ drop (p - 1) w))

-- ---- One line ----

-- The first line.
abbrev pub kept_start : Bool → Result State Why
kept_start true = Ok due.left
kept_start false = Err Header

-- The cause of a line that has a due keyword and isn't read. Want of memory has a line here for completeness:
-- a definition never answers it.
abbrev pub cause_of : LineErr → Why
cause_of line_errors.Long = Long
cause_of line_errors.Unknown = Form
cause_of line_errors.Form = Form
cause_of line_errors.Memory = Form

-- What is due with a word, where it isn't too long.
abbrev pub with_word : Result (List Letter) Why → (List Letter → Result State Why) → Result State Why
with_word (Ok w) next = next w
with_word (Err why) next = Err why

-- The left word, or the braid of the left term.
abbrev pub kept_left : Result Said LineErr → Result State Why
kept_left (Ok (said.left w)) = Ok (due.right w)
kept_left (Ok (said.left_term t)) = with_word (stepped_to (braid t)) (λ w. Ok (due.right_term w))
kept_left (Ok other) = Err Form
kept_left (Err e) = Err (cause_of e)

-- The right word, with which the replay begins at the quotient.
abbrev pub begun_with : List Letter → List Letter → Result State Why
begun_with left right =
    if nat_lt MAX_LETTERS (length (quotient left right))
    then Err Long
    else Ok (due.step (record { left = left; right = right; present = quotient left right; steps = 0 }))

abbrev pub kept_right : List Letter → Result Said LineErr → Result State Why
kept_right left (Ok (said.right w)) = begun_with left w
kept_right left (Ok other) = Err Form
kept_right left (Err e) = Err (cause_of e)

-- The same with the braid of the right term.
abbrev pub kept_right_term : List Letter → Result Said LineErr → Result State Why
kept_right_term left (Ok (said.right_term t)) = with_word (stepped_to (braid t)) (begun_with left)
kept_right_term left (Ok other) = Err Form
kept_right_term left (Err e) = Err (cause_of e)

-- A step, or the verdict.
abbrev pub moved : Replay → Result (List Letter) Why → Result State Why
moved replay (Ok w) = Ok (due.step (record replay { present = w; steps = one_more replay.steps }))
moved replay (Err why) = Err why

abbrev pub kept_step : Replay → Result Said LineErr → Result State Why
kept_step replay (Ok (said.step step)) = moved replay (stepped replay.present step)
kept_step replay (Ok (said.verdict verdict)) = Ok (due.witness replay verdict)
kept_step replay (Ok other) = Err Form
kept_step replay (Err e) = Err Form

-- The witness: the present word, with the sign that goes with the verdict.
abbrev pub shown : Replay → Verdict → List Letter → Result State Why
shown replay verdict w =
    if word_eq w replay.present
    then (if gives_verdict (verdict_of (sign_of w)) verdict then Ok (due.finish replay verdict) else Err Sign)
    else Err Witness

abbrev pub kept_witness : Replay → Verdict → Result Said LineErr → Result State Why
kept_witness replay verdict (Ok (said.witness w)) = shown replay verdict w
kept_witness replay verdict (Ok other) = Err Form
kept_witness replay verdict (Err e) = Err (cause_of e)

-- The last line, and what the file claims with it.
abbrev pub claimed : Replay → Verdict → Claim
claimed replay verdict = record {
  left = replay.left;
  right = replay.right;
  verdict = verdict;
  witness = replay.present;
  steps = replay.steps;
}

abbrev pub kept_finish : Replay → Verdict → Bool → Result State Why
kept_finish replay verdict true = Ok (due.passed (claimed replay verdict))
kept_finish replay verdict false = Err Form

-- A line of the due kind is looked at; any other has this cause.
abbrev pub of_kind : Bool → Why → Result State Why → Result State Why
of_kind true why kept = kept
of_kind false why kept = Err why

-- What is due after a line that isn't too long.
abbrev pub kept_short : State → List ℕ → Result State Why
kept_short due.start line = kept_start (bytes_eq line (codes "braid-trace 1"))
kept_short due.left line =
    of_kind (is_kind (kind_of line) kinds.Left || is_kind (kind_of line) kinds.LeftTerm) Header
    (kept_left (line_of line))
kept_short (due.right left) line =
    of_kind (is_kind (kind_of line) kinds.Right) Header (kept_right left (line_of line))
kept_short (due.right_term left) line =
    of_kind (is_kind (kind_of line) kinds.RightTerm) Header (kept_right_term left (line_of line))
kept_short (due.step replay) line = kept_step replay (line_of line)
kept_short (due.witness replay verdict) line =
    of_kind (is_kind (kind_of line) kinds.Witness) Form (kept_witness replay verdict (line_of line))
kept_short (due.finish replay verdict) line = kept_finish replay verdict (bytes_eq line (codes "end"))
kept_short (due.passed claim) line = Err Extra

-- ---- All lines ----

-- What a file claims whose last line was passed.
abbrev pub claim_passed : State → Option Claim
claim_passed (due.passed claim) = Some claim
claim_passed now = None

-- Trace files, as files of lines.
abbrev pub trace_file : Format State Why Claim
trace_file = record {
  start = due.start;
  kept = kept_short;
  passed = claim_passed;
  most = MAX_LINE;
  extra = Extra;
  long = Long;
  truncated = Truncated;
}

-- What a file claims, or its first refusal. Its lines count from 1.
abbrev pub checked_of : List ℕ → Result Claim (ℕ × Why)
checked_of bytes = files.checked_of trace_file bytes
