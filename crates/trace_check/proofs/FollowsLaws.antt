-- What may follow is kept, and so trace files are files of lines with a grammar (`IsGrammarOf-trace`).
use Rattle.std.proofs.Common.{◌≡◌, ◌||◌, Bool, true, false, Option, None, Result, Ok, refl, sym, ap, ◌∙◌}
use Rattle.std.proofs.lemmas.Bool.{le-ltb}
use Rattle.line_file.specs.Grammars.{IsGrammarOf}
use Rattle.braid_word.specs.Sign.{sign_of}
use Rattle.trace_format.specs.declared.line.Kind.{Kind}
use Rattle.trace_format.specs.declared.line.Kind.TheVariants as kinds
use Rattle.trace_format.specs.Said.{Said}
use Rattle.trace_format.specs.Said as said
use Rattle.trace_format.specs.Verdicts.{verdict_of}
use Rattle.trace_format.specs.TraceLines.{kind_of, line_of, line_text, IsLine}
use Rattle.trace_format.proofs.KeywordLaws.{kind_of-line_text}
use Rattle.trace_format.proofs.LineLaws.{line_of-line_text, line_text-no_lf}
use Rattle.trace_check.specs.Checking.{is_kind, moved, kept_left, kept_right, kept_right_term, kept_step, kept_witness, of_kind, kept_short, claim_passed, trace_file}
use Rattle.trace_check.specs.declared.checked.Why.{Why}
use Rattle.trace_check.specs.declared.checked.Why.TheVariants.{Header}
use Rattle.trace_check.specs.States.{State}
use Rattle.trace_check.specs.States as due
use Rattle.trace_check.proofs.KeepLemmas.{Decides-word_eq, Decides-gives_verdict}
use Rattle.trace_check.proofs.LineLengths.{length-line_text}
use Rattle.trace_check.proofs.StepLaws.{IsStep-stepped}
use Rattle.trace_check.proofs.KeptLaws.{Follows, trace_grammar, kept_short-Follows}

-- ---- What may follow is kept ----

-- a line is looked at where its kind is due
of_kind-due
    : (right : Bool) (why : Why) (kept : Result State Why)
    → right ≡ true
    → of_kind right why kept ≡ kept
of_kind-due true why kept is = refl
of_kind-due false why kept is = absurd (cc)

-- Whether a line is of a kind that is due as the left one.
abbrev is_left : Option Kind → Bool
is_left kind = is_kind kind kinds.Left || is_kind kind kinds.LeftTerm

kept_short-line_text
    : (now : State) (l : Said) (next : State)
    → IsLine l
    → Follows now l next
    → kept_short now (line_text l) ≡ Ok next
kept_short-line_text due.start said.start next bounds follows = ap (λ d. Ok d) (sym follows)
kept_short-line_text due.left (said.left w) next bounds follows =
    of_kind-due (is_left (kind_of (line_text (said.left w)))) Header _
    (ap is_left (kind_of-line_text (said.left w)))
    ∙ ap kept_left (line_of-line_text (said.left w) bounds) ∙ ap (λ d. Ok d) (sym follows)
kept_short-line_text due.left (said.left_term t) next bounds (short, follows) =
    of_kind-due (is_left (kind_of (line_text (said.left_term t)))) Header
    (kept_left (line_of (line_text (said.left_term t)))) (ap is_left (kind_of-line_text (said.left_term t)))
    ∙ ap kept_left (line_of-line_text (said.left_term t) bounds)
    ∙ rw (le-ltb _ _ short) (ap (λ d. Ok d) (sym follows))
kept_short-line_text (due.right u) (said.right w) next bounds (short, follows) =
    of_kind-due _ _ _ (ap (λ k. is_kind k kinds.Right) (kind_of-line_text (said.right w)))
    ∙ ap (kept_right u) (line_of-line_text (said.right w) bounds)
    ∙ rw (le-ltb _ _ short) (ap (λ d. Ok d) (sym follows))
kept_short-line_text (due.right_term u) (said.right_term t) next bounds (short, within, follows) =
    of_kind-due _ Header (kept_right_term u (line_of (line_text (said.right_term t))))
    (ap (λ k. is_kind k kinds.RightTerm) (kind_of-line_text (said.right_term t)))
    ∙ ap (kept_right_term u) (line_of-line_text (said.right_term t) bounds)
    ∙ rw (le-ltb _ _ short, le-ltb _ _ within) (ap (λ d. Ok d) (sym follows))
kept_short-line_text (due.step replay) (said.step step) next bounds follows =
    let leads = IsStep-stepped replay.present step follows.word follows.leads follows.short in
    ap (kept_step replay) (line_of-line_text (said.step step) bounds)
    ∙ ap (moved replay) leads ∙ ap (λ d. Ok d) (sym follows.due)
kept_short-line_text (due.step replay) (said.verdict v) next bounds follows =
    ap (kept_step replay) (line_of-line_text (said.verdict v) bounds)
    ∙ ap (λ d. Ok d) (sym follows)
kept_short-line_text (due.witness replay verdict) (said.witness w) next bounds (same, sign, follows) =
    let word = (Decides-word_eq w replay.present).1 same in
    let goes = (Decides-gives_verdict (verdict_of (sign_of w)) verdict).1 sign in
    of_kind-due _ _ _ (ap (λ k. is_kind k kinds.Witness) (kind_of-line_text (said.witness w)))
    ∙ ap (kept_witness replay verdict) (line_of-line_text (said.witness w) bounds)
    ∙ rw (word, goes) (ap (λ d. Ok d) (sym follows))
kept_short-line_text (due.finish replay verdict) said.finish next bounds follows =
    ap (λ d. Ok d) (sym follows)
kept_short-line_text now l next bounds follows = absurd follows

-- ---- Trace files as files of lines ----

-- what may follow is said where a line is due
Follows-due : (now next : State) (l : Said) → Follows now l next → claim_passed now ≡ None
Follows-due due.start next l follows = refl
Follows-due due.left next l follows = refl
Follows-due (due.right u) next l follows = refl
Follows-due (due.right_term u) next l follows = refl
Follows-due (due.step replay) next l follows = refl
Follows-due (due.witness replay verdict) next l follows = refl
Follows-due (due.finish replay verdict) next l follows = refl
Follows-due (due.passed claim) next l follows = absurd follows

-- a trace file has the lines that may be said
pub IsGrammarOf-trace : IsGrammarOf trace_file trace_grammar
IsGrammarOf-trace = record {
  says = λ now next line is. kept_short-Follows now line next is;
  keeps = λ now next l bounds follows. kept_short-line_text now l next bounds follows;
  due = Follows-due;
  short = length-line_text;
  no_lf = line_text-no_lf;
}
