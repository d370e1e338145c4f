-- Bytes that are heard one by one, and the lines that they are.
--
-- What was given for some bytes are the answers to their whole lines (`heard_all-text`), and with the
-- answer to what stands behind the last LF they are those to all lines (`heard_all-ended`).
use Rattle.std.proofs.Common.{◌≡◌, ℕ, ◌<◌, ◌==◌, List, [], ◌∷◌, ◌++◌, length, refl, ap, sym, ◌∙◌, inl, inr, arith, append_assoc}
use Rattle.std.specs.List.{onto_first}
use Rattle.std.proofs.lemmas.Bool.{cases_Bool, cases_eq, eq-eqb}
use Rattle.std.proofs.lemmas.List.{append-nil}
use Rattle.wb_base.specs.Lines.{lines_of, onto_line, cut, whole_lines}
use Rattle.wb_base.proofs.LineLemmas.{lines_of-cons, cut-lf, cut-cons}
use Rattle.session_run.specs.Jobs.{Job}
use Rattle.session_run.specs.Conversation.{Talk, heard_all, silent, last_answer, answer_to, answers, jobs_after}
use Rattle.session_run.proofs.TalkLemmas.{heard_all-append, heard-lf, heard-other}

-- ---- Bytes in front of the first line ----

-- Bytes in front of the first of these lines, if there is one.
abbrev pub onto_lines : List ℕ → List (List ℕ) → List (List ℕ)
onto_lines rest [] = []
onto_lines rest (text ∷ texts) = (rest ++ text) ∷ texts

-- Bytes in front of the first of these lines, or as a line of their own where there is none.
abbrev pub begun : List ℕ → List (List ℕ) → List (List ℕ)
begun [] [] = []
begun (byte ∷ rest) [] = (byte ∷ rest) ∷ []
begun rest (text ∷ texts) = (rest ++ text) ∷ texts

-- no bytes in front change nothing
onto_lines-nil : (texts : List (List ℕ)) → onto_lines [] texts ≡ texts
onto_lines-nil [] = refl
onto_lines-nil (text ∷ texts) = refl

-- the same, where they may be a line
begun-nil : (texts : List (List ℕ)) → begun [] texts ≡ texts
begun-nil [] = refl
begun-nil (text ∷ texts) = refl

-- one byte more in front of a whole line
onto_lines-more
    : (rest : List ℕ) (x : ℕ) (parts : List (List ℕ) × List ℕ)
    → onto_lines rest (onto_line x parts).0 ≡ onto_lines (rest ++ x ∷ []) parts.0
onto_lines-more rest x ([], behind) = refl
onto_lines-more rest x (text ∷ texts, behind) = ap (λ z. z ∷ texts) (sym (append_assoc rest (x ∷ []) text))

-- one byte more in front of a line
begun-more
    : (rest : List ℕ) (x : ℕ) (texts : List (List ℕ))
    → begun rest (onto_first x texts) ≡ begun (rest ++ x ∷ []) texts
begun-more [] x [] = refl
begun-more (r ∷ rest) x [] = refl
begun-more [] x (text ∷ texts) = refl
begun-more (r ∷ rest) x (text ∷ texts) = ap (λ z. (r ∷ z) ∷ texts) (sym (append_assoc rest (x ∷ []) text))

-- an empty line behind them makes a line of them
begun-lf : (rest : List ℕ) (texts : List (List ℕ)) → begun rest ([] ∷ texts) ≡ rest ∷ texts
begun-lf [] texts = refl
begun-lf (r ∷ rest) texts = ap (λ z. z ∷ texts) (append-nil (r ∷ rest))

-- What stands behind the last LF, as a line where there is a byte.
abbrev pub last_line : List ℕ → List (List ℕ)
last_line [] = []
last_line (byte ∷ bytes) = (byte ∷ bytes) ∷ []

-- an empty whole line behind them makes a line of them
onto_lines-lf : (rest : List ℕ) (texts : List (List ℕ)) → onto_lines rest ([] ∷ texts) ≡ rest ∷ texts
onto_lines-lf rest texts = ap (λ z. z ∷ texts) (append-nil rest)

-- with no further byte they are the last line
begun-last : (rest : List ℕ) → begun rest [] ≡ last_line rest
begun-last [] = refl
begun-last (r ∷ rest) = refl

-- the answer to a last line
last-answered : (jobs : List Job) (rest : List ℕ) → last_answer jobs rest ≡ answers jobs (begun rest [])
last-answered jobs [] = refl
last-answered jobs (r ∷ rest) = sym (append-nil (answer_to jobs (r ∷ rest)))

-- an LF ends a line
lines_of-lf : (x : ℕ) (xs : List ℕ) → x ≡ 10 → lines_of (x ∷ xs) ≡ [] ∷ lines_of xs
lines_of-lf x xs is = rw (eq-eqb x 10 is) refl

-- ---- Heard bytes as lines ----

-- The open line is answered.
abbrev pub answered : Talk → Talk
answered t = record { jobs = jobs_after t.jobs t.rest; rest = []; text = t.text ++ answer_to t.jobs t.rest }

-- The open line has one byte more.
abbrev pub longer : Talk → ℕ → Talk
longer t x = record t { rest = t.rest ++ x ∷ [] }

-- what was given for bytes are the answers to their whole lines
heard_all-given
    : (t : Talk) (xs : List ℕ)
    → (heard_all t xs).text ≡ t.text ++ answers t.jobs (onto_lines t.rest (whole_lines xs))
heard_all-given t [] = sym (append-nil t.text)
heard_all-given t (x ∷ xs) = elim (cases_eq x 10) [
  | inl is ↦
      ap (λ z. (heard_all z xs).text) (heard-lf t x is)
      ∙ heard_all-given (answered t) xs
      ∙ ap (λ z. (answered t).text ++ answers (answered t).jobs z) (onto_lines-nil (whole_lines xs))
      ∙ append_assoc t.text (answer_to t.jobs t.rest) (answers (answered t).jobs (whole_lines xs))
      ∙ ap (λ z. t.text ++ answers t.jobs z)
      (sym (ap (λ parts. onto_lines t.rest parts.0) (cut-lf x xs is)
      ∙ onto_lines-lf t.rest (whole_lines xs)))
  | inr other ↦
      ap (λ z. (heard_all z xs).text) (heard-other t x other)
      ∙ heard_all-given (longer t x) xs
      ∙ ap (λ z. t.text ++ answers t.jobs z)
      (sym (ap (λ parts. onto_lines t.rest parts.0) (cut-cons x xs other)
      ∙ onto_lines-more t.rest x (cut xs)))
]

-- the lines of bytes are the whole ones, and what stands behind the last LF
heard_all-lines
    : (t : Talk) (xs : List ℕ)
    → begun t.rest (lines_of xs) ≡ onto_lines t.rest (whole_lines xs) ++ last_line (heard_all t xs).rest
heard_all-lines t [] = begun-last t.rest
heard_all-lines t (x ∷ xs) = elim (cases_eq x 10) [
  | inl is ↦
      ap (begun t.rest) (lines_of-lf x xs is)
      ∙ begun-lf t.rest (lines_of xs)
      ∙ ap (λ z. t.rest ∷ z)
      (sym (begun-nil (lines_of xs)) ∙ heard_all-lines (answered t) xs
      ∙ ap (λ z. z ++ last_line (heard_all (answered t) xs).rest) (onto_lines-nil (whole_lines xs)))
      ∙ ap (λ z. z ++ last_line (heard_all (answered t) xs).rest)
      (sym (ap (λ parts. onto_lines t.rest parts.0) (cut-lf x xs is)
      ∙ onto_lines-lf t.rest (whole_lines xs)))
      ∙ ap (λ z. onto_lines t.rest (whole_lines (x ∷ xs)) ++ last_line (heard_all z xs).rest)
      (sym (heard-lf t x is))
  | inr other ↦
      ap (begun t.rest) (lines_of-cons x xs other)
      ∙ begun-more t.rest x (lines_of xs)
      ∙ heard_all-lines (longer t x) xs
      ∙ ap (λ z. z ++ last_line (heard_all (longer t x) xs).rest)
      (sym (ap (λ parts. onto_lines t.rest parts.0) (cut-cons x xs other)
      ∙ onto_lines-more t.rest x (cut xs)))
      ∙ ap (λ z. onto_lines t.rest (whole_lines (x ∷ xs)) ++ last_line (heard_all z xs).rest)
      (sym (heard-other t x other))
]

-- What was given, and the answer to what stands behind the last LF.
abbrev pub ended_text : Talk → List ℕ
ended_text t = t.text ++ last_answer t.jobs t.rest

-- with the answer to what stands behind the last LF all lines are answered
heard_all-answered
    : (t : Talk) (xs : List ℕ)
    → ended_text (heard_all t xs) ≡ t.text ++ answers t.jobs (begun t.rest (lines_of xs))
heard_all-answered t [] = ap (λ z. t.text ++ z) (last-answered t.jobs t.rest)
heard_all-answered t (x ∷ xs) = elim (cases_eq x 10) [
  | inl is ↦
      ap (λ z. ended_text (heard_all z xs)) (heard-lf t x is)
      ∙ heard_all-answered (answered t) xs
      ∙ ap (λ z. (answered t).text ++ answers (answered t).jobs z) (begun-nil (lines_of xs))
      ∙ append_assoc t.text (answer_to t.jobs t.rest) (answers (answered t).jobs (lines_of xs))
      ∙ ap (λ z. t.text ++ answers t.jobs z)
      (sym (ap (begun t.rest) (lines_of-lf x xs is) ∙ begun-lf t.rest (lines_of xs)))
  | inr other ↦
      ap (λ z. ended_text (heard_all z xs)) (heard-other t x other)
      ∙ heard_all-answered (longer t x) xs
      ∙ ap (λ z. t.text ++ answers t.jobs z)
      (sym (ap (begun t.rest) (lines_of-cons x xs other) ∙ begun-more t.rest x (lines_of xs)))
]

-- what was given since nothing was heard
pub heard_all-text : (xs : List ℕ) → (heard_all silent xs).text ≡ answers [] (whole_lines xs)
heard_all-text xs = heard_all-given silent xs ∙ ap (answers []) (onto_lines-nil (whole_lines xs))

-- the same, with the answer to a last line without LF
pub heard_all-ended
    : (xs : List ℕ)
    → (heard_all silent xs).text ++ last_answer (heard_all silent xs).jobs (heard_all silent xs).rest
    ≡ answers [] (lines_of xs)
heard_all-ended xs = heard_all-answered silent xs ∙ ap (answers []) (begun-nil (lines_of xs))

-- the lines, the last of which may have no LF
pub lines_of-whole : (xs : List ℕ) → lines_of xs ≡ whole_lines xs ++ last_line (heard_all silent xs).rest
lines_of-whole xs =
    sym (begun-nil (lines_of xs))
    ∙ heard_all-lines silent xs
    ∙ ap (λ z. z ++ last_line (heard_all silent xs).rest) (onto_lines-nil (whole_lines xs))

-- ---- Text that was given before does not matter ----

-- Some text in front of what was given.
abbrev pub said_before : List ℕ → Talk → Talk
said_before text t = record { jobs = t.jobs; rest = t.rest; text = text ++ t.text }

-- jobs and the open line don't depend on the text, which grows at its end
heard_all-apart
    : (t : Talk) (text : List ℕ) (xs : List ℕ)
    → heard_all (said_before text t) xs ≡ said_before text (heard_all t xs)
heard_all-apart t text [] = refl
heard_all-apart t text (x ∷ xs) = elim (cases_eq x 10) [
  | inl is ↦
      ap (λ z. heard_all z xs)
      (heard-lf (said_before text t) x is
      ∙ ap (λ z. record { jobs = jobs_after t.jobs t.rest; rest = []; text = z })
      (append_assoc text t.text (answer_to t.jobs t.rest)))
      ∙ heard_all-apart (answered t) text xs
      ∙ ap (λ z. said_before text (heard_all z xs)) (sym (heard-lf t x is))
  | inr other ↦
      ap (λ z. heard_all z xs) (heard-other (said_before text t) x other)
      ∙ heard_all-apart (longer t x) text xs
      ∙ ap (λ z. said_before text (heard_all z xs)) (sym (heard-other t x other))
]

-- more bytes, heard as of an empty text
pub heard_all-more_bytes
    : (front piece : List ℕ)
    → heard_all silent (front ++ piece)
    ≡ record {
      jobs = (heard_all (record {
        jobs = (heard_all silent front).jobs;
        rest = (heard_all silent front).rest;
        text = [];
      }) piece).jobs;
      rest = (heard_all (record {
        jobs = (heard_all silent front).jobs;
        rest = (heard_all silent front).rest;
        text = [];
      }) piece).rest;
      text = (heard_all silent front).text
          ++ (heard_all
          (record { jobs = (heard_all silent front).jobs; rest = (heard_all silent front).rest; text = [] })
          piece).text;
    }
heard_all-more_bytes front piece =
    let now = heard_all silent front in
    let whole : record { jobs = now.jobs; rest = now.rest; text = now.text ++ [] } ≡ now =
    ap (λ z. record { jobs = now.jobs; rest = now.rest; text = z }) (append-nil now.text) in
    heard_all-append silent front piece
    ∙ ap (λ t. heard_all t piece) (sym whole)
    ∙ heard_all-apart (record { jobs = now.jobs; rest = now.rest; text = [] }) now.text piece

-- ---- Lines of more bytes ----

-- the whole lines of a front, and the lines that follow them
pub record Follows (lines first : List (List ℕ)) : Type 0 where
  pub others : List (List ℕ)
  pub parts : lines ≡ first ++ others

-- one line in front of both
Follows-cons
    : (text : List ℕ) (lines first : List (List ℕ))
    → Follows lines first
    → Follows (text ∷ lines) (text ∷ first)
Follows-cons text lines first follows =
    record { others = follows.others; parts = ap (λ z. text ∷ z) follows.parts }

-- one byte in front of both
Follows-onto
    : (x : ℕ) (all front : List (List ℕ) × List ℕ)
    → Follows all.0 front.0
    → Follows (onto_line x all).0 (onto_line x front).0
Follows-onto x all ([], behind) follows = record { others = (onto_line x all).0; parts = refl }
Follows-onto x (lines, rest) (text ∷ first, behind) follows =
    rw follows.parts record { others = follows.others; parts = refl }

-- the whole lines of a front are the first of all
pub whole_lines-front : (xs ys : List ℕ) → Follows (whole_lines (xs ++ ys)) (whole_lines xs)
whole_lines-front [] ys = record { others = whole_lines ys; parts = refl }
whole_lines-front (x ∷ xs) ys = elim (cases_Bool (x == 10)) [
  | inl ends ↦ rw (whole_lines, ends) (Follows-cons [] _ _ (whole_lines-front xs ys))
  | inr other ↦ rw (whole_lines, other) (Follows-onto x (cut (xs ++ ys)) (cut xs) (whole_lines-front xs ys))
]

-- One more line at least follows these.
pub record Precedes (lines first : List (List ℕ)) : Type 0 where
  pub next : List ℕ
  pub others : List (List ℕ)
  pub parts : lines ≡ first ++ next ∷ others

-- one line in front of both
Precedes-cons
    : (text : List ℕ) (lines first : List (List ℕ))
    → Precedes lines first
    → Precedes (text ∷ lines) (text ∷ first)
Precedes-cons text lines first before =
    record { next = before.next; others = before.others; parts = ap (λ z. text ∷ z) before.parts }

-- one byte in front of both
Precedes-onto
    : (x : ℕ) (lines : List (List ℕ)) (front : List (List ℕ) × List ℕ)
    → Precedes lines front.0
    → Precedes (onto_first x lines) (onto_line x front).0
Precedes-onto x lines ([], behind) before =
    rw before.parts record { next = x ∷ before.next; others = before.others; parts = refl }
Precedes-onto x lines (text ∷ first, behind) before =
    rw before.parts record { next = before.next; others = before.others; parts = refl }

-- some bytes have a line
lines_of-some : (y : ℕ) (ys : List ℕ) → Precedes (lines_of (y ∷ ys)) []
lines_of-some y ys = elim (cases_Bool (y == 10)) [
  | inl ends ↦ rw ends record { next = []; others = lines_of ys; parts = refl }
  | inr other ↦ rw other (first_of (lines_of ys))
]
  where
    first_of : (texts : List (List ℕ)) → Precedes (onto_first y texts) []
    first_of [] = record { next = y ∷ []; others = []; parts = refl }
    first_of (text ∷ texts) = record { next = y ∷ text; others = texts; parts = refl }

-- a line at least follows the whole lines of a front
pub lines_of-front : (xs ys : List ℕ) → 0 < length ys → Precedes (lines_of (xs ++ ys)) (whole_lines xs)
lines_of-front [] [] some = absurd (omega arith)
lines_of-front [] (y ∷ ys) some = lines_of-some y ys
lines_of-front (x ∷ xs) ys some = elim (cases_Bool (x == 10)) [
  | inl ends ↦ rw (whole_lines, ends) (Precedes-cons [] _ _ (lines_of-front xs ys some))
  | inr other ↦ rw (whole_lines, other) (Precedes-onto x _ (cut xs) (lines_of-front xs ys some))
]

-- the same, where they end with an open line
pub lines_of-open
    : (xs : List ℕ)
    → 0 < length (heard_all silent xs).rest
    → Precedes (lines_of xs) (whole_lines xs)
lines_of-open xs some = go (heard_all silent xs).rest some (lines_of-whole xs)
  where
    go
        : (rest : List ℕ)
        → 0 < length rest
        → lines_of xs ≡ whole_lines xs ++ last_line rest
        → Precedes (lines_of xs) (whole_lines xs)
    go [] few parts = absurd (omega arith)
    go (b ∷ rest) few parts = record { next = b ∷ rest; others = []; parts = parts }
