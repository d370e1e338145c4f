-- Laws of the lines of a trace file.
--
-- What is read of a line is spelled so, each byte of it (`line_of-is`). What is spelled so is read
-- (`line_of-line_text`), and is one line (`line_text-no_lf`).
use Rattle.std.proofs.Common.{◌≡◌, ◌≢◌, ℕ, ◌<◌, true, ltb, List, [], ◌∷◌, ◌++◌, length, get_or, codes, decimal, Option, Some, None, Result, Ok, Err, refl, ap, sym, ◌∙◌, subst, arith}
use Rattle.std.specs.List.{list_all}
use Rattle.std.specs.Result.{IfOk}
use Rattle.std.proofs.lemmas.Bool.{and_parts, eqb-true, ltb-true}
use Rattle.std.proofs.lemmas.List.{nil_from_length}
use Rattle.std.proofs.lemmas.List.Elements.{All-nil, All-cons, All-append, All-get_or}
use Rattle.std.proofs.lemmas.Slice.Eq.{bytes_eq-Decides}
use Rattle.trace_format.specs.declared.line.Keyword.{Keyword}
use Rattle.trace_format.specs.declared.line.Keyword.TheVariants as words
use Rattle.trace_format.specs.declared.verdict.Verdict.TheVariants.{Less, Equal, Greater}
use Rattle.trace_format.specs.declared.line.StepLine.{StepLine}
use Rattle.trace_format.specs.declared.line.StepLine.TheVariants.{Handle, Commute, Swap, Delete, Insert}
use Rattle.trace_format.specs.declared.line.Line.{Line}
use Rattle.trace_format.specs.Said.{Said, said_by, IsNameless}
use Rattle.trace_format.specs.Said as said
use Rattle.trace_format.specs.declared.line.LineErr.{LineErr}
use Rattle.wb_base.specs.Fields.{keyword_of, behind_keyword, place_at, IsPlace, IsBehind}
use Rattle.trace_format.specs.TraceLines.{strict_result, keyword_by, field_term, only_place, two_places, place_and_letter, verdict_by, made_of, line_by, Reads, line_of, line_text, IsShortTerm, IsStepLine, IsLine}
use Rattle.trace_format.specs.TraceText.{step_text, verdict_word}
use Rattle.ld_term.specs.Terms.{Term}
use Rattle.ld_term.specs.StrictTexts.{strict_text}
use Rattle.braid_word.specs.Words.{Letter}
use Rattle.braid_word.specs.Notation.{IsReadable, letter_text, next_text, word_text, word_field, field_word}
use Rattle.wb_base.proofs.PartLemmas.{Ok-cond, Ok-injective}
use Rattle.braid_word.proofs.SpellingLemmas.{AllAbove, AllAbove-lower, decimal-above, word_text-above}
use Rattle.trace_format.proofs.TermFieldLemmas.{field_term-is, field_term-strict_text, strict_text-above}
use Rattle.braid_word.proofs.FieldLemmas.{field_word-is, field_word-word_field, IsBehind-word_field}
use Rattle.trace_format.proofs.FieldLemmas.{strict_result-is, made_of-Ok, places_text, insertion_text, word_text-one, only_place-is, only_place-decimal, two_places-is, two_places-places_text, place_and_letter-is, place_and_letter-insertion_text, verdict_by-is, verdict_by-verdict_word}
use Rattle.wb_base.proofs.FieldLemmas.{append-behind_keyword, IsBehind-behind_keyword}
use Rattle.trace_format.proofs.KeywordLaws.{keyword_text, keyword_by-is, line_of-append}

-- ---- What is read is spelled so ----

-- What a line is where something was read: its text.
pub record IsText (line : List ℕ) (l : Said) : Type 0 where
  pub text : line ≡ line_text l
  pub bounds : IsLine l

-- what is said is spelled so where what was read is
made_of-is
    : {X : Type 0} (say : X → Said) (read : Result X LineErr) (line : List ℕ) (l : Said)
    → ((x : X) → read ≡ Ok x → IsText line (say x))
    → made_of say read ≡ Ok l
    → IsText line l
made_of-is say read line l text is =
    let (x, found, same) = made_of-Ok say read l is in subst (IsText line) same (text x found)

-- the same of a word behind a keyword
made_of-field_word
    : (say : List Letter → Said) (word behind : List ℕ) (l : Said)
    → ((w : List Letter) → line_text (say w) ≡ word ++ word_field w)
    → ((w : List Letter) → IsReadable w → IsLine (say w))
    → IsBehind behind
    → made_of say (strict_result (field_word behind)) ≡ Ok l
    → IsText (word ++ behind) l
made_of-field_word say word behind l text bounds spaced =
    made_of-is say (strict_result (field_word behind)) (word ++ behind) l (λ w read.
    let field = field_word-is behind w spaced (strict_result-is _ w read) in
    record {
      text = ap (λ more. word ++ more) field.text ∙ sym (text w);
      bounds = bounds w field.readable;
    })

-- the same of a term behind a keyword
made_of-field_term
    : (say : Term → Said) (word behind : List ℕ) (l : Said)
    → ((t : Term) → line_text (say t) ≡ word ++ (32 ∷ strict_text t))
    → ((t : Term) → IsShortTerm t → IsLine (say t))
    → IsBehind behind
    → made_of say (field_term behind) ≡ Ok l
    → IsText (word ++ behind) l
made_of-field_term say word behind l text bounds spaced =
    made_of-is say (field_term behind) (word ++ behind) l (λ t read.
    let field = field_term-is behind t spaced read in
    record {
      text = ap (λ more. word ++ more) field.text ∙ sym (text t);
      bounds = bounds t field.small;
    })

-- the same of the one place of a step
made_of-only_place
    : (step : ℕ → StepLine) (word behind : List ℕ) (l : Said)
    → ((p : ℕ) → step_text (step p) ≡ word ++ (32 ∷ decimal p))
    → ((p : ℕ) → IsPlace p → IsStepLine (step p))
    → made_of (λ p. said.step (step p)) (only_place (place_at behind)) ≡ Ok l
    → IsText (word ++ behind) l
made_of-only_place step word behind l text bounds =
    made_of-is (λ p. said.step (step p)) (only_place (place_at behind)) (word ++ behind) l (λ p read.
    let place = only_place-is behind p read in
    record {
      text = ap (λ more. word ++ more) place.text ∙ sym (text p);
      bounds = bounds p place.place;
    })

-- what is read of a line with a keyword is spelled so
--
-- By keyword: what follows it is read by a function of its own, whose lemma says how that is spelled. What is
-- left is that the keyword and the text of this field are the text of the line.
line_by-is
    : (word : Keyword) (behind : List ℕ) (l : Said)
    → IsBehind behind
    → line_by (Some word) behind ≡ Ok l
    → IsText (keyword_text word ++ behind) l
line_by-is words.Start behind l spaced read =
    let (test, is) = Ok-cond _ _ _ _ read in
    let one = (bytes_eq-Decides behind (codes " 1")).0 test in
    subst (IsText (codes "braid-trace" ++ behind)) (Ok-injective _ _ is) (record {
      text = ap (λ more. codes "braid-trace" ++ more) one;
      bounds = tt;
    })
line_by-is words.Left behind l spaced read =
    made_of-field_word said.left (codes "left") behind l (λ w. refl) (λ w bounds. bounds)
    spaced read
line_by-is words.Right behind l spaced read =
    made_of-field_word said.right (codes "right") behind l (λ w. refl) (λ w bounds. bounds)
    spaced read
line_by-is words.LeftTerm behind l spaced read =
    made_of-field_term said.left_term (codes "left-term") behind l (λ t. refl) (λ t small. small)
    spaced read
line_by-is words.RightTerm behind l spaced read =
    made_of-field_term said.right_term (codes "right-term") behind l (λ t. refl) (λ t small. small)
    spaced read
line_by-is words.Handle behind l spaced read =
    made_of-is said.step (two_places (place_at behind)) (codes "h" ++ behind) l (λ step found.
    let places = two_places-is behind step found in
    subst (λ step. IsText (codes "h" ++ behind) (said.step step)) places.is (record {
      text = ap (λ more. codes "h" ++ more) places.text;
      bounds = (places.first, places.last);
    })) read
line_by-is words.Commute behind l spaced read =
    made_of-only_place Commute (codes "c") behind l (λ p. refl) (λ p place. place) read
line_by-is words.Swap behind l spaced read =
    made_of-only_place Swap (codes "s") behind l (λ p. refl) (λ p place. place) read
line_by-is words.Delete behind l spaced read =
    made_of-only_place Delete (codes "d") behind l (λ p. refl) (λ p place. place) read
line_by-is words.Insert behind l spaced read =
    made_of-is said.step (place_and_letter (place_at behind)) (codes "i" ++ behind) l (λ step found.
    let parts = place_and_letter-is behind step found in
    subst (λ step. IsText (codes "i" ++ behind) (said.step step)) parts.is (record {
      text = ap (λ more. codes "i" ++ more) parts.text;
      bounds = (parts.within, parts.on);
    })) read
line_by-is words.Verdict behind l spaced read =
    made_of-is said.verdict (verdict_by behind) (codes "verdict" ++ behind) l (λ v found. record {
      text = ap (λ more. codes "verdict" ++ more) (verdict_by-is behind v found);
      bounds = tt;
    }) read
line_by-is words.Witness behind l spaced read =
    made_of-field_word said.witness (codes "witness") behind l (λ w. refl) (λ w bounds. bounds)
    spaced read
line_by-is words.Finish behind l spaced read =
    let (test, is) = Ok-cond _ _ _ _ read in
    let none = nil_from_length behind (eqb-true (length behind) 0 test) in
    subst (IsText (codes "end" ++ behind)) (Ok-injective _ _ is) (record {
      text = ap (λ more. codes "end" ++ more) none;
      bounds = tt;
    })

-- what is read of a line is spelled so
pub line_of-is : (line : List ℕ) (l : Said) → line_of line ≡ Ok l → IsText line l
unfolding line_of
line_of-is line l read = go (keyword_by (keyword_of line)) refl read
  where
    go
        : (found : Option Keyword)
        → keyword_by (keyword_of line) ≡ found
        → line_by found (behind_keyword line) ≡ Ok l
        → IsText line l
    go None named is = absurd (cc)
    go (Some word) named is =
        let own = keyword_by-is (keyword_of line) word named in
        let text : keyword_text word ++ behind_keyword line ≡ line
        = ap (λ keyword. keyword ++ behind_keyword line) (sym own) ∙ append-behind_keyword line in
        subst (λ line. IsText line l) text
        (line_by-is word (behind_keyword line) l (IsBehind-behind_keyword line) is)

-- so is what a reader answers
pub IfOk-reads
    : (line : List ℕ) (result : Result Line LineErr)
    → Reads result (line_of line)
    → IfOk result IsNameless
    → IfOk result (λ l. (line ≡ line_text (said_by l)) × IsLine (said_by l) × IsNameless l)
IfOk-reads line (Ok l) read nameless =
    let is = line_of-is line (said_by l) read in (is.text, is.bounds, nameless)
IfOk-reads line (Err e) read nameless = tt

-- ---- What is spelled so is read ----

-- what can be said by a line is read from its text
pub line_of-line_text : (l : Said) → IsLine l → line_of (line_text l) ≡ Ok l
line_of-line_text said.start is = line_of-append words.Start (codes " 1") refl
line_of-line_text (said.left w) is =
    line_of-append words.Left (word_field w) (IsBehind-word_field w)
    ∙ ap (λ read. made_of said.left (strict_result read)) (field_word-word_field w is)
line_of-line_text (said.right w) is =
    line_of-append words.Right (word_field w) (IsBehind-word_field w)
    ∙ ap (λ read. made_of said.right (strict_result read)) (field_word-word_field w is)
line_of-line_text (said.left_term t) is =
    line_of-append words.LeftTerm (32 ∷ strict_text t) refl
    ∙ ap (made_of said.left_term) (field_term-strict_text 32 t is)
line_of-line_text (said.right_term t) is =
    line_of-append words.RightTerm (32 ∷ strict_text t) refl
    ∙ ap (made_of said.right_term) (field_term-strict_text 32 t is)
line_of-line_text (said.step (Handle p q)) is =
    line_of-append words.Handle (places_text p q) refl
    ∙ ap (made_of said.step) (two_places-places_text p q is.0 is.1)
line_of-line_text (said.step (Commute p)) is =
    line_of-append words.Commute (32 ∷ decimal p) refl
    ∙ ap (made_of (λ p. said.step (Commute p))) (only_place-decimal p is)
line_of-line_text (said.step (Swap p)) is =
    line_of-append words.Swap (32 ∷ decimal p) refl
    ∙ ap (made_of (λ p. said.step (Swap p))) (only_place-decimal p is)
line_of-line_text (said.step (Delete p)) is =
    line_of-append words.Delete (32 ∷ decimal p) refl
    ∙ ap (made_of (λ p. said.step (Delete p))) (only_place-decimal p is)
line_of-line_text (said.step (Insert p x)) is =
    line_of-append words.Insert (insertion_text p x) refl
    ∙ ap (made_of said.step) (place_and_letter-insertion_text p x is.0 is.1)
line_of-line_text (said.verdict v) is =
    line_of-append words.Verdict (32 ∷ verdict_word v) refl
    ∙ ap (made_of said.verdict) (verdict_by-verdict_word v)
line_of-line_text (said.witness w) is =
    line_of-append words.Witness (word_field w) (IsBehind-word_field w)
    ∙ ap (λ read. made_of said.witness (strict_result read)) (field_word-word_field w is)
line_of-line_text said.finish is = line_of-append words.Finish [] tt

-- ---- A text is one line ----

-- some bytes are above another where each is
above-list_all : (n : ℕ) (bytes : List ℕ) → list_all (λ b. ltb n b) bytes ≡ true → AllAbove n bytes
above-list_all n [] all = All-nil (λ b. n < b)
above-list_all n (b ∷ bytes) all =
    let (first, rest) = and_parts (ltb n b) (list_all (λ c. ltb n c) bytes) all in
    All-cons (λ b. n < b) b bytes (ltb-true n b first) (above-list_all n bytes rest)

-- a word behind a keyword has no byte below the space
word_field-above : (w : List Letter) → IsReadable w → AllAbove 31 (word_field w)
word_field-above [] readable = All-nil (λ b. 31 < b)
word_field-above (x ∷ w) readable =
    All-cons (λ b. 31 < b) 32 (word_text (x ∷ w)) (omega arith)
    (word_text-above (x ∷ w) readable.on)

-- so has a keyword with one
above-append
    : (word more : List ℕ)
    → list_all (λ b. ltb 31 b) word ≡ true
    → AllAbove 31 more
    → AllAbove 31 (word ++ more)
above-append word more all above =
    All-append (λ b. 31 < b) word more (above-list_all 31 word all) above

-- a place has none
decimal-place-above : (p : ℕ) → IsPlace p → AllAbove 31 (decimal p)
decimal-place-above p place =
    AllAbove-lower 31 32 (decimal p) (omega arith) (decimal-above p (omega arith))

-- a step has none
step_text-above : (step : StepLine) → IsStepLine step → AllAbove 31 (step_text step)
step_text-above (Handle p q) bounds =
    above-append (codes "h ") (decimal p ++ (32 ∷ decimal q)) refl
    (All-append (λ b. 31 < b) (decimal p) (32 ∷ decimal q) (decimal-place-above p bounds.0)
    (All-cons (λ b. 31 < b) 32 (decimal q) (omega arith) (decimal-place-above q bounds.1)))
step_text-above (Commute p) place =
    above-append (codes "c ") (decimal p) refl (decimal-place-above p place)
step_text-above (Swap p) place =
    above-append (codes "s ") (decimal p) refl (decimal-place-above p place)
step_text-above (Delete p) place =
    above-append (codes "d ") (decimal p) refl (decimal-place-above p place)
step_text-above (Insert p x) bounds =
    let letter : AllAbove 31 (letter_text x)
    = subst (AllAbove 31) (word_text-one x) (word_text-above (x ∷ []) bounds.1) in
    above-append (codes "i ") (decimal p ++ next_text x) refl
    (All-append (λ b. 31 < b) (decimal p) (next_text x) (decimal-place-above p bounds.0)
    (All-cons (λ b. 31 < b) 32 (letter_text x) (omega arith) letter))

-- no byte of a line's text is below the space
line_text-above : (l : Said) → IsLine l → AllAbove 31 (line_text l)
line_text-above said.start is = above-list_all 31 (codes "braid-trace 1") refl
line_text-above (said.left w) is =
    above-append (codes "left") (word_field w) refl (word_field-above w is)
line_text-above (said.right w) is =
    above-append (codes "right") (word_field w) refl (word_field-above w is)
line_text-above (said.left_term t) is =
    above-append (codes "left-term ") (strict_text t) refl (strict_text-above t)
line_text-above (said.right_term t) is =
    above-append (codes "right-term ") (strict_text t) refl (strict_text-above t)
line_text-above (said.step step) is = step_text-above step is
line_text-above (said.verdict Less) is = above-list_all 31 (codes "verdict less") refl
line_text-above (said.verdict Equal) is = above-list_all 31 (codes "verdict equal") refl
line_text-above (said.verdict Greater) is = above-list_all 31 (codes "verdict greater") refl
line_text-above (said.witness w) is =
    above-append (codes "witness") (word_field w) refl (word_field-above w is)
line_text-above said.finish is = above-list_all 31 (codes "end") refl

-- no byte of a line's text is an LF
pub line_text-no_lf
    : (l : Said)
    → IsLine l
    → (k : ℕ)
    → k < length (line_text l)
    → get_or (line_text l) k 0 ≢ 10
line_text-no_lf l is k within = λ lf.
    let above : 31 < get_or (line_text l) k 0
    = All-get_or (λ b. 31 < b) (line_text l) k 0 within (line_text-above l is) in
    absurd (omega arith)
