-- Laws of the keyword of a line: it is read off the line's front, and tells of which kind the line is.
use Rattle.std.proofs.Common.{◌≡◌, ℕ, Bool, true, false, cond, List, [], ◌∷◌, ◌++◌, codes, decimal, Option, Some, None, refl, ap, ap₂, ◌∙◌}
use Rattle.std.specs.Str.{bytes_eq}
use Rattle.std.proofs.lemmas.Option.{same_Some}
use Rattle.std.proofs.lemmas.Slice.Eq.{bytes_eq-Decides}
use Rattle.trace_format.specs.declared.line.Keyword.{Keyword}
use Rattle.trace_format.specs.declared.line.Keyword.TheVariants as words
use Rattle.trace_format.specs.declared.line.Kind.{Kind}
use Rattle.trace_format.specs.declared.line.Kind.TheVariants as kinds
use Rattle.trace_format.specs.declared.line.StepLine.TheVariants.{Handle, Commute, Swap, Delete, Insert}
use Rattle.trace_format.specs.Said.{Said}
use Rattle.trace_format.specs.Said as said
use Rattle.wb_base.specs.Fields.{keyword_of, IsBehind}
use Rattle.wb_base.proofs.FieldLemmas.{no_space, keyword_of-append, behind_keyword-append}
use Rattle.trace_format.specs.TraceLines.{keyword_by, kind_named, kind_by, kind_of, line_by, line_of, line_text}
use Rattle.braid_word.specs.Notation.{word_field}
use Rattle.trace_format.specs.TraceText.{verdict_word}
use Rattle.ld_term.specs.StrictTexts.{strict_text}
use Rattle.braid_word.proofs.FieldLemmas.{IsBehind-word_field}
use Rattle.trace_format.proofs.FieldLemmas.{places_text, insertion_text}

-- ---- Keywords ----

-- The text of a keyword.
abbrev pub keyword_text : Keyword → List ℕ
keyword_text words.Start = codes "braid-trace"
keyword_text words.Left = codes "left"
keyword_text words.Right = codes "right"
keyword_text words.LeftTerm = codes "left-term"
keyword_text words.RightTerm = codes "right-term"
keyword_text words.Handle = codes "h"
keyword_text words.Commute = codes "c"
keyword_text words.Swap = codes "s"
keyword_text words.Delete = codes "d"
keyword_text words.Insert = codes "i"
keyword_text words.Verdict = codes "verdict"
keyword_text words.Witness = codes "witness"
keyword_text words.Finish = codes "end"

-- a text that is a keyword is that of it, where it is the first's text or that of another
cond-keyword
    : (text : List ℕ) (first : Keyword) (others : Option Keyword) (word : Keyword)
    → cond (bytes_eq text (keyword_text first)) (Some first) others ≡ Some word
    → (others ≡ Some word → text ≡ keyword_text word)
    → text ≡ keyword_text word
cond-keyword text first others word is else = go (bytes_eq text (keyword_text first)) refl is
  where
    go
        : (b : Bool)
        → bytes_eq text (keyword_text first) ≡ b
        → cond b (Some first) others ≡ Some word
        → text ≡ keyword_text word
    go true test named =
        (bytes_eq-Decides text (keyword_text first)).0 test
        ∙ ap keyword_text (same_Some first word named)
    go false test named = else named

-- a text that is a keyword is that of it
pub keyword_by-is
    : (text : List ℕ) (word : Keyword)
    → keyword_by text ≡ Some word
    → text ≡ keyword_text word
keyword_by-is text word named =
    cond-keyword text words.Handle _ word named
    (λ named. cond-keyword text words.Commute _ word named
    (λ named. cond-keyword text words.Swap _ word named
    (λ named. cond-keyword text words.Delete _ word named
    (λ named. cond-keyword text words.Insert _ word named
    (λ named. cond-keyword text words.Start _ word named
    (λ named. cond-keyword text words.Left _ word named
    (λ named. cond-keyword text words.Right _ word named
    (λ named. cond-keyword text words.LeftTerm _ word named
    (λ named. cond-keyword text words.RightTerm _ word named
    (λ named. cond-keyword text words.Verdict _ word named
    (λ named. cond-keyword text words.Witness _ word named
    (λ named. cond-keyword text words.Finish None word named (λ none. absurd (cc))))))))))))))

-- each keyword is known by its text
keyword_by-keyword_text : (word : Keyword) → keyword_by (keyword_text word) ≡ Some word
keyword_by-keyword_text words.Start = refl
keyword_by-keyword_text words.Left = refl
keyword_by-keyword_text words.Right = refl
keyword_by-keyword_text words.LeftTerm = refl
keyword_by-keyword_text words.RightTerm = refl
keyword_by-keyword_text words.Handle = refl
keyword_by-keyword_text words.Commute = refl
keyword_by-keyword_text words.Swap = refl
keyword_by-keyword_text words.Delete = refl
keyword_by-keyword_text words.Insert = refl
keyword_by-keyword_text words.Verdict = refl
keyword_by-keyword_text words.Witness = refl
keyword_by-keyword_text words.Finish = refl

-- a keyword has no space
no_space-keyword_text : (word : Keyword) → no_space (keyword_text word) ≡ true
no_space-keyword_text words.Start = refl
no_space-keyword_text words.Left = refl
no_space-keyword_text words.Right = refl
no_space-keyword_text words.LeftTerm = refl
no_space-keyword_text words.RightTerm = refl
no_space-keyword_text words.Handle = refl
no_space-keyword_text words.Commute = refl
no_space-keyword_text words.Swap = refl
no_space-keyword_text words.Delete = refl
no_space-keyword_text words.Insert = refl
no_space-keyword_text words.Verdict = refl
no_space-keyword_text words.Witness = refl
no_space-keyword_text words.Finish = refl

-- the keyword of a line that begins with it
keyword_by-append
    : (word : Keyword) (behind : List ℕ)
    → IsBehind behind
    → keyword_by (keyword_of (keyword_text word ++ behind)) ≡ Some word
keyword_by-append word behind spaced =
    ap keyword_by (keyword_of-append (keyword_text word) behind (no_space-keyword_text word) spaced)
    ∙ keyword_by-keyword_text word

-- a keyword and what stands behind it are a line with this keyword
pub line_of-append
    : (word : Keyword) (behind : List ℕ)
    → IsBehind behind
    → line_of (keyword_text word ++ behind) ≡ line_by (Some word) behind
unfolding line_of
line_of-append word behind spaced =
    ap₂ line_by (keyword_by-append word behind spaced)
    (behind_keyword-append (keyword_text word) behind (no_space-keyword_text word) spaced)

-- such a line is of the keyword's kind
kind_of-append
    : (word : Keyword) (behind : List ℕ)
    → IsBehind behind
    → kind_of (keyword_text word ++ behind) ≡ Some (kind_named word)
kind_of-append word behind spaced = ap kind_by (keyword_by-append word behind spaced)

-- The kind of a line, by what it says.
abbrev pub kind_said : Said → Kind
kind_said said.start = kinds.Start
kind_said (said.left w) = kinds.Left
kind_said (said.right w) = kinds.Right
kind_said (said.left_term t) = kinds.LeftTerm
kind_said (said.right_term t) = kinds.RightTerm
kind_said (said.step step) = kinds.Step
kind_said (said.verdict v) = kinds.Verdict
kind_said (said.witness w) = kinds.Witness
kind_said said.finish = kinds.Finish

-- the text of what a line says is a line of its kind
pub kind_of-line_text : (l : Said) → kind_of (line_text l) ≡ Some (kind_said l)
kind_of-line_text said.start = kind_of-append words.Start (codes " 1") refl
kind_of-line_text (said.left w) = kind_of-append words.Left (word_field w) (IsBehind-word_field w)
kind_of-line_text (said.right w) = kind_of-append words.Right (word_field w) (IsBehind-word_field w)
kind_of-line_text (said.left_term t) = kind_of-append words.LeftTerm (32 ∷ strict_text t) refl
kind_of-line_text (said.right_term t) = kind_of-append words.RightTerm (32 ∷ strict_text t) refl
kind_of-line_text (said.step (Handle p q)) = kind_of-append words.Handle (places_text p q) refl
kind_of-line_text (said.step (Commute p)) = kind_of-append words.Commute (32 ∷ decimal p) refl
kind_of-line_text (said.step (Swap p)) = kind_of-append words.Swap (32 ∷ decimal p) refl
kind_of-line_text (said.step (Delete p)) = kind_of-append words.Delete (32 ∷ decimal p) refl
kind_of-line_text (said.step (Insert p x)) = kind_of-append words.Insert (insertion_text p x) refl
kind_of-line_text (said.verdict v) = kind_of-append words.Verdict (32 ∷ verdict_word v) refl
kind_of-line_text (said.witness w) =
    kind_of-append words.Witness (word_field w) (IsBehind-word_field w)
kind_of-line_text said.finish = kind_of-append words.Finish [] tt
