-- What is due after a line that is kept.
--
-- A line is kept exactly where it is the text of what may be said there, and then what is due follows from
-- that. So reverse files are files of lines with a grammar (`IsGrammarOf-reverse`).
use Rattle.std.proofs.Common.{◌≡◌, ℕ, ◌-◌, Bool, true, false, cond, List, ◌∷◌, ◌++◌, codes, decimal, Option, Some, None, Result, Ok, Err, refl, sym, ap, ◌∙◌}
use Rattle.std.specs.Str.{bytes_eq}
use Rattle.std.proofs.lemmas.Slice.Eq.{bytes_eq-Decides}
use Rattle.line_file.specs.Grammars.{Grammar, Says, IsGrammarOf}
use Rattle.wb_base.proofs.PartLemmas.{Ok-injective, Ok-cond}
use Rattle.braid_word.specs.Words.{Letter}
use Rattle.braid_word.specs.Notation.{IsReadable}
use Rattle.word_reverse.specs.Corners.{turned_at}
use Rattle.word_reverse.specs.Fractions.{positive_front}
use Rattle.wb_base.specs.Fields.{behind_keyword, IsBehind}
use Rattle.wb_base.proofs.FieldLemmas.{no_space, IsBehind-behind_keyword, behind_keyword-append}
use Rattle.braid_word.specs.Notation.{word_field}
use Rattle.braid_word.proofs.FieldLemmas.{IsBehind-word_field}
use Rattle.word_reverse.specs.ReverseLines.{word_behind, place_behind, Said, line_text, IsLine}
use Rattle.word_reverse.specs.ReverseLines as said
use Rattle.word_reverse.specs.Accepted.{Claim}
use Rattle.word_reverse.specs.States.{Replay, State}
use Rattle.word_reverse.specs.States as due
use Rattle.word_reverse.specs.Checking.{word_eq, has_keyword, is_split, stepped, kept_start, kept_word, moved, kept_step, kept_left, kept_right, kept_finish, of_keyword, kept_short, claim_passed, reverse_file}
use Rattle.word_reverse.specs.declared.fraction.ReverseWhy.{ReverseWhy}
use Rattle.word_reverse.specs.declared.fraction.ReverseWhy.TheVariants.{Form, Header, Fraction}
use Rattle.word_reverse.proofs.FieldLemmas.{has_keyword-is, has_keyword-append, word_behind-is, word_behind-word_field, place_behind-is, place_behind-decimal}
use Rattle.word_reverse.proofs.LineLaws.{line_text-no_lf, length-line_text}
use Rattle.word_reverse.proofs.StepLaws.{Decides-word_eq, IsBehindFront, is_split-is, is_split-IsBehindFront, IsStep, stepped-is, stepped-IsStep}

-- ---- What may follow ----

-- The steps begin at a word.
abbrev pub begun : List Letter → Replay
begun w = record { word = w; present = w }

-- They have come to a word.
abbrev pub at_word : Replay → List Letter → Replay
at_word replay w = record replay { present = w }

-- What a file claims that has come to its fraction.
abbrev pub claimed : Replay → List Letter → List Letter → Claim
claimed replay u v = record { word = replay.word; left = u; right = v }

-- A line may be said where `now` is due, and then `next` is due.
abbrev pub Follows : State → Said → State → Type 0
Follows due.start said.start next = next ≡ due.word
Follows due.word (said.word w) next = next ≡ due.step (begun w)
Follows (due.step replay) (said.step p) next =
    IsStep replay.present p × (next ≡ due.step (at_word replay (turned_at replay.present (p - 1))))
Follows (due.step replay) (said.left u) next =
    (u ≡ positive_front replay.present) × (next ≡ due.right replay u)
Follows (due.right replay u) (said.right v) next =
    IsBehindFront replay.present u v × (next ≡ due.finish (claimed replay u v))
Follows (due.finish claim) said.finish next = next ≡ due.passed claim
Follows now s next = ⊥

-- What the lines of a reverse file may say.
abbrev pub reverse_grammar : Grammar State Said
reverse_grammar = record { text = line_text; can = IsLine; follows = Follows }

-- A line says something that may follow.
abbrev IsKept : State → List ℕ → State → Type 0
IsKept now line next = Says reverse_grammar now line next

-- ---- What is kept may follow ----

-- a line with a keyword that is due
of_keyword-is
    : (line keyword : List ℕ) (why : ReverseWhy) (kept : Result State ReverseWhy) (next : State)
    → of_keyword (has_keyword line keyword) why kept ≡ Ok next
    → (line ≡ keyword ++ behind_keyword line) × (kept ≡ Ok next)
of_keyword-is line keyword why kept next = go (has_keyword line keyword) refl
  where
    go
        : (has : Bool)
        → has_keyword line keyword ≡ has
        → of_keyword has why kept ≡ Ok next
        → (line ≡ keyword ++ behind_keyword line) × (kept ≡ Ok next)
    go true test is = (has_keyword-is line keyword test, is)
    go false test is = absurd (cc)

-- a line that has no field, by its text
text-kept
    : (now : State) (line : List ℕ) (s : Said) (next : State)
    → bytes_eq line (line_text s) ≡ true
    → IsLine s
    → Follows now s next
    → IsKept now line next
text-kept now line s next test can follows = record {
  what = s;
  text = (bytes_eq-Decides line (line_text s)).0 test;
  can = can;
  follows = follows;
}

-- a line with a word behind its keyword
word-kept
    : (now : State) (line keyword : List ℕ) (say : List Letter → Said) (w : List Letter) (next : State)
    → line ≡ keyword ++ behind_keyword line
    → word_behind (behind_keyword line) ≡ Ok w
    → line_text (say w) ≡ keyword ++ word_field w
    → (IsReadable w → IsLine (say w))
    → Follows now (say w) next
    → IsKept now line next
word-kept now line keyword say w next is read text can follows =
    let field = word_behind-is (behind_keyword line) w (IsBehind-behind_keyword line) read in
    record {
      what = say w;
      text = is ∙ ap (λ rest. keyword ++ rest) field.text ∙ sym text;
      can = can field.readable;
      follows = follows;
    }

-- the start
kept_start-Follows
    : (line : List ℕ) (next : State) (test : Bool)
    → bytes_eq line (codes "reverse-trace 1") ≡ test
    → kept_start test ≡ Ok next
    → IsKept due.start line next
kept_start-Follows line next true test is =
    text-kept due.start line said.start next test tt (sym (Ok-injective _ _ is))
kept_start-Follows line next false test is = absurd (cc)

-- the word
kept_word-Follows
    : (line : List ℕ) (next : State) (read : Result (List Letter) ReverseWhy)
    → line ≡ codes "word" ++ behind_keyword line
    → word_behind (behind_keyword line) ≡ read
    → kept_word read ≡ Ok next
    → IsKept due.word line next
kept_word-Follows line next (Ok w) text read is =
    word-kept due.word line (codes "word") said.word w next text read refl (λ can. can)
    (sym (Ok-injective _ _ is))
kept_word-Follows line next (Err why) text read is = absurd (cc)

-- a step that is made
moved-is
    : (replay : Replay) (p : ℕ) (next : State) (to : Result (List Letter) ReverseWhy)
    → stepped replay.present p ≡ to
    → moved replay to ≡ Ok next
    → Follows (due.step replay) (said.step p) next
moved-is replay p next (Ok w) to is =
    let (step, word) = stepped-is replay.present p w to in
    (step, sym (Ok-injective _ _ is) ∙ ap (λ v. due.step (at_word replay v)) word)
moved-is replay p next (Err why) to is = absurd (cc)

-- a step
kept_step-Follows
    : (replay : Replay) (line : List ℕ) (next : State) (read : Option ℕ)
    → line ≡ codes "r" ++ behind_keyword line
    → place_behind (behind_keyword line) ≡ read
    → kept_step replay read ≡ Ok next
    → IsKept (due.step replay) line next
kept_step-Follows replay line next (Some p) text read is =
    let field = place_behind-is (behind_keyword line) p read in
    record {
      what = said.step p;
      text = text ∙ ap (λ rest. codes "r" ++ rest) field.text;
      can = field.place;
      follows = moved-is replay p next (stepped replay.present p) refl is;
    }
kept_step-Follows replay line next None text read is = absurd (cc)

-- the left word
kept_left-Follows
    : (replay : Replay) (line : List ℕ) (next : State) (read : Result (List Letter) ReverseWhy)
    → line ≡ codes "left" ++ behind_keyword line
    → word_behind (behind_keyword line) ≡ read
    → kept_left replay read ≡ Ok next
    → IsKept (due.step replay) line next
kept_left-Follows replay line next (Ok u) text read is =
    let (front, kept) = Ok-cond (word_eq u (positive_front replay.present)) _ Fraction next is in
    word-kept (due.step replay) line (codes "left") said.left u next text read refl (λ can. can)
    ((Decides-word_eq u (positive_front replay.present)).0 front, sym (Ok-injective _ _ kept))
kept_left-Follows replay line next (Err why) text read is = absurd (cc)

-- the right word
kept_right-Follows
    : (replay : Replay) (u : List Letter) (line : List ℕ) (next : State)
    → (read : Result (List Letter) ReverseWhy)
    → line ≡ codes "right" ++ behind_keyword line
    → word_behind (behind_keyword line) ≡ read
    → kept_right replay u read ≡ Ok next
    → IsKept (due.right replay u) line next
kept_right-Follows replay u line next (Ok v) text read is =
    let (split, kept) = Ok-cond (is_split replay.present u v) _ Fraction next is in
    word-kept (due.right replay u) line (codes "right") said.right v next text read refl (λ can. can)
    (is_split-is replay.present u v split, sym (Ok-injective _ _ kept))
kept_right-Follows replay u line next (Err why) text read is = absurd (cc)

-- the end
kept_finish-Follows
    : (claim : Claim) (line : List ℕ) (next : State) (test : Bool)
    → bytes_eq line (codes "end") ≡ test
    → kept_finish claim test ≡ Ok next
    → IsKept (due.finish claim) line next
kept_finish-Follows claim line next true test is =
    text-kept (due.finish claim) line said.finish next test tt (sym (Ok-injective _ _ is))
kept_finish-Follows claim line next false test is = absurd (cc)

-- a step or the left word
step_or_left-Follows
    : (replay : Replay) (line : List ℕ) (next : State)
    → kept_short (due.step replay) line ≡ Ok next
    → IsKept (due.step replay) line next
step_or_left-Follows replay line next = go (has_keyword line (codes "r")) refl
  where
    go
        : (has : Bool)
        → has_keyword line (codes "r") ≡ has
        → cond has (kept_step replay (place_behind (behind_keyword line)))
        (of_keyword (has_keyword line (codes "left")) Form
        (kept_left replay (word_behind (behind_keyword line))))
        ≡ Ok next
        → IsKept (due.step replay) line next
    go true test is =
        kept_step-Follows replay line next (place_behind (behind_keyword line))
        (has_keyword-is line (codes "r") test) refl is
    go false test is =
        let (text, kept) = of_keyword-is line (codes "left") Form _ next is in
        kept_left-Follows replay line next (word_behind (behind_keyword line)) text refl kept

-- a line that is kept says something that may follow
kept_short-Follows
    : (now : State) (line : List ℕ) (next : State)
    → kept_short now line ≡ Ok next
    → IsKept now line next
kept_short-Follows due.start line next is = kept_start-Follows line next _ refl is
kept_short-Follows due.word line next is =
    let (text, kept) = of_keyword-is line (codes "word") Header _ next is in
    kept_word-Follows line next (word_behind (behind_keyword line)) text refl kept
kept_short-Follows (due.step replay) line next is = step_or_left-Follows replay line next is
kept_short-Follows (due.right replay u) line next is =
    let (text, kept) = of_keyword-is line (codes "right") Form _ next is in
    kept_right-Follows replay u line next (word_behind (behind_keyword line)) text refl kept
kept_short-Follows (due.finish claim) line next is = kept_finish-Follows claim line next _ refl is
kept_short-Follows (due.passed claim) line next is = absurd (cc)

-- ---- What may follow is kept ----

-- a line with the keyword that is due is looked at
of_keyword-due
    : (keyword rest : List ℕ) (why : ReverseWhy) (kept : List ℕ → Result State ReverseWhy)
    → no_space keyword ≡ true
    → bytes_eq keyword keyword ≡ true
    → IsBehind rest
    → of_keyword (has_keyword (keyword ++ rest) keyword) why (kept (behind_keyword (keyword ++ rest)))
    ≡ kept rest
of_keyword-due keyword rest why kept none same behind =
    rw (has_keyword-append keyword rest keyword none behind, same)
    (ap kept (behind_keyword-append keyword rest none behind))

-- a step or the left word is looked at by its keyword
step_or_left-due
    : (replay : Replay) (keyword rest : List ℕ) (has : Bool)
    → no_space keyword ≡ true
    → bytes_eq keyword (codes "r") ≡ has
    → IsBehind rest
    → kept_short (due.step replay) (keyword ++ rest)
    ≡ cond has (kept_step replay (place_behind (behind_keyword (keyword ++ rest))))
    (of_keyword (has_keyword (keyword ++ rest) (codes "left")) Form
    (kept_left replay (word_behind (behind_keyword (keyword ++ rest)))))
step_or_left-due replay keyword rest has none test behind =
    let line = keyword ++ rest in
    ap (λ has. cond has (kept_step replay (place_behind (behind_keyword line)))
    (of_keyword (has_keyword line (codes "left")) Form
    (kept_left replay (word_behind (behind_keyword line)))))
    (has_keyword-append keyword rest (codes "r") none behind ∙ test)

-- what is said there is kept
kept_short-line_text
    : (now : State) (s : Said) (next : State)
    → IsLine s
    → Follows now s next
    → kept_short now (line_text s) ≡ Ok next
kept_short-line_text due.start said.start next can follows = ap (λ d. Ok d) (sym follows)
kept_short-line_text due.word (said.word w) next can follows =
    of_keyword-due (codes "word") (word_field w) Header (λ rest. kept_word (word_behind rest)) refl refl
    (IsBehind-word_field w)
    ∙ ap kept_word (word_behind-word_field w can) ∙ ap (λ d. Ok d) (sym follows)
kept_short-line_text (due.step replay) (said.step p) next can (step, follows) =
    step_or_left-due replay (codes "r") (32 ∷ decimal p) true refl refl refl
    ∙ ap (λ rest. kept_step replay (place_behind rest))
    (behind_keyword-append (codes "r") (32 ∷ decimal p) refl refl)
    ∙ ap (kept_step replay) (place_behind-decimal p can)
    ∙ ap (moved replay) (stepped-IsStep replay.present p step) ∙ ap (λ d. Ok d) (sym follows)
kept_short-line_text (due.step replay) (said.left u) next can (front, follows) =
    let same = (Decides-word_eq u (positive_front replay.present)).1 front in
    step_or_left-due replay (codes "left") (word_field u) false refl refl (IsBehind-word_field u)
    ∙ of_keyword-due (codes "left") (word_field u) Form (λ rest. kept_left replay (word_behind rest)) refl
    refl (IsBehind-word_field u)
    ∙ ap (kept_left replay) (word_behind-word_field u can) ∙ rw same (ap (λ d. Ok d) (sym follows))
kept_short-line_text (due.right replay u) (said.right v) next can (split, follows) =
    let passes = is_split-IsBehindFront replay.present u v split in
    of_keyword-due (codes "right") (word_field v) Form (λ rest. kept_right replay u (word_behind rest))
    refl refl (IsBehind-word_field v)
    ∙ ap (kept_right replay u) (word_behind-word_field v can) ∙ rw passes (ap (λ d. Ok d) (sym follows))
kept_short-line_text (due.finish claim) said.finish next can follows = ap (λ d. Ok d) (sym follows)
kept_short-line_text now s next can follows = absurd follows

-- ---- Reverse files as files of lines ----

-- what may follow is said where a line is due
Follows-due : (now next : State) (s : Said) → Follows now s next → claim_passed now ≡ None
Follows-due due.start next s follows = refl
Follows-due due.word next s follows = refl
Follows-due (due.step replay) next s follows = refl
Follows-due (due.right replay u) next s follows = refl
Follows-due (due.finish claim) next s follows = refl
Follows-due (due.passed claim) next s follows = absurd follows

-- a reverse file has the lines that may be said
pub IsGrammarOf-reverse : IsGrammarOf reverse_file reverse_grammar
IsGrammarOf-reverse = record {
  says = λ now next line is. kept_short-Follows now line next is;
  keeps = λ now next s can follows. kept_short-line_text now s next can follows;
  due = Follows-due;
  short = length-line_text;
  no_lf = line_text-no_lf;
}
