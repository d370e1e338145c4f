-- Laws of the text of a reverse file, as its lines.
--
-- The text is that of its lines, one after the other (`reverse_text-lines`). So two different reversals have
-- different texts (`reverse_text-injective`).
use Rattle.std.proofs.Common.{◌≡◌, ℕ, List, [], ◌∷◌, ◌++◌, append_assoc, map, flat_map, codes, decimal, refl, ap, ap₂, sym, ◌∙◌, arith}
use Rattle.std.specs.List.{AllByRecursion}
use Rattle.std.proofs.lemmas.List.{append-nil}
use Rattle.wb_base.specs.Fields.{IsPlace}
use Rattle.wb_base.specs.Lines.{lines_of, line, HasNoLf}
use Rattle.wb_base.proofs.LineLemmas.{lines_of-flat_map}
use Rattle.wb_base.proofs.PartLemmas.{first_is, rest_is}
use Rattle.braid_word.specs.Words.{Letter}
use Rattle.braid_word.specs.Notation.{IsReadable, word_field}
use Rattle.word_reverse.specs.ReverseText.{Reversal, step_line, head_text, tail_text, reverse_text}
use Rattle.word_reverse.specs.ReverseLines.{Said, line_text, IsLine, IsReversal}
use Rattle.word_reverse.specs.ReverseLines as said
use Rattle.word_reverse.proofs.FieldLemmas.{word_field-injective, decimal-injective}
use Rattle.word_reverse.proofs.LineLaws.{line_text-no_lf}

-- ---- The lines of a reversal ----

-- The lines behind the steps.
abbrev pub tail_lines : List Letter → List Letter → List Said
tail_lines u v = said.left u ∷ said.right v ∷ said.finish ∷ []

-- The lines of the steps, and those behind them.
abbrev pub step_lines : List ℕ → List Said → List Said
step_lines places tail = map said.step places ++ tail

-- The lines of a reversal, from the first to the last.
abbrev pub reverse_lines : Reversal → List Said
reverse_lines r =
    said.start ∷ said.word r.word ∷ step_lines r.places (tail_lines r.left r.right)

-- The texts of some lines, each with its LF.
abbrev pub lines_text : List Said → List ℕ
lines_text all = flat_map line (map line_text all)

-- the text of steps and of the lines behind them
lines_text-step_lines
    : (places : List ℕ) (tail : List Said)
    → lines_text (step_lines places tail) ≡ flat_map step_line places ++ lines_text tail
lines_text-step_lines [] tail = refl
lines_text-step_lines (p ∷ places) tail =
    ap (λ more. step_line p ++ more) (lines_text-step_lines places tail)
    ∙ sym (append_assoc (step_line p) (flat_map step_line places) (lines_text tail))

-- the text of the lines behind the steps
lines_text-tail_lines : (u v : List Letter) → lines_text (tail_lines u v) ≡ tail_text u v
lines_text-tail_lines u v =
    let left = line (codes "left" ++ word_field u) in
    let right = line (codes "right" ++ word_field v) in
    let end = line (codes "end") in
    sym (append_assoc left right (end ++ []) ∙ refl)
    ∙ sym (append_assoc (left ++ right) end []) ∙ append-nil (tail_text u v)

-- the text of a reversal is that of its lines
pub reverse_text-lines : (r : Reversal) → reverse_text r ≡ lines_text (reverse_lines r)
unfolding reverse_text
reverse_text-lines r =
    let start = line (codes "reverse-trace 1") in
    let word = line (codes "word" ++ word_field r.word) in
    let steps = flat_map step_line r.places in
    let tail = tail_text r.left r.right in
    let rest : steps ++ tail ≡ lines_text (step_lines r.places (tail_lines r.left r.right))
    = ap (λ more. steps ++ more) (sym (lines_text-tail_lines r.left r.right))
    ∙ sym (lines_text-step_lines r.places (tail_lines r.left r.right)) in
    append_assoc (head_text r.word) steps tail
    ∙ append_assoc start word (steps ++ tail)
    ∙ ap (λ more. start ++ (word ++ more)) rest

-- ---- The text is cut into its lines ----

-- steps and lines behind them can be said
IsLine-step_lines
    : (places : List ℕ) (tail : List Said)
    → AllByRecursion IsPlace places
    → AllByRecursion IsLine tail
    → AllByRecursion IsLine (step_lines places tail)
IsLine-step_lines [] tail is rest = rest
IsLine-step_lines (p ∷ places) tail is rest = (is.0, IsLine-step_lines places tail is.1 rest)

-- the lines of a reversal can be said
IsLine-reverse_lines : (r : Reversal) → IsReversal r → AllByRecursion IsLine (reverse_lines r)
IsLine-reverse_lines r is =
    let last = tail_lines r.left r.right in
    let tail : AllByRecursion IsLine last = (is.left, (is.right, (tt, tt))) in
    (tt, (is.word, IsLine-step_lines r.places last is.places tail))

-- no text of lines has an LF
HasNoLf-line_text
    : (all : List Said)
    → AllByRecursion IsLine all
    → AllByRecursion HasNoLf (map line_text all)
HasNoLf-line_text [] is = tt
HasNoLf-line_text (s ∷ all) is = (line_text-no_lf s is.0, HasNoLf-line_text all is.1)

-- the lines of the text of a reversal are the texts of its lines
lines_of-reverse_text
    : (r : Reversal)
    → IsReversal r
    → lines_of (reverse_text r) ≡ map line_text (reverse_lines r)
lines_of-reverse_text r is =
    ap lines_of (reverse_text-lines r)
    ∙ lines_of-flat_map (map line_text (reverse_lines r))
    (HasNoLf-line_text (reverse_lines r) (IsLine-reverse_lines r is))

-- ---- Different reversals have different texts ----

-- What two reversals have in common where the lines from their steps on do.
record AreAlike (a b : List ℕ) (u v x y : List Letter) : Type 0 where
  places : a ≡ b
  left : u ≡ x
  right : v ≡ y

-- they have places, left and right word in common
step_lines-injective
    : (a b : List ℕ) (u v x y : List Letter)
    → AllByRecursion IsPlace a
    → AllByRecursion IsPlace b
    → IsReadable u × IsReadable v
    → IsReadable x × IsReadable y
    → map line_text (step_lines a (tail_lines u v)) ≡ map line_text (step_lines b (tail_lines x y))
    → AreAlike a b u v x y
step_lines-injective [] [] u v x y one two first second same =
    let left : codes "left" ++ word_field u ≡ codes "left" ++ word_field x = first_is same in
    let right : codes "right" ++ word_field v ≡ codes "right" ++ word_field y = first_is (rest_is same) in
    record {
      places = refl;
      left = word_field-injective u x first.0 second.0 (rest_is (rest_is (rest_is (rest_is left))));
      right =
          word_field-injective v y first.1 second.1 (rest_is (rest_is (rest_is (rest_is (rest_is right)))));
    }
step_lines-injective [] (q ∷ b) u v x y one two first second same =
    absurd (omega (arith, first_is (first_is same)))
step_lines-injective (p ∷ a) [] u v x y one two first second same =
    absurd (omega (arith, first_is (first_is same)))
step_lines-injective (p ∷ a) (q ∷ b) u v x y one two first second same =
    let rest = step_lines-injective a b u v x y one.1 two.1 first second (rest_is same) in
    let digits : decimal p ≡ decimal q = rest_is (rest_is (first_is same)) in
    record {
      places = ap₂ (λ p a. p ∷ a) (decimal-injective p q one.0 two.0 digits) rest.places;
      left = rest.left;
      right = rest.right;
    }

-- The reversal of these parts.
abbrev reversal_of : List Letter → List ℕ → List Letter → List Letter → Reversal
reversal_of w places u v = record { word = w; places = places; left = u; right = v }

-- two different reversals have different texts
pub reverse_text-injective
    : (r s : Reversal)
    → IsReversal r
    → IsReversal s
    → reverse_text r ≡ reverse_text s
    → r ≡ s
reverse_text-injective r s first second same =
    let texts : map line_text (reverse_lines r) ≡ map line_text (reverse_lines s)
    = sym (lines_of-reverse_text r first) ∙ ap lines_of same ∙ lines_of-reverse_text s second in
    let one : codes "word" ++ word_field r.word ≡ codes "word" ++ word_field s.word
    = first_is (rest_is texts) in
    let word = word_field-injective r.word s.word first.word second.word
    (rest_is (rest_is (rest_is (rest_is one)))) in
    let rest = step_lines-injective r.places s.places r.left r.right s.left s.right first.places second.places
    (first.left, first.right) (second.left, second.right) (rest_is (rest_is texts)) in
    ap₂ (λ w places. reversal_of w places r.left r.right) word rest.places
    ∙ ap₂ (λ u v. reversal_of s.word s.places u v) rest.left rest.right
