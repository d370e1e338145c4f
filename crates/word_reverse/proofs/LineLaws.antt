-- Laws of the text of a line: it has no LF (`line_text-no_lf`), and no more bytes than a line may have
-- (`length-line_text`).
use Rattle.std.proofs.Common.{◌≡◌, ℕ, ◌+◌, ◌*◌, ◌<◌, ◌≤◌, Bool, true, false, ltb, List, [], ◌∷◌, ◌++◌, length, length-append, get_or, codes, decimal, flat_map, refl, sym, subst, arith}
use Rattle.std.specs.List.{list_all}
use Rattle.std.proofs.lemmas.Bool.{and_parts, ltb-true}
use Rattle.std.proofs.lemmas.Fmt.{length-decimal-le_wide}
use Rattle.std.proofs.lemmas.List.Elements.{All-nil, All-cons, All-append, All-get_or}
use Rattle.wb_base.specs.Fields.{IsPlace}
use Rattle.wb_base.specs.Lines.{HasNoLf}
use Rattle.wb_base.specs.Numbers.{sign_text}
use Rattle.braid_word.specs.Words.{Letter, IsOn}
use Rattle.braid_word.specs.Notation.{IsReadable, next_text, word_text, word_field}
use Rattle.braid_word.specs.declared.TheConstants.{MAX_INDEX}
use Rattle.braid_word.proofs.SpellingLemmas.{AllAbove, AllAbove-lower, decimal-above, word_text-above}
use Rattle.word_reverse.specs.ReverseLines.{Said, line_text, IsLine}
use Rattle.word_reverse.specs.ReverseLines as said
use Rattle.word_reverse.specs.declared.TheConstants.{MAX_LINE}
use Rattle.braid_word.proofs.FieldLemmas.{word_field-flat_map}

-- ---- A text is one line ----

-- some bytes are above another where each is
above-list_all : (n : ℕ) (bytes : List ℕ) → list_all (λ b. ltb n b) bytes ≡ true → AllAbove n bytes
above-list_all n [] all = All-nil (λ b. n < b)
above-list_all n (b ∷ bytes) all =
    let (first, rest) = and_parts (ltb n b) (list_all (λ c. ltb n c) bytes) all in
    All-cons (λ b. n < b) b bytes (ltb-true n b first) (above-list_all n bytes rest)

-- a word behind a keyword has no byte below the space
word_field-above : (w : List Letter) → IsReadable w → AllAbove 31 (word_field w)
word_field-above [] readable = All-nil (λ b. 31 < b)
word_field-above (x ∷ w) readable =
    All-cons (λ b. 31 < b) 32 (word_text (x ∷ w)) (omega arith)
    (word_text-above (x ∷ w) readable.on)

-- so has a keyword, and more behind it
above-append
    : (word more : List ℕ)
    → list_all (λ b. ltb 31 b) word ≡ true
    → AllAbove 31 more
    → AllAbove 31 (word ++ more)
above-append word more all above =
    All-append (λ b. 31 < b) word more (above-list_all 31 word all) above

-- no byte of a line's text is below the space
line_text-above : (s : Said) → IsLine s → AllAbove 31 (line_text s)
line_text-above said.start is = above-list_all 31 (codes "reverse-trace 1") refl
line_text-above (said.word w) is =
    above-append (codes "word") (word_field w) refl (word_field-above w is)
line_text-above (said.step p) is =
    above-append (codes "r ") (decimal p) refl
    (AllAbove-lower 31 32 (decimal p) (omega arith) (decimal-above p (omega (arith, is.1))))
line_text-above (said.left u) is =
    above-append (codes "left") (word_field u) refl (word_field-above u is)
line_text-above (said.right v) is =
    above-append (codes "right") (word_field v) refl (word_field-above v is)
line_text-above said.finish is = above-list_all 31 (codes "end") refl

-- so none is an LF
pub line_text-no_lf : (s : Said) → IsLine s → HasNoLf (line_text s)
line_text-no_lf s is = λ k within lf.
    let above : 31 < get_or (line_text s) k 0
    = All-get_or (λ b. 31 < b) (line_text s) k 0 within (line_text-above s is) in
    absurd (omega arith)

-- ---- Lengths ----

-- a letter behind a space has at most five bytes
length-next_text : (x : Letter) → x.index < MAX_INDEX + 1 → length (next_text x) ≤ 5
length-next_text x high =
    let digits : length (decimal x.index) ≤ 3
    = length-decimal-le_wide 3 x.index (omega arith) (omega arith) (omega arith) in
    let whole = length-append (sign_text x.negative) (decimal x.index) in
    let sign : length (sign_text x.negative) ≤ 1 = length-sign_text x.negative in
    omega (arith, digits, whole, sign)
  where
    length-sign_text : (negative : Bool) → length (sign_text negative) ≤ 1
    length-sign_text true = omega arith
    length-sign_text false = omega arith

-- so many letters have five times that
length-flat_map_next_text
    : (w : List Letter)
    → IsOn (MAX_INDEX + 1) w
    → length (flat_map next_text w) ≤ 5 * length w
length-flat_map_next_text [] on = omega arith
length-flat_map_next_text (x ∷ w) on =
    let first = length-next_text x on.0.1 in
    let rest = length-flat_map_next_text w on.1 in
    omega (arith, first, rest, length-append (next_text x) (flat_map next_text w))

-- a keyword and a word
length-keyword_word
    : (keyword : List ℕ) (w : List Letter)
    → length keyword ≤ 20
    → IsReadable w
    → length (keyword ++ word_field w) ≤ MAX_LINE
length-keyword_word keyword w short readable =
    let all = length-flat_map_next_text w readable.on in
    let field : length (word_field w) ≤ 500000
    = subst (λ (text : List ℕ). length text ≤ 500000) (sym (word_field-flat_map w))
    (omega (arith, all, readable.short)) in
    omega (arith, short, field, length-append keyword (word_field w))

-- a place
pub length-place : (p : ℕ) → IsPlace p → length (decimal p) ≤ 10
length-place p place = length-decimal-le_wide 10 p (omega arith) (omega arith) (omega arith)

-- no line of a reverse file is too long
pub length-line_text : (s : Said) → IsLine s → length (line_text s) ≤ MAX_LINE
length-line_text said.start is = omega arith
length-line_text (said.word w) is = length-keyword_word (codes "word") w (omega arith) is
length-line_text (said.step p) is = omega (arith, length-place p is)
length-line_text (said.left u) is = length-keyword_word (codes "left") u (omega arith) is
length-line_text (said.right v) is = length-keyword_word (codes "right") v (omega arith) is
length-line_text said.finish is = omega arith
