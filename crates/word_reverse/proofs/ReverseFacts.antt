-- Worked rows of reverse files: the text of one, steps, lines, and files that are accepted or refused.
use Rattle.std.proofs.Common.{◌≡◌, true, false, [], ◌∷◌, ◌++◌, map, replicate, codes, Some, None, Ok, Err, refl}
use Rattle.std.specs.Fmt.{digits}
use Rattle.line_file.specs.Formats.{checked_of as file_checked_of}
use Rattle.braid_word.specs.Words.{letter}
use Rattle.braid_word.specs.Notation.{strict_word_of, word_text}
use Rattle.word_reverse.specs.ReverseText.{reverse_text}
use Rattle.word_reverse.specs.ReverseLines.{word_behind, place_behind}
use Rattle.word_reverse.specs.States as due
use Rattle.word_reverse.specs.Checking.{stepped, checked_of}
use Rattle.word_reverse.specs.FirstRefusal.{IsFirstRefusal}
use Rattle.word_reverse.specs.declared.TheConstants.{MAX_LINE}
use Rattle.word_reverse.specs.declared.fraction.ReverseWhy.TheVariants.{Form, Header, Step, Long, Fraction, Truncated, Extra}

-- ---- Texts ----

-- the file of `-1 2`, which is `2 1` before the inverse of `1 2`
text_row
    : reverse_text record {
      word = letter 1 true ∷ letter 2 false ∷ [];
      places = 1 ∷ [];
      left = letter 2 false ∷ letter 1 false ∷ [];
      right = letter 1 false ∷ letter 2 false ∷ [];
    }
    ≡ codes "reverse-trace 1\nword -1 2\nr 1\nleft 2 1\nright 1 2\nend\n"
unfolding reverse_text word_text digits
text_row = refl

-- that of the empty word: no space stands behind a keyword
empty_text_row
    : reverse_text record { word = []; places = []; left = []; right = [] }
    ≡ codes "reverse-trace 1\nword\nleft\nright\nend\n"
unfolding reverse_text
empty_text_row = refl

-- ---- Steps and fields ----

-- places count from 1; `-2 -1 2 1` has a corner at 2 alone
step_rows
    : map (stepped (letter 2 true ∷ letter 1 true ∷ letter 2 false ∷ letter 1 false ∷ []))
    (2 ∷ 1 ∷ 3 ∷ 4 ∷ 5 ∷ [])
    ≡ Ok
    (letter 2 true ∷ letter 2 false ∷ letter 1 false ∷ letter 2 true ∷ letter 1 true ∷ letter 1 false ∷ [])
    ∷ Err Step ∷ Err Step ∷ Err Step ∷ Err Step ∷ []
step_rows = refl

-- a step may lead to 100,000 letters, and to no more
longest_row
    : stepped (letter 1 true ∷ letter 2 false ∷ replicate 99996 (letter 1 false)) 1
    ≡ Ok
    (letter 2 false ∷ letter 1 false ∷ letter 2 true ∷ letter 1 true ∷ replicate 99996 (letter 1 false))
longest_row = refl

long_row : stepped (letter 1 true ∷ letter 2 false ∷ replicate 99997 (letter 1 false)) 1 ≡ Err Long
long_row = refl

-- the least and the greatest place, the numbers beside them, a leading zero, and a space at the end
place_rows
    : map place_behind
    (codes " 1" ∷
    (codes " 4294967295" ∷ (codes " 0" ∷ (codes " 4294967296" ∷ (codes " 01" ∷ (codes " 1 " ∷ []))))))
    ≡ Some 1 ∷ Some 4294967295 ∷ None ∷ None ∷ None ∷ None ∷ []
place_rows = refl

-- a keyword alone has the empty word; a space behind it is followed by a letter
word_rows
    : map word_behind ([] ∷ (codes " " ∷ (codes " 1 -2" ∷ (codes " 256" ∷ []))))
    ≡ Ok [] ∷ Err Form ∷ Ok (letter 1 false ∷ letter 2 true ∷ []) ∷ Err Form ∷ []
unfolding strict_word_of
word_rows = refl

-- ---- Files ----

-- the file of `-1 2`
accepted_row
    : checked_of (codes "reverse-trace 1\nword -1 2\nr 1\nleft 2 1\nright 1 2\nend\n")
    ≡ Ok record {
      word = letter 1 true ∷ letter 2 false ∷ [];
      left = letter 2 false ∷ letter 1 false ∷ [];
      right = letter 1 false ∷ letter 2 false ∷ [];
    }
unfolding file_checked_of strict_word_of
accepted_row = refl

-- line 3 of it changed: to no corner, to no place, and to another keyword; and left out, where `left` is not
-- the front of `-1 2`
line_3_rows
    : map (λ others. checked_of (codes "reverse-trace 1\nword -1 2\n" ++ others))
    (codes "r 2\n" ∷ (codes "r 0\n" ∷ (codes "right 1\n" ∷ (codes "left 2 1\nright 1 2\nend\n" ∷ []))))
    ≡ Err (3, Step) ∷ Err (3, Form) ∷ Err (3, Form) ∷ Err (3, Fraction) ∷ []
unfolding file_checked_of strict_word_of
line_3_rows = refl

-- the lines behind the step changed: `2` is a positive front of `2 1 -2 -1`, and not the longest; `1` isn't
-- the rest of it, and an inverse letter stands in no right word
behind_rows
    : map (λ others. checked_of (codes "reverse-trace 1\nword -1 2\nr 1\n" ++ others))
    (codes "left 2\n" ∷
    (codes "left 2 1\nright 1\n" ∷ (codes "left 2 1\nright 1 -2\n" ∷ (codes "left 2 1\nend\n" ∷ []))))
    ≡ Err (4, Fraction) ∷ Err (5, Fraction) ∷ Err (5, Fraction) ∷ Err (5, Form) ∷ []
unfolding file_checked_of strict_word_of
behind_rows = refl

-- a corner that is left is found at the right word: `1 -1 2` begins with `1`
corner_left_row
    : checked_of (codes "reverse-trace 1\nword 1 -1 2\nleft 1\nright -2 1\nend\n") ≡ Err (4, Fraction)
unfolding file_checked_of strict_word_of
corner_left_row = refl

-- no bytes, an end without its LF, and an empty line behind the end
ending_rows
    : map checked_of
    ([] ∷ (codes "reverse-trace 1\nword\nleft\nright\nend" ∷
    (codes "reverse-trace 1\nword\nleft\nright\nend\n\n" ∷ [])))
    ≡ Err (1, Truncated) ∷ Err (5, Truncated) ∷ Err (6, Extra) ∷ []
unfolding file_checked_of
ending_rows = refl

-- another line where the word is due is the first refusal, at line 2
header_row : IsFirstRefusal (codes "reverse-trace 1\nleft\nend\n") 2 Header
header_row = record {
  before = codes "reverse-trace 1" ∷ [];
  others = codes "left" ∷ (codes "end" ∷ []);
  last = due.word;
  lines = refl;
  number = refl;
  kept = (due.word, refl, refl);
  refused = refl;
}

-- a line may have 524,288 bytes, and no more
line_row : MAX_LINE ≡ 524288
line_row = refl
