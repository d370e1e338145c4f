-- Worked rows of steps, and of files that are accepted or refused.
use Rattle.std.proofs.Common.{◌≡◌, ℕ, zero, suc, ◌+◌, ◌<◌, ◌≤◌, ◌⊎◌, true, false, List, [], ◌∷◌, ◌++◌, length, map, replicate, codes, Ok, Err, refl, ap, arith}
use mathlib.Core.Bool.{xor}
use Rattle.line_file.specs.Formats.{checked_of as file_checked_of}
use Rattle.braid_word.specs.Words.{Letter, letter}
use Rattle.braid_word.specs.Notation.{strict_word_of}
use Rattle.handle_find.specs.Handles.{at, reduct}
use Rattle.ld_term.specs.StrictTexts.{strict_term_of}
use Rattle.trace_format.specs.declared.verdict.Verdict.TheVariants.{Less, Equal}
use Rattle.trace_format.specs.declared.line.StepLine.TheVariants.{Handle, Commute, Swap, Delete, Insert}
use Rattle.trace_format.specs.TraceLines.{line_of}
use Rattle.trace_check.specs.declared.checked.Why.TheVariants.{Form, Header, Step, Long, Witness, Sign, Truncated, Extra}
use Rattle.trace_check.specs.States as due
use Rattle.trace_check.specs.Accepted.{IsCommutation, IsSteps}
use Rattle.trace_check.specs.Checking.{stepped, checked_of}
use Rattle.trace_check.specs.FirstRefusal.{IsFirstRefusal}

-- ---- Steps ----

-- `-2 -1 2 1`, the quotient of `1 2` and `2 1`
abbrev quotient_word : List Letter
quotient_word = letter 2 true ∷ letter 1 true ∷ letter 2 false ∷ letter 1 false ∷ []

-- `-2 2 1 -2`, its reduct at 2 and 4
abbrev reduced_word : List Letter
reduced_word = letter 2 true ∷ letter 2 false ∷ letter 1 false ∷ letter 2 true ∷ []

-- places count from 1; `-1 2` is no handle, nor is `-2 -1 2`, in which 1 is below 2, and none ends behind the
-- word
handle_rows
    : map (stepped quotient_word) (Handle 2 4 ∷ Handle 2 3 ∷ Handle 1 3 ∷ Handle 2 5 ∷ [])
    ≡ Ok reduced_word ∷ Err Step ∷ Err Step ∷ Err Step ∷ []
unfolding reduct xor
handle_rows = refl

-- it need not be the leftmost handle: `2 -2 1 -1` at 3 and 4
later_handle_row
    : stepped (letter 2 false ∷ letter 2 true ∷ letter 1 false ∷ letter 1 true ∷ []) (Handle 3 4)
    ≡ Ok (letter 2 false ∷ letter 2 true ∷ [])
unfolding reduct xor
later_handle_row = refl

-- `2 1 -3` becomes `2 -3 1`, whatever the signs; indices 2 and 1 don't commute, nor does the last letter
commute_rows
    : map (stepped (letter 2 false ∷ letter 1 false ∷ letter 3 true ∷ []))
    (Commute 2 ∷ Commute 1 ∷ Commute 3 ∷ [])
    ≡ Ok (letter 2 false ∷ letter 3 true ∷ letter 1 false ∷ []) ∷ Err Step ∷ Err Step ∷ []
commute_rows = refl

-- `-1 -2 -1` becomes `-2 -1 -2`; `2 -1 -2` has two signs, -1 and -3 are too far apart, and `-3 -1` are two
-- letters
swap_rows
    : map
    (stepped (letter 2 false ∷ letter 1 true ∷ letter 2 true ∷ letter 1 true ∷ letter 3 true ∷ letter 1 true ∷
    []))
    (Swap 2 ∷ Swap 1 ∷ Swap 4 ∷ Swap 5 ∷ [])
    ≡ Ok (letter 2 false ∷ letter 2 true ∷ letter 1 true ∷ letter 2 true ∷ letter 3 true ∷ letter 1 true ∷ [])
    ∷ Err Step ∷ Err Step ∷ Err Step ∷ []
swap_rows = refl

-- `1 1 -1` becomes `1`, and two equal letters stay
delete_rows
    : map (stepped (letter 1 false ∷ letter 1 false ∷ letter 1 true ∷ []))
    (Delete 2 ∷ Delete 1 ∷ Delete 3 ∷ [])
    ≡ Ok (letter 1 false ∷ []) ∷ Err Step ∷ Err Step ∷ []
delete_rows = refl

-- `-3` and then its inverse are put before the letter at a place, and behind the last letter, but no further
insert_rows
    : map (stepped (letter 2 false ∷ []))
    (Insert 1 (letter 3 true) ∷ Insert 2 (letter 3 true) ∷ Insert 3 (letter 3 true) ∷ [])
    ≡ Ok (letter 3 true ∷ letter 3 false ∷ letter 2 false ∷ []) ∷ Ok
    (letter 2 false ∷ letter 3 true ∷ letter 3 false ∷ []) ∷ Err Step ∷ []
insert_rows = refl

-- a step may lead to 100,000 letters, and to no more
longest_row
    : stepped (replicate 99998 (letter 1 false)) (Insert 1 (letter 2 false))
    ≡ Ok (letter 2 false ∷ letter 2 true ∷ replicate 99998 (letter 1 false))
longest_row = refl

long_row : stepped (replicate 99999 (letter 1 false)) (Insert 1 (letter 2 false)) ≡ Err Long
long_row = refl

-- the letter between the ends of the first handle has a higher index
between : (k : ℕ) → 1 < k → k < 3 → 1 < (at quotient_word k).index
between zero low high = absurd (omega arith)
between (suc zero) low high = absurd (omega arith)
between (suc (suc zero)) low high = omega arith
between (suc (suc (suc k))) low high = absurd (omega arith)

-- two reductions lead from the quotient to `1 -2`
steps_row : IsSteps quotient_word (Handle 2 4 ∷ Handle 1 2 ∷ []) (letter 1 false ∷ letter 2 true ∷ [])
unfolding reduct
steps_row = (
  reduced_word,
  (
    omega arith,
    record {
      ordered = omega arith;
      within = omega arith;
      one_index = refl;
      opposite_signs = refl;
      higher_between = between;
    },
    refl,
  ),
  omega arith,
  (
    letter 1 false ∷ letter 2 true ∷ [],
    (
      omega arith,
      record {
        ordered = omega arith;
        within = omega arith;
        one_index = refl;
        opposite_signs = refl;
        higher_between = λ k low high. absurd (omega arith);
      },
      refl,
    ),
    omega arith,
    refl,
  ),
)

-- no word comes of `1 2` by a commutation
near_row : (b : List Letter) → IsCommutation (letter 1 false ∷ letter 2 false ∷ []) 1 b → ⊥
near_row b c = go c.front c.x c.y c.back c.place c.far c.before
  where
    go
        : (front : List Letter)
        → (x y : Letter)
        → (back : List Letter)
        → length front + 1 ≡ 1
        → (x.index + 2 ≤ y.index) ⊎ (y.index + 2 ≤ x.index)
        → letter 1 false ∷ letter 2 false ∷ [] ≡ front ++ (x ∷ y ∷ back)
        → ⊥
    go [] x y back place far before =
        let first : 1 ≡ x.index = ap (λ w. (at w 0).index) before in
        let second : 2 ≡ y.index = ap (λ w. (at w 1).index) before in
        absurd (omega (arith, far, first, second))
    go (z ∷ front) x y back place far before = absurd (omega (arith, place))

-- ---- Files ----

-- the trace of `1 2` and `2 1` by two reductions
accepted_row
    : checked_of (codes "braid-trace 1\nleft 1 2\nright 2 1\nh 2 4\nh 1 2\nverdict less\nwitness 1 -2\nend\n")
    ≡ Ok record {
      left = letter 1 false ∷ letter 2 false ∷ [];
      right = letter 2 false ∷ letter 1 false ∷ [];
      verdict = Less;
      witness = letter 1 false ∷ letter 2 true ∷ [];
      steps = 2;
    }
unfolding file_checked_of line_of strict_word_of reduct xor
accepted_row = refl

-- that of x(xx) and (xx)(xx), which are one by the law
terms_row
    : checked_of
    (codes "braid-trace 1\nleft-term (x*(x*x))\nright-term ((x*x)*(x*x))\nh 1 3\nh 3 4\nh 2 3\nh 1 2\nverdict equal\nwitness\nend\n")
    ≡ Ok record {
      left = letter 2 false ∷ letter 1 false ∷ [];
      right = letter 1 false ∷ letter 2 false ∷ letter 1 false ∷ letter 2 true ∷ [];
      verdict = Equal;
      witness = [];
      steps = 4;
    }
unfolding file_checked_of line_of strict_term_of reduct xor
terms_row = refl

-- that of `1 2` and `2 1` with line 4 changed, to no handle and to a place with a leading zero, with the
-- wrong verdict, and with a witness that isn't come to, though its sign is right
refused_rows
    : map
    (λ others. checked_of (codes "braid-trace 1\nleft 1 2\nright 2 1\n" ++ others))
    (codes "h 2 3\n" ∷
    (codes "h 02 4\n" ∷
    (codes "h 2 4\nh 1 2\nverdict greater\nwitness 1 -2\nend\n" ∷
    (codes "h 2 4\nh 1 2\nverdict less\nwitness 1\nend\n" ∷ []))))
    ≡ Err (4, Step) ∷ Err (4, Form) ∷ Err (7, Sign) ∷ Err (7, Witness) ∷ []
unfolding file_checked_of line_of strict_word_of reduct xor
refused_rows = refl

-- a mixed witness goes with no verdict; another one isn't the present word, which is said first
mixed_rows
    : map (λ witness. checked_of (codes "braid-trace 1\nleft 1\nright 1\nverdict equal\n" ++ witness))
    (codes "witness -1 1\n" ∷ (codes "witness 1 -1\n" ∷ []))
    ≡ Err (5, Sign) ∷ Err (5, Witness) ∷ []
unfolding file_checked_of line_of strict_word_of
mixed_rows = refl

-- no bytes, an end without its LF, and an empty line behind the end
ending_rows
    : map checked_of
    ([] ∷ (codes "braid-trace 1\nleft\nright\nverdict equal\nwitness\nend" ∷
    (codes "braid-trace 1\nleft\nright\nverdict equal\nwitness\nend\n\n" ∷ [])))
    ≡ Err (1, Truncated) ∷ Err (6, Truncated) ∷ Err (7, Extra) ∷ []
unfolding file_checked_of line_of
ending_rows = refl

-- the right line where the left one is due is the first refusal, at line 2
header_row : IsFirstRefusal (codes "braid-trace 1\nright\nend\n") 2 Header
unfolding line_of
header_row = record {
  before = codes "braid-trace 1" ∷ [];
  others = codes "right" ∷ (codes "end" ∷ []);
  last = due.left;
  lines = refl;
  number = refl;
  kept = (due.left, refl, refl);
  refused = refl;
}
