-- Worked rows of the texts of traces, of what their lines say, and of verdicts.
use Rattle.std.proofs.Common.{◌≡◌, ℕ, zero, suc, true, false, [], ◌∷◌, map, codes, Some, None, Ok, Err, refl, arith}
use Rattle.std.specs.Fmt.{digits}
use Rattle.braid_word.specs.Words.{letter, quotient}
use Rattle.braid_word.specs.Sign.{sign_of}
use Rattle.braid_word.specs.Notation.{strict_word_of, word_text}
use Rattle.ld_term.specs.Terms.{Term, variable, multiply}
use Rattle.ld_term.specs.StrictTexts.{strict_term_of}
use Rattle.trace_format.specs.declared.verdict.Verdict.TheVariants.{Less, Equal, Greater}
use Rattle.trace_format.specs.declared.line.Kind.TheVariants as kinds
use Rattle.trace_format.specs.declared.line.StepLine.TheVariants.{Handle, Commute, Swap, Delete, Insert}
use Rattle.trace_format.specs.declared.line.LineErr.TheVariants.{Unknown, Form, Long}
use Rattle.trace_format.specs.Said as said
use Rattle.trace_format.specs.Verdicts.{verdict_of}
use Rattle.trace_format.specs.TraceText.{words, terms, step_line, trace_text}
use Rattle.trace_format.specs.TraceLines.{kind_of, short_term, line_of, IsLine}

-- ---- Texts ----

-- the trace of `1 2` and `2 1`, by two reductions
trace_row
    : trace_text record {
      header = words (letter 1 false ∷ letter 2 false ∷ []) (letter 2 false ∷ letter 1 false ∷ []);
      steps = Handle 2 4 ∷ Handle 1 2 ∷ [];
      verdict = Less;
      witness = letter 1 false ∷ letter 2 true ∷ [];
    }
    ≡ codes "braid-trace 1\nleft 1 2\nright 2 1\nh 2 4\nh 1 2\nverdict less\nwitness 1 -2\nend\n"
unfolding trace_text word_text digits
trace_row = refl

-- that of two empty words: no space stands behind a keyword
empty_trace_row
    : trace_text record { header = words [] []; steps = []; verdict = Equal; witness = [] }
    ≡ codes "braid-trace 1\nleft\nright\nverdict equal\nwitness\nend\n"
unfolding trace_text
empty_trace_row = refl

-- that of the terms xx and x, whose braids are `1` and the empty word
term_trace_row
    : trace_text record {
      header = terms (multiply variable variable) variable;
      steps = [];
      verdict = Greater;
      witness = letter 1 true ∷ [];
    }
    ≡ codes "braid-trace 1\nleft-term (x*x)\nright-term x\nverdict greater\nwitness -1\nend\n"
unfolding trace_text word_text digits
term_trace_row = refl

-- the other kinds of steps, each by its own letter
step_rows
    : map step_line (Commute 1 ∷ Swap 2 ∷ Delete 10 ∷ Insert 2 (letter 1 true) ∷ [])
    ≡ codes "c 1\n" ∷ (codes "s 2\n" ∷ (codes "d 10\n" ∷ (codes "i 2 -1\n" ∷ [])))
unfolding digits
step_rows = refl

-- ---- Lines ----

-- the first word is what stands before the first space, all of it; behind a space in front it is empty
kind_rows
    : map kind_of (codes "left-term" ∷ (codes "left -term" ∷ (codes "lefts" ∷ (codes " left" ∷ []))))
    ≡ Some kinds.LeftTerm ∷ Some kinds.Left ∷ None ∷ None ∷ []
kind_rows = refl

-- the first place of a handle stands first, and a place has no leading zero
handle_rows
    : map line_of (codes "h 2 4" ∷ (codes "h 02 4" ∷ [])) ≡ Ok (said.step (Handle 2 4)) ∷ Err Form ∷ []
unfolding line_of
handle_rows = refl

-- the least and the greatest place, and the numbers beside them
place_rows
    : map line_of (codes "c 0" ∷ (codes "s 1" ∷ (codes "d 4294967295" ∷ (codes "d 4294967296" ∷ []))))
    ≡ Err Form ∷ Ok (said.step (Swap 1)) ∷ Ok (said.step (Delete 4294967295)) ∷ Err Form ∷ []
unfolding line_of
place_rows = refl

-- a letter that is inserted has its sign, an index of at most 255, and nothing behind it
insert_rows
    : map line_of (codes "i 1 -255" ∷ (codes "i 1 256" ∷ (codes "i 1 1 " ∷ [])))
    ≡ Ok (said.step (Insert 1 (letter 255 true))) ∷ Err Form ∷ Err Form ∷ []
unfolding line_of strict_word_of
insert_rows = refl

-- a keyword alone has the empty word; a space behind it is followed by a letter
word_rows
    : map line_of (codes "left" ∷ (codes "witness " ∷ (codes "right 1 -2" ∷ [])))
    ≡ Ok (said.left []) ∷ Err Form ∷ Ok (said.right (letter 1 false ∷ letter 2 true ∷ [])) ∷ []
unfolding line_of strict_word_of
word_rows = refl

-- a term has brackets round each product, and there is no empty one
term_rows
    : map line_of (codes "right-term ((x*x)*x)" ∷ (codes "left-term x*x" ∷ (codes "left-term" ∷ [])))
    ≡ Ok (said.right_term (multiply (multiply variable variable) variable)) ∷ Err Form ∷ Err Form ∷ []
unfolding line_of strict_term_of
term_rows = refl

-- no other version, nothing behind the end, no other verdict, and `ends` isn't the end
fixed_rows
    : map line_of (codes "braid-trace 2" ∷ (codes "end " ∷ (codes "verdict lesser" ∷ (codes "ends" ∷ []))))
    ≡ Err Form ∷ Err Form ∷ Err Form ∷ Err Unknown ∷ []
unfolding line_of
fixed_rows = refl

-- The term of this height whose left parts are x.
high : ℕ → Term
high zero = variable
high (suc n) = multiply variable (high n)

-- a term of height 255 isn't too large
highest_row : short_term (Some (high 255)) ≡ Ok (high 255)
unfolding high
highest_row = refl

-- one more is too large
higher_row : short_term (Some (high 256)) ≡ Err Long
unfolding high
higher_row = refl

-- no line can say a handle whose second place is 0
no_place_row : IsLine (said.step (Handle 1 0)) → ⊥
no_place_row bounds = absurd (omega (arith, bounds))

-- ---- Verdicts ----

-- `2` is less than `1`, and `1` greater than `2`; the quotient of `1` and `1`, which is `-1 1`, gives none
verdict_rows
    : map verdict_of
    (sign_of (quotient (letter 2 false ∷ []) (letter 1 false ∷ [])) ∷
    (sign_of (quotient (letter 1 false ∷ []) (letter 2 false ∷ [])) ∷
    (sign_of (quotient [] []) ∷ (sign_of (quotient (letter 1 false ∷ []) (letter 1 false ∷ [])) ∷ []))))
    ≡ Some Less ∷ Some Greater ∷ Some Equal ∷ None ∷ []
verdict_rows = refl
