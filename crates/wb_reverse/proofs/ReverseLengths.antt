-- The length of the reverse file of a run: `reverse-check` can read what `reverse` writes.
use Rattle.std.proofs.Common.{◌≡◌, ℕ, ◌+◌, ◌*◌, ◌≤◌, List, [], ◌∷◌, ◌++◌, length, length-append, codes, decimal, flat_map, arith}
use Rattle.std.specs.List.{AllByRecursion}
use Rattle.wb_base.specs.Fields.{IsPlace}
use Rattle.wb_base.specs.Lines.{line}
use Rattle.braid_word.specs.Notation.{word_field}
use Rattle.word_reverse.specs.declared.TheConstants.{MAX_BOUND}
use Rattle.word_reverse.specs.ReverseLines as said
use Rattle.word_reverse.specs.ReverseLines.{IsReversal}
use Rattle.word_reverse.specs.ReverseText.{Reversal, step_line, head_text, tail_text, reverse_text}
use Rattle.word_reverse.proofs.LineLaws.{length-place, length-line_text}
use Rattle.wb_command.specs.declared.TheConstants.{MAX_INPUT}

-- a line has its LF more
length-line : (text : List ℕ) → length (line text) ≡ length text + 1
length-line text = length-append text (10 ∷ [])

-- a step has at most 13 bytes
length-step_line : (p : ℕ) → IsPlace p → length (step_line p) ≤ 13
length-step_line p is = omega (
  arith,
  length-line (codes "r " ++ decimal p),
  length-append (codes "r ") (decimal p),
  length-place p is,
)

-- so many steps have so many times that
length-step_lines
    : (places : List ℕ)
    → AllByRecursion IsPlace places
    → length (flat_map step_line places) ≤ 13 * length places
length-step_lines [] are = omega arith
length-step_lines (p ∷ places) are =
    let first = length-step_line p are.0 in
    let rest = length-step_lines places are.1 in
    omega (arith, first, rest, length-append (step_line p) (flat_map step_line places))

-- the file of a run that turns no more corners than it may is no longer than an input may be
pub length-reverse_text
    : (r : Reversal)
    → IsReversal r
    → length r.places ≤ MAX_BOUND
    → length (reverse_text r) ≤ MAX_INPUT
unfolding reverse_text
length-reverse_text r is few =
    let word = length-line_text (said.word r.word) is.word in
    let left = length-line_text (said.left r.left) is.left in
    let right = length-line_text (said.right r.right) is.right in
    let steps = length-step_lines r.places is.places in
    let first = line (codes "left" ++ word_field r.left) in
    let second = line (codes "right" ++ word_field r.right) in
    omega (
      arith,
      few,
      word,
      left,
      right,
      steps,
      length-line (codes "reverse-trace 1"),
      length-line (codes "word" ++ word_field r.word),
      length-line (codes "left" ++ word_field r.left),
      length-line (codes "right" ++ word_field r.right),
      length-line (codes "end"),
      length-append (line (codes "reverse-trace 1")) (line (codes "word" ++ word_field r.word)),
      length-append first second,
      length-append (first ++ second) (line (codes "end")),
      length-append (head_text r.word) (flat_map step_line r.places),
      length-append (head_text r.word ++ flat_map step_line r.places) (tail_text r.left r.right),
    )
