-- The length of the trace file of a run: `check` can read what `compare` writes.
use Rattle.std.proofs.Common.{◌≡◌, ℕ, ◌+◌, ◌*◌, ◌≤◌, List, [], ◌∷◌, ◌++◌, length, length-append, codes, decimal, map, flat_map, subst, sym, arith}
use Rattle.std.specs.List.{AllByRecursion}
use Rattle.wb_base.specs.Lines.{line}
use Rattle.handle_reduce.specs.declared.TheConstants.{MAX_BOUND}
use Rattle.trace_format.specs.Said as said
use Rattle.braid_word.specs.Notation.{word_field}
use Rattle.trace_format.specs.TraceText.{Header, Trace, step_text, step_line, handle_step, verdict_word, head_text, tail_text, trace_text}
use Rattle.wb_base.specs.Fields.{IsPlace}
use Rattle.trace_format.specs.TraceLines.{line_text, IsStepLine, IsHeader, IsTrace}
use Rattle.trace_format.proofs.TraceLaws.{left_line, right_line, head_text-lines, IsLine-left_line, IsLine-right_line}
use Rattle.trace_check.specs.declared.TheConstants.{MAX_LINE}
use Rattle.trace_check.proofs.LineLengths.{length-place, length-line_text}
use Rattle.wb_command.specs.declared.TheConstants.{MAX_INPUT}

-- a line has its LF more
length-line : (text : List ℕ) → length (line text) ≡ length text + 1
length-line text = length-append text (10 ∷ [])

-- a step on a handle has at most 24 bytes
length-handle_line
    : (p q : ℕ)
    → IsPlace p
    → IsPlace q
    → length (step_line (handle_step (p, q))) ≤ 24
length-handle_line p q start end =
    let whole = length-line (step_text (handle_step (p, q))) in
    let parts = length-append (decimal p) (32 ∷ decimal q) in
    omega (arith, whole, parts, length-place p start, length-place q end)

-- so many steps have so many times that
length-handle_lines
    : (places : List (ℕ × ℕ))
    → AllByRecursion IsStepLine (map handle_step places)
    → length (flat_map step_line (map handle_step places)) ≤ 24 * length places
length-handle_lines [] are = omega arith
length-handle_lines ((p, q) ∷ places) are =
    let first = length-handle_line p q are.0.0 are.0.1 in
    let rest = length-handle_lines places are.1 in
    omega (
      arith,
      first,
      rest,
      length-append (step_line (handle_step (p, q))) (flat_map step_line (map handle_step places)),
    )

-- the lines before the steps
length-head_text : (h : Header) → IsHeader h → length (head_text h) ≤ 2 * MAX_LINE + 20
length-head_text h is =
    let left = length-line_text (left_line h) (IsLine-left_line h is) in
    let right = length-line_text (right_line h) (IsLine-right_line h is) in
    let start : List ℕ = line (codes "braid-trace 1") in
    let first : List ℕ = line (line_text (left_line h)) in
    let second : List ℕ = line (line_text (right_line h)) in
    subst (λ (text : List ℕ). length text ≤ 2 * MAX_LINE + 20) (sym (head_text-lines h)) (omega (
      arith,
      left,
      right,
      length-line (line_text (left_line h)),
      length-line (line_text (right_line h)),
      length-append start first,
      length-append (start ++ first) second,
    ))

-- the trace of a run that makes no more reductions than it may is no longer than an input may be
pub length-trace_text
    : (t : Trace) (places : List (ℕ × ℕ))
    → IsTrace t
    → t.steps ≡ map handle_step places
    → length places ≤ MAX_BOUND
    → length (trace_text t) ≤ MAX_INPUT
unfolding trace_text
length-trace_text t places is steps few =
    let head = length-head_text t.header is.header in
    let verdict = length-line_text (said.verdict t.verdict) tt in
    let witness = length-line_text (said.witness t.witness) is.witness in
    let finish = length-line_text said.finish tt in
    let all : length (flat_map step_line t.steps) ≤ 24 * length places
    = subst (λ ss. length (flat_map step_line ss) ≤ 24 * length places) (sym steps)
    (length-handle_lines places (subst (AllByRecursion IsStepLine) steps is.steps)) in
    omega (
      arith,
      few,
      all,
      head,
      verdict,
      witness,
      finish,
      length-line (codes "verdict " ++ verdict_word t.verdict),
      length-line (codes "witness" ++ word_field t.witness),
      length-line (codes "end"),
      length-append (line (codes "verdict " ++ verdict_word t.verdict))
          (line (codes "witness" ++ word_field t.witness)),
      length-append (line (codes "verdict " ++ verdict_word t.verdict)
          ++ line (codes "witness" ++ word_field t.witness)) (line (codes "end")),
      length-append (head_text t.header) (flat_map step_line t.steps),
      length-append (head_text t.header ++ flat_map step_line t.steps)
          (tail_text t.verdict t.witness),
    )
