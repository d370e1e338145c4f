use Rattle.std.proofs.Common.{◌∙◌, refl, sym, arith}
use Rattle.ld_term.proofs.PieceLemmas.{piece-none, piece-byte, piece-run}
use Rattle.ld_term.proofs.token.next_piece.Goals as goal

pub returns-then-start-line : goal.returns-then-start-line
returns-then-start-line c = piece-none _ _ _ _ c.next_start-start.ensures c.if-start-line.true

pub returns-then-is_run_byte : goal.returns-then-is_run_byte
returns-then-is_run_byte c =
    let starts = c.next_start-start.ensures in
    let within = starts.within in
    piece-run _ _ _ _ _ _ _ starts (omega arith) refl (sym c.is_run_byte.ensures ∙ c.if-is_run_byte.true)
    c.run_end-end.ensures.value c.kind_of_run-kind.ensures.token c.kind_of_run-kind.ensures.named

pub returns : goal.returns
returns c =
    let starts = c.next_start-start.ensures in
    let within = starts.within in
    piece-byte _ _ _ _ _ _ starts (omega arith) refl (sym c.is_run_byte.ensures ∙ c.if-is_run_byte.false)
    c.kind_of_byte-kind.ensures.token c.kind_of_byte-kind.ensures.named
