use Rattle.std.proofs.Common.{◌<◌, suc, [], ◌∷◌, ◌++◌, take, drop, ap, ◌∙◌, ◌≡◌, subst, arith, add-one}
use Rattle.std.proofs.Math.Seq.{split_at}
use Rattle.std.proofs.lemmas.List.{append-nil, get_or-take, length-take, take_rest}
use Rattle.wb_base.specs.Lines.{cut, HasNoLf}
use Rattle.line_file.proofs.CutLemmas.{cut-onto_front, cut-line}
use Rattle.line_file.proofs.checker.first_line.Goals as goal

pub returns-then-byte-eq10 : goal.returns-then-byte-eq10
returns-then-byte-eq10 c =
    let bytes = c.args.bytes.now in
    let i = c.loop-i.i in
    let front : HasNoLf (take i bytes)
    = λ k below.
    let within : k < i = omega (arith, length-take i bytes) in
    rw (get_or-take i bytes k 0 within) (c.loop-i.invariant k within) in
    rw (take_rest, add-one)
    (ap cut (split_at bytes i 0 (omega arith)
    ∙ ap (λ b. take i bytes ++ b ∷ drop (suc i) bytes) c.if-byte-eq10.true)
    ∙ cut-line (take i bytes) (drop (suc i) bytes) front)

pub returns : goal.returns
returns c =
    let bytes = c.args.bytes.now in
    subst (λ all. cut all ≡ ([], all)) (append-nil bytes)
    (cut-onto_front bytes [] (λ k below. c.loop-i.invariant k (omega arith)))
