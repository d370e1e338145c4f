use Rattle.std.proofs.Common.{◌++◌, codes, append_assoc, refl}
use Rattle.wb_base.proofs.StreamLemmas.{Puts-stopped, Puts-stopped_after, Puts-more, append_known-two}
use Rattle.wb_base.proofs.WaitingLemmas.{waits-stopped, waits-more, waits-stopped_after}
use Rattle.wb_base.specs.Lines.{line}
use Rattle.braid_word.specs.Notation.{word_field}
use Rattle.trace_format.proofs.trace.put_head.Goals as goal

pub returns-in_err-put_line-clause-took : goal.returns-in_err-put_line-clause-took
returns-in_err-put_line-clause-took g c =
    let start = line (codes "braid-trace 1") in
    let left = line (codes "left" ++ word_field c.args.left.now) in
    let right = line (codes "right" ++ word_field c.args.right.now) in
    Puts-stopped _ _ _ _ start (left ++ right) (append_assoc start left right) c.from_residual.ensures.0
    c.in_err-put_line.ensures.took

pub returns-in_err-put_word_line-clause-took : goal.returns-in_err-put_word_line-clause-took
returns-in_err-put_word_line-clause-took g c =
    let start = line (codes "braid-trace 1") in
    let left = line (codes "left" ++ word_field c.args.left.now) in
    let right = line (codes "right" ++ word_field c.args.right.now) in
    Puts-stopped_after _ _ _ _ _ start left right refl c.from_residual-in_err-put_word_line.ensures.0
    c.in_ok-put_line.ensures.took c.in_err-put_word_line.ensures.took

pub returns-clause-took : goal.returns-clause-took
returns-clause-took g c =
    let start = line (codes "braid-trace 1") in
    let left = line (codes "left" ++ word_field c.args.left.now) in
    let right = line (codes "right" ++ word_field c.args.right.now) in
    Puts-more _ _ _ _ _ (start ++ left) right refl
    (append_known-two _ _ _ start left c.in_ok-put_line.ensures.took c.in_ok-put_word_line.ensures.took)
    c.put_word_line-2.ensures.took

pub returns-in_err-put_line-clause-waits : goal.returns-in_err-put_line-clause-waits
returns-in_err-put_line-clause-waits g c =
    let start = line (codes "braid-trace 1") in
    let left = line (codes "left" ++ word_field c.args.left.now) in
    let right = line (codes "right" ++ word_field c.args.right.now) in
    waits-stopped _ _ _ start (left ++ right) (append_assoc start left right)
    c.in_err-put_line.ensures.waits

pub returns-in_err-put_word_line-clause-waits : goal.returns-in_err-put_word_line-clause-waits
returns-in_err-put_word_line-clause-waits g c =
    let start = line (codes "braid-trace 1") in
    let left = line (codes "left" ++ word_field c.args.left.now) in
    let right = line (codes "right" ++ word_field c.args.right.now) in
    waits-stopped_after _ _ _ _ start left right refl c.in_ok-put_line.ensures.waits
    c.in_err-put_word_line.ensures.waits

pub returns-clause-waits : goal.returns-clause-waits
returns-clause-waits g c =
    let start = line (codes "braid-trace 1") in
    let left = line (codes "left" ++ word_field c.args.left.now) in
    let right = line (codes "right" ++ word_field c.args.right.now) in
    let both = waits-more _ _ _ _ start left refl c.in_ok-put_line.ensures.waits
    c.in_ok-put_word_line.ensures.waits in
    waits-more _ _ _ _ (start ++ left) right refl both c.put_word_line-2.ensures.waits
